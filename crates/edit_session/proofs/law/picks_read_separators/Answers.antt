use Rattle.edit_session.proofs.HeldLaws as found
use Rattle.edit_session.proofs.law.picks_read_separators.Goals as goal

pub returns : goal.returns
returns c = found.picks_read_separators
