use Rattle.edit_session.proofs.KeptLaws as found
use Rattle.edit_session.proofs.law.one_more_is_held.Goals as goal

pub returns : goal.returns
returns c = found.one_more_is_held
