use Rattle.edit_session.proofs.HeldLaws as found
use Rattle.edit_session.proofs.law.lowest_picks_are_first.Goals as goal

pub returns : goal.returns
returns c = found.lowest_picks_are_first
