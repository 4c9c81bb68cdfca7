use Rattle.edit_session.proofs.HeldLaws as found
use Rattle.edit_session.proofs.law.children_may_be_joined.Goals as goal

pub returns : goal.returns
returns c = found.children_may_be_joined
