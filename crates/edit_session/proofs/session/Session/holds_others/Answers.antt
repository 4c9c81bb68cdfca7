use Rattle.std.proofs.Common.{subst}
use Rattle.edit_session.specs.Session.{HoldsOthers}
use Rattle.edit_session.proofs.session.Session.holds_others.Goals as goal

pub returns : goal.returns
returns c = subst HoldsOthers c.self.view_is c.self.invariant.held
