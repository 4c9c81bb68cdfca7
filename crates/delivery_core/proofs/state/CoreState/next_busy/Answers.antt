use Rattle.std.proofs.Common.{◌<◌, ◌≤◌, length, IfSome, MatchOption, subst}
use Rattle.delivery_core.specs.State.{CoreView}
use Rattle.delivery_core.specs.Takes.{TakeNothing}
use Rattle.delivery_core.proofs.CalmLaws.{busy_within, busy_passed}
use Rattle.delivery_core.proofs.state.CoreState.next_busy.Goals as goal

pub returns-clause-within : goal.returns-clause-within
returns-clause-within c =
    subst (λ (s : CoreView). IfSome c.next_busy.result (λ me. (c.args.from ≤ me) × (me < length s.seats))) c.self.view_is
    (busy_within c.self.inside.arrivals c.self.inside.seats.items c.args.from c.next_busy.result c.self.invariant c.next_busy.ensures)

pub returns-clause-passed : goal.returns-clause-passed
returns-clause-passed c =
    subst (λ (s : CoreView). MatchOption c.next_busy.result (TakeNothing s.seats c.args.from (length s.seats)) (λ me. TakeNothing s.seats c.args.from me)) c.self.view_is
    (busy_passed c.self.inside.arrivals c.self.inside.seats.items c.args.from c.next_busy.result c.self.invariant c.next_busy.ensures)
