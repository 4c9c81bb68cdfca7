use Rattle.std.proofs.Common.{ℕ, List, sym, subst}
use Rattle.std.specs.List.{All}
use Rattle.protocol_steps.specs.declared.message.Message.{Message}
use Rattle.protocol_steps.specs.Machine.{IsToNeighbour}
use Rattle.delivery_core.specs.State.{SeatView}
use Rattle.delivery_core.proofs.seat.Seat.answer.Goals as goal

pub returns-clause-receivers : goal.returns-clause-receivers
returns-clause-receivers c =
    let sent = subst (λ (x : SeatView). All (IsToNeighbour x.view) c.react.new.out) c.self.view_is c.in_ok-react.ensures.receivers in
    subst (λ (ms : List (ℕ × Message)). All (IsToNeighbour c.args.self.now.view) ms) (sym c.into_vec.ensures) sent
