use Rattle.std.proofs.Common.{subst}
use Rattle.std.specs.List.{All}
use Rattle.std.specs.Result.{OnOk}
use Rattle.protocol_steps.specs.Machine.{IsToNeighbour}
use Rattle.delivery_core.specs.State.{SeatView}
use Rattle.delivery_core.proofs.seat.Seat.react.Goals as goal

pub returns-clause-receivers : goal.returns-clause-receivers
returns-clause-receivers c = subst (λ (x : SeatView). OnOk c.answer.result (All (IsToNeighbour x.view) c.answer.new.parcels.items)) c.self.view_is c.answer.ensures.receivers
