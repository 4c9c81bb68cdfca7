use Rattle.std.proofs.Common.{ℕ, length, get_or, sym, subst, rules}
use Rattle.std.proofs.lemmas.Iterator.Consumers.{YieldsList-turn}
use Rattle.std.proofs.lemmas.Iterator.Adapters.{YieldsList-from_vec}
use Rattle.protocol_steps.specs.Machine.{MayStart}
use Rattle.delivery_core.specs.State.{SeatView}
use Rattle.delivery_core.proofs.StartLaws.{agent_there}
use Rattle.delivery_core.proofs.start.first_of_all.Goals as goal

pub first_of-requires : goal.first_of-requires
first_of-requires c =
    let seats = c.args.seats.items in
    let n : ℕ = length c.loop-seat.yielded in
    let seat = c.in-Some.seat in
    let turn = YieldsList-turn (YieldsList-from_vec {s = c.into_iter-seat-iterator.result} seats (search rules) (search rules))
    c.loop-seat.yielded c.loop-seat.seat-iterator c.loop-seat.yielded_by c.next.result c.next.new.self seat c.in-Some.is c.next.ensures.steps in
    subst (λ (x : SeatView). MayStart x.view) (sym turn.1) (c.requires n (get_or seats n seat) (agent_there seats n seat turn.0))
