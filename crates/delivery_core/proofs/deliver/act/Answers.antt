use Rattle.std.proofs.Common.{◌≡◌, ℕ, ◌<◌, refl, subst, sym, ap, ◌∙◌}
use Rattle.std.specs.List.{All}
use Rattle.std.proofs.lemmas.List.{length-set}
use Rattle.protocol_steps.specs.declared.message.Message.{Message}
use Rattle.protocol_steps.specs.declared.event.Event.{Event}
use Rattle.protocol_steps.specs.Machine.{MayReact, IsBatch, IsToNeighbour}
use Rattle.letter_queues.specs.Inboxes.{letters_by}
use Rattle.letter_queues.proofs.ListLaws.{on_ok}
use Rattle.delivery_core.specs.State.{SeatView}
use Rattle.delivery_core.specs.SeatEvents.{seat_after, seat_sends}
use Rattle.delivery_core.proofs.ActLaws.{seated, read_seat, may_react, is_batch, all_below, moved}
use Rattle.delivery_core.proofs.deliver.act.Goals as goal

pub react-requires-clause-ready : goal.react-requires-clause-ready
react-requires-clause-ready c =
    let e : Event = record { agent = c.args.agent; takes = c.args.takes.now } in
    let n = c.requires.network in
    let h = seated c.args.seats.now e c.requires.lawful in
    let is = read_seat c.args.seats.now e h c.agent.inside.0 c.index-seats-agent.result c.agent.view_is in
    subst (λ (y : SeatView). MayReact y.view) (sym is) (may_react n.0 n.1 c.args.seats.now n.2 e h.seat h.here h.fine)

pub react-requires-clause-batch : goal.react-requires-clause-batch
react-requires-clause-batch c =
    let e : Event = record { agent = c.args.agent; takes = c.args.takes.now } in
    let n = c.requires.network in
    let h = seated c.args.seats.now e c.requires.lawful in
    let is = read_seat c.args.seats.now e h c.agent.inside.0 c.index-seats-agent.result c.agent.view_is in
    subst (λ (y : SeatView). IsBatch y.view (letters_by y.inbox c.args.takes.now)) (sym is) (is_batch n.0 n.1 c.args.seats.now n.2 e h.seat h.here h.fine)

pub post-requires : goal.post-requires
post-requires c =
    let e : Event = record { agent = c.args.agent; takes = c.args.takes.now } in
    let n = c.requires.network in
    let h = seated c.args.seats.now e c.requires.lawful in
    let is = read_seat c.args.seats.now e h c.agent.inside.0 c.index-seats-agent.result c.agent.view_is in
    let reach = subst (λ (y : SeatView). All (IsToNeighbour y.view) c.react.new.parcels.items) is c.in_ok-react.ensures.receivers in
    subst (λ (m : ℕ). All (λ (q : ℕ × Message). q.0 < m) c.react.new.parcels.items) (sym (length-set c.args.seats.now c.agent.inside.0 c.react.new.self))
    (all_below n.0 n.1 c.args.seats.now n.2 e h.seat h.here h.fine c.react.new.parcels.items reach)

pub returns-clause-moved : goal.returns-clause-moved
returns-clause-moved c =
    let e : Event = record { agent = c.args.agent; takes = c.args.takes.now } in
    let h = seated c.args.seats.now e c.requires.lawful in
    let is = read_seat c.args.seats.now e h c.agent.inside.0 c.index-seats-agent.result c.agent.view_is in
    let reach = subst (λ (y : SeatView). All (IsToNeighbour y.view) c.react.new.parcels.items) is c.in_ok-react.ensures.receivers in
    let after : c.react.new.self ≡ seat_after h.seat c.args.takes.now = c.in_ok-react.ensures.after ∙ ap (λ (y : SeatView). seat_after y c.args.takes.now) is in
    let sends : c.react.new.parcels.items ≡ seat_sends h.seat c.args.takes.now = c.in_ok-react.ensures.sends ∙ ap (λ (y : SeatView). seat_sends y c.args.takes.now) is in
    on_ok c.post.result c.post.ensures.came (λ new. moved c.args.seats.now e h c.agent.inside.0 c.args.agent c.react.new.self c.react.new.parcels.items c.post.new.seats c.agent.view_is refl after sends reach new)
