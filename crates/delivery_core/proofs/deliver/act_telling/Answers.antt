use Rattle.std.proofs.Common.{◌≡◌, ℕ, ◌<◌, refl, subst, sym, ap, ◌∙◌}
use Rattle.std.specs.List.{All}
use Rattle.std.proofs.lemmas.List.{length-set}
use Rattle.protocol_steps.specs.declared.message.Message.{Message}
use Rattle.protocol_steps.specs.declared.event.Event.{Event}
use Rattle.protocol_steps.specs.Machine.{MayReact, IsBatch, IsToNeighbour}
use Rattle.letter_queues.specs.Inboxes.{letters_by}
use Rattle.letter_queues.proofs.ListLaws.{on_ok}
use Rattle.delivery_core.specs.State.{SeatView}
use Rattle.delivery_core.specs.SeatEvents.{seat_after, seat_sends}
use Rattle.delivery_core.proofs.ActLaws.{seated, read_seat, may_react, is_batch, all_below, moved, traded}
use Rattle.delivery_core.proofs.deliver.act_telling.Goals as goal

pub react_telling-requires-clause-ready : goal.react_telling-requires-clause-ready
react_telling-requires-clause-ready c =
    let e : Event = record { agent = c.args.agent; takes = c.args.takes.now } in
    let n = c.requires.network in
    let h = seated c.args.seats.now e c.requires.lawful in
    let is = read_seat c.args.seats.now e h c.agent.inside.0 c.index-seats-agent.result c.agent.view_is in
    subst (λ (y : SeatView). MayReact y.view) (sym is) (may_react n.0 n.1 c.args.seats.now n.2 e h.seat h.here h.fine)

pub react_telling-requires-clause-batch : goal.react_telling-requires-clause-batch
react_telling-requires-clause-batch c =
    let e : Event = record { agent = c.args.agent; takes = c.args.takes.now } in
    let n = c.requires.network in
    let h = seated c.args.seats.now e c.requires.lawful in
    let is = read_seat c.args.seats.now e h c.agent.inside.0 c.index-seats-agent.result c.agent.view_is in
    subst (λ (y : SeatView). IsBatch y.view (letters_by y.inbox c.args.takes.now)) (sym is) (is_batch n.0 n.1 c.args.seats.now n.2 e h.seat h.here h.fine)

pub post-requires : goal.post-requires
post-requires c =
    let e : Event = record { agent = c.args.agent; takes = c.args.takes.now } in
    let n = c.requires.network in
    let h = seated c.args.seats.now e c.requires.lawful in
    let is = read_seat c.args.seats.now e h c.agent.inside.0 c.index-seats-agent.result c.agent.view_is in
    let reach = subst (λ (y : SeatView). All (IsToNeighbour y.view) c.react_telling.new.parcels.items) is c.in_ok-react_telling.ensures.receivers in
    subst (λ (m : ℕ). All (λ (q : ℕ × Message). q.0 < m) c.react_telling.new.parcels.items) (sym (length-set c.args.seats.now c.agent.inside.0 c.react_telling.new.self))
    (all_below n.0 n.1 c.args.seats.now n.2 e h.seat h.here h.fine c.react_telling.new.parcels.items reach)

pub returns-clause-moved : goal.returns-clause-moved
returns-clause-moved c =
    let e : Event = record { agent = c.args.agent; takes = c.args.takes.now } in
    let h = seated c.args.seats.now e c.requires.lawful in
    let is = read_seat c.args.seats.now e h c.agent.inside.0 c.index-seats-agent.result c.agent.view_is in
    let reach = subst (λ (y : SeatView). All (IsToNeighbour y.view) c.react_telling.new.parcels.items) is c.in_ok-react_telling.ensures.receivers in
    let after : c.react_telling.new.self ≡ seat_after h.seat c.args.takes.now = c.in_ok-react_telling.ensures.after ∙ ap (λ (y : SeatView). seat_after y c.args.takes.now) is in
    let sends : c.react_telling.new.parcels.items ≡ seat_sends h.seat c.args.takes.now = c.in_ok-react_telling.ensures.sends ∙ ap (λ (y : SeatView). seat_sends y c.args.takes.now) is in
    on_ok c.post.result c.post.ensures.came (λ new. moved c.args.seats.now e h c.agent.inside.0 c.args.agent c.react_telling.new.self c.react_telling.new.parcels.items c.post.new.seats c.agent.view_is refl after sends reach new)

pub returns-clause-tells : goal.returns-clause-tells
returns-clause-tells c =
    let e : Event = record { agent = c.args.agent; takes = c.args.takes.now } in
    let h = seated c.args.seats.now e c.requires.lawful in
    let is = read_seat c.args.seats.now e h c.agent.inside.0 c.index-seats-agent.result c.agent.view_is in
    let took : c.react_telling.new.exchange.took.items ≡ letters_by h.seat.inbox c.args.takes.now = c.in_ok-react_telling.ensures.took ∙ ap (λ (y : SeatView). letters_by y.inbox c.args.takes.now) is in
    let sent : c.react_telling.new.exchange.sent.items ≡ seat_sends h.seat c.args.takes.now = c.in_ok-react_telling.ensures.sent ∙ ap (λ (y : SeatView). seat_sends y c.args.takes.now) is in
    on_ok c.post.result c.post.ensures.came (λ new. traded c.args.seats.now e h c.react_telling.new.exchange.took.items c.react_telling.new.exchange.sent.items took sent)
