use Rattle.std.proofs.Common.{◌≡◌, List, map, sym, ap, ◌∙◌}
use Rattle.dcop_base.specs.declared.knowledge.Private.{Private}
use Rattle.protocol_steps.specs.View.{View, private_of}
use Rattle.letter_queues.specs.Links.{LinkView, new_link}
use Rattle.delivery_core.specs.State.{SeatView}
use Rattle.delivery_core.specs.Starts.{agent_of}
use Rattle.delivery_core.proofs.StartLaws.{neighbours_kept}
use Rattle.delivery_core.proofs.start.make_seat.Goals as goal

pub returns : goal.returns
returns c =
    let made : View = agent_of c.args.problem.now c.args.start.now c.args.own.me in
    let near : c.as_slice.result.now ≡ (private_of made).neighbours =
    c.as_slice.ensures ∙ ap (λ (own : Private). own.neighbours) c.requires.known ∙ sym (neighbours_kept c.args.problem.now c.args.start.now c.args.own.me) in
    let links : c.in_ok-inbox.inbox ≡ map new_link (private_of made).neighbours = c.in_ok-inbox.ensures ∙ ap (map new_link) near in
    c.new-2.ensures
    ∙ ap (λ (v : View). let x : SeatView = record { view = v; inbox = c.in_ok-inbox.inbox } in x) c.in_ok-agent.ensures
    ∙ ap (λ (ls : List LinkView). let x : SeatView = record { view = made; inbox = ls } in x) links
