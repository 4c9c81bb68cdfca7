use Rattle.std.proofs.Common.{List, sym, subst}
use Rattle.protocol_steps.specs.declared.event.Event.{Event}
use Rattle.delivery_core.specs.Agents.{network_of}
use Rattle.delivery_turns.specs.Turns.{IsPlayed}
use Rattle.delivery_turns.proofs.turn.play.Goals as goal

pub returns-clause-end : goal.returns-clause-end
returns-clause-end c =
    let p = c.args.problem.now in
    let out = c.in_ok-events.ensures p (network_of p c.args.start) c.in_ok-state.ensures.core in
    subst (λ (es : List Event). IsPlayed c.args.budget (network_of p c.args.start) es c.play_rounds.new.state) (sym c.from_vec.ensures) out.0

pub returns-clause-size : goal.returns-clause-size
returns-clause-size c =
    let p = c.args.problem.now in
    (c.in_ok-events.ensures p (network_of p c.args.start) c.in_ok-state.ensures.core).1
