use Rattle.std.proofs.Common.{subst, ap, ◌∙◌}
use Rattle.protocol_steps.specs.Dpop.{DpopView}
use Rattle.protocol_steps.specs.DpopStep.{dpop_step}
use Rattle.protocol_steps.specs.Placing.{IsPlaceFor}
use Rattle.dpop_agent.proofs.BatchLaws.{is_step, stands_beside, step_reaches}
use Rattle.dpop_agent.proofs.agent.DpopAgentMachine.react.Goals as goal

pub returns-clause-ok : goal.returns-clause-ok
returns-clause-ok c =
    let old = c.args.self.now in
    let viewed = c.in-Ok.ensures.viewed ∙ ap (λ ls. (dpop_step old ls).view) c.as_slice.ensures in
    let sent = c.from_vec-2.ensures ∙ c.in-Ok.ensures.sent ∙ ap (λ ls. (dpop_step old ls).sends) c.as_slice.ensures in
    is_step old c.handle_all.new.self c.args.batch.now c.from_vec-2.result viewed sent

pub returns-clause-receivers : goal.returns-clause-receivers
returns-clause-receivers c =
    let old = c.args.self.now in
    let placed = subst (λ (v : DpopView). IsPlaceFor v.own v.place) c.self.view_is c.self.invariant.keeper.placed in
    let sent = c.from_vec-2.ensures ∙ c.in-Ok.ensures.sent ∙ ap (λ ls. (dpop_step old ls).sends) c.as_slice.ensures in
    step_reaches old c.args.batch.now c.from_vec-2.result (stands_beside old placed) c.requires.batch.neighbours sent
