use Rattle.std.proofs.Common.{ℕ, List, ap, ◌∙◌}
use Rattle.protocol_steps.specs.declared.message.Message.{Message}
use Rattle.protocol_steps.specs.AdoptStep.{adopt_step}
use Rattle.adopt_agent.specs.Deed.{GivesAdoptStep}
use Rattle.adopt_agent.proofs.AgentLaws.{is_step, step_reaches}
use Rattle.adopt_agent.proofs.agent.AdoptAgentMachine.react.Goals as goal

pub returns-clause-ok : goal.returns-clause-ok
returns-clause-ok c =
    let old = c.args.self.now in
    let gives = c.in-Ok.ensures.gives in
    let steps : GivesAdoptStep (adopt_step old c.args.batch.now) c.handle_all.new.self c.from_vec-2.result = record {
      viewed = gives.viewed ∙ ap (λ (ls : List (ℕ × Message)). (adopt_step old ls).view) c.as_slice.ensures;
      sent = c.from_vec-2.ensures ∙ gives.sent ∙ ap (λ (ls : List (ℕ × Message)). (adopt_step old ls).sends) c.as_slice.ensures;
    } in
    is_step old c.handle_all.new.self c.args.batch.now c.from_vec-2.result steps

pub returns-clause-receivers : goal.returns-clause-receivers
returns-clause-receivers c =
    let old = c.args.self.now in
    let gives = c.in-Ok.ensures.gives in
    let steps : GivesAdoptStep (adopt_step old c.args.batch.now) c.handle_all.new.self c.from_vec-2.result = record {
      viewed = gives.viewed ∙ ap (λ (ls : List (ℕ × Message)). (adopt_step old ls).view) c.as_slice.ensures;
      sent = c.from_vec-2.ensures ∙ gives.sent ∙ ap (λ (ls : List (ℕ × Message)). (adopt_step old ls).sends) c.as_slice.ensures;
    } in
    step_reaches old c.handle_all.new.self c.args.batch.now c.from_vec-2.result c.requires.batch.neighbours steps
