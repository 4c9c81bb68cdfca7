use Rattle.std.proofs.Common.{subst, ap, ◌∙◌}
use Rattle.protocol_steps.specs.Token.{TokenView}
use Rattle.protocol_steps.specs.TokenStep.{token_step}
use Rattle.protocol_steps.specs.Laws.{IsParentBeside}
use Rattle.dfs_agent.proofs.AgentLaws.{is_step, step_reaches}
use Rattle.dfs_agent.proofs.agent.TokenAgentMachine.react.Goals as goal

pub returns-clause-ok : goal.returns-clause-ok
returns-clause-ok c =
    let old = c.args.self.now in
    let viewed = c.in-Ok.ensures.viewed ∙ ap (λ ls. (token_step old ls).view) c.as_slice.ensures in
    let sent = c.from_vec.ensures ∙ c.in-Ok.ensures.sent ∙ ap (λ ls. (token_step old ls).sends) c.as_slice.ensures in
    is_step old c.handle_all.new.self c.args.batch.now c.from_vec.result viewed sent

pub returns-clause-receivers : goal.returns-clause-receivers
returns-clause-receivers c =
    let old = c.args.self.now in
    let beside = subst (λ (v : TokenView). IsParentBeside v.own.neighbours v.path) c.self.view_is c.self.invariant.beside in
    let sent = c.from_vec.ensures ∙ c.in-Ok.ensures.sent ∙ ap (λ ls. (token_step old ls).sends) c.as_slice.ensures in
    step_reaches old c.args.batch.now c.from_vec.result beside c.requires.batch.neighbours sent
