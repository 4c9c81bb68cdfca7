use Rattle.std.proofs.Common.{subst, ◌∙◌}
use Rattle.protocol_steps.specs.Token.{TokenView}
use Rattle.protocol_steps.specs.Laws.{IsParentBeside}
use Rattle.dfs_agent.proofs.AgentLaws.{is_start, start_reaches}
use Rattle.dfs_agent.proofs.agent.TokenAgentMachine.start.Goals as goal

pub returns-clause-ok : goal.returns-clause-ok
returns-clause-ok c =
    is_start c.args.self.now c.begin.new.self c.from_vec.result c.in-Ok.ensures.viewed (c.from_vec.ensures ∙ c.in-Ok.ensures.sent)

pub returns-clause-receivers : goal.returns-clause-receivers
returns-clause-receivers c =
    let beside = subst (λ (v : TokenView). IsParentBeside v.own.neighbours v.path) c.self.view_is c.self.invariant.beside in
    start_reaches c.args.self.now c.from_vec.result beside (c.from_vec.ensures ∙ c.in-Ok.ensures.sent)
