use Rattle.dfs_agent.specs.Stage.{path_at}
use Rattle.dfs_agent.proofs.AgentLaws.{fails_sound}
use Rattle.dfs_agent.proofs.agent.TokenAgent.fail.Goals as goal

pub invariant_of-self : goal.invariant_of-self
invariant_of-self c =
    let a = c.self.inside in
    fails_sound a.own a.stage (path_at a.stage a.path) a.kept.items c.self.invariant
