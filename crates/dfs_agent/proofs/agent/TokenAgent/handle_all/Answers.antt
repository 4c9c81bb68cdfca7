use Rattle.dfs_agent.proofs.AgentLaws.{near_at}
use Rattle.dfs_agent.proofs.agent.TokenAgent.handle_all.Goals as goal

pub handle-requires-clause-near : goal.handle-requires-clause-near
handle-requires-clause-near c =
    near_at c.args.self.now.own c.loop-letter.self.own c.args.letters.now c.loop-letter.letter-index c.letter-item.result c.loop-letter.invariant.2 c.loop-letter-test.true c.letter-item.is c.requires.near
