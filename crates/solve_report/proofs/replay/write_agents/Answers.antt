use Rattle.std.proofs.Common.{arith}
use Rattle.solve_report.proofs.ReplayLaws.{agents-more}
use Rattle.solve_report.proofs.replay.write_agents.Goals as goal

pub loop-row-preserved : goal.loop-row-preserved
loop-row-preserved c =
    agents-more c.args.names.now c.args.agents.now c.loop-row.row-index c.row-item.result _ _ _ (omega (arith, c.loop-row-test.true)) c.row-item.is c.in_ok-write_agent.ensures c.loop-row.invariant
