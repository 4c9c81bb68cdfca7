use Rattle.protocol_steps.specs.Outcomes.{HaveRun}
use Rattle.delivery_core.specs.Agents.{agents_of}
use Rattle.cut_dpop.specs.Start.{paths_in, turn_deliveries, HaveFirst}
use Rattle.cut_dpop.proofs.AgreedLaws.{have-first, if-ok}
use Rattle.cut_dpop.proofs.turn.solve_left.Goals as goal

pub returns : goal.returns
returns g c =
    if-ok c.run_agents.result (HaveRun (turn_deliveries c.args.left.now) (agents_of c.args.left.now c.args.start.now)) (HaveFirst c.args.left.now (paths_in c.args.start.now))
    (have-first c.args.left.now c.args.start.now c.problem_is_whole.ensures c.requires.start c.requires.narrow c.dpop_runs.ensures c.rounds_are_a_run.ensures) c.run_agents.ensures
