use Rattle.std.proofs.Common.{◌≡◌, ◌∙◌, subst}
use Rattle.dcop_base.specs.Problem.{Dcop}
use Rattle.pseudotree.specs.DepthFirst.{dfs}
use Rattle.protocol_steps.specs.Network.{start_state}
use Rattle.protocol_steps.specs.TreeAgents.{adopt_agents}
use Rattle.run_log.specs.Logs.{events_of}
use Rattle.minimised_problem.specs.Goal.{problem_solved}
use Rattle.delivery_core.specs.Faults.{Replays}
use Rattle.solve_printed.proofs.replaying.played.Goals as goal

pub returns-clause-end : goal.returns-clause-end
returns-clause-end c =
    let same : c.problem.result.now ≡ problem_solved c.args.file.now = c.problem.ensures ∙ c.in_ok-solved.ensures in
    subst (λ (p : Dcop). Replays (start_state (adopt_agents p (dfs p) c.args.error)) (events_of c.args.log.now) c.played_on.result) same c.played_on.ensures.end
