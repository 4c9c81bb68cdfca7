use Rattle.delivery_core.specs.Agents.{agents_of}
use Rattle.solve_agents.proofs.PlayedLaws.{logged_by}
use Rattle.solve_agents.proofs.agents.play_alone.Goals as goal

pub returns : goal.returns
returns g c = logged_by c.args.budget (agents_of c.args.problem.now c.args.start.now) c.args.certified c.in_ok-played.played c.in_ok-played.ensures
