use Rattle.std.proofs.Common.{ℕ, subst}
use Rattle.protocol_steps.specs.TreeAgents.{token_agents}
use Rattle.protocol_steps.specs.Outcomes.{HaveRun}
use Rattle.solve_agents.proofs.agents.find_tree.Goals as goal

pub tree_found-requires : goal.tree_found-requires
tree_found-requires g c = subst (λ (budget : ℕ). HaveRun budget (token_agents c.args.problem.now) c.in_ok-outcome.outcome) c.search_deliveries-budget.ensures.all c.in_ok-outcome.ensures
