use Rattle.std.proofs.Common.{ℕ, refl, subst, ◌∙◌}
use Rattle.protocol_steps.specs.TreeAgents.{token_agents}
use Rattle.protocol_steps.specs.Outcomes.{HaveRun}
use Rattle.solve_agents.proofs.WiringLaws.{fails_on}
use Rattle.solve_agents.proofs.nodes.find_over.Goals as goal

pub tree_found-requires : goal.tree_found-requires
tree_found-requires g c = subst (λ (budget : ℕ). HaveRun budget (token_agents c.args.problem.now) c.in_ok-ran.ran.outcome) c.search_deliveries-budget.ensures.all c.in_ok-ran.ensures.logged.run

pub returns-in_err-ran-clause-links : goal.returns-in_err-ran-clause-links
returns-in_err-ran-clause-links g c = fails_on _ _ _ _ _ _ _ _ _ _ c.from_residual.result _ c.from_residual.ensures.1 refl refl (λ many h. h) (λ start most is. (is.0, is.1 ∙ c.search_deliveries-budget.ensures.all)) c.in_err-ran.ensures.links
