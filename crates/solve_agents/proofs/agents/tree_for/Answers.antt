use Rattle.std.proofs.Common.{◌≡◌, subst, ◌∙◌}
use Rattle.dcop_base.specs.Problem.{Dcop}
use Rattle.pseudotree.specs.DepthFirst.{dfs}
use Rattle.pseudotree.specs.Pseudotree.{IsPseudotreeOf}
use Rattle.solve_agents.proofs.agents.tree_for.Goals as goal

pub returns-clause-tree : goal.returns-clause-tree
returns-clause-tree g c = subst (λ (p : Dcop). IsPseudotreeOf p c.in_ok-found.found.tree) (c.problem.ensures ∙ c.in_ok-solved.ensures) c.in_ok-found.ensures.tree

pub returns-clause-paths : goal.returns-clause-paths
returns-clause-paths g c = subst (λ (p : Dcop). c.in_ok-found.found.tree.paths ≡ dfs p) (c.problem.ensures ∙ c.in_ok-solved.ensures) c.in_ok-found.ensures.paths
