-- What a report of ADOPT says about the network in which the run ended.
use Rattle.std.specs.Prelude.{◌≡◌, ℕ, ◌-◌, List, Option, Some, None, if◌then◌else◌, min, slice_get}
use Rattle.dcop_base.specs.Problem.{Dcop, cost}
use Rattle.pseudotree.specs.Tree.{IsRoot}
use Rattle.pseudotree.specs.DepthFirst.{dfs}
use Rattle.dcop_optimum.specs.Goal.{top_of}
use Rattle.protocol_steps.specs.Network.{Network}
use Rattle.protocol_steps.specs.Effect.{has_ended, deliveries}
use Rattle.protocol_steps.specs.Adopt.{AdoptView}
use Rattle.protocol_steps.specs.AdoptBounds.{lower_bound, upper_bound}
use Rattle.protocol_steps.specs.View.{AdoptKind}
use Rattle.run_laws.specs.AdoptEnd.{values_of}
use Rattle.problem_text.specs.File.{TextFile}
use Rattle.problem_text.specs.declared.file.Goal.{Goal}
use Rattle.problem_text.specs.declared.file.Goal.TheVariants.{Min, Max}
use Rattle.certificate_text.specs.declared.report.Report.{Report}
use Rattle.certificate_text.specs.declared.report.Ending.{Ending}
use Rattle.certificate_text.specs.declared.report.Ending.TheVariants.{Solved, Spent}
use Rattle.minimised_problem.specs.Goal.{problem_solved}

-- the root's agent in a network on the depth-first tree of a problem
pub record IsRootAgent (p : Dcop) (end : Network) (v : AdoptView) : Type 0 where
  pub root : ℕ
  pub above_all : IsRoot (dfs p) root
  pub is : slice_get end.views root ≡ Some (AdoptKind v)

-- a report is solved if all agents have ended, and spent otherwise
abbrev pub ending_of : Network → Ending
ending_of end = if has_ended end then Solved else Spent

-- the lesser of a sum and a bound; the sum if there is no bound
abbrev pub least_known : ℕ → Option ℕ → ℕ
least_known sum None = sum
least_known sum (Some bound) = min sum bound

-- the lower bound of the best sum of a problem, given bounds of the optimum of the problem solved:
-- for goal max, the top sum minus the upper bound
abbrev pub lower_for : Goal → Dcop → ℕ → ℕ → ℕ
lower_for Min p lower upper = lower
lower_for Max p lower upper = top_of p - upper

-- the upper bound of the best sum of a problem, given bounds of the optimum of the problem solved:
-- for goal max, the top sum minus the lower bound
abbrev pub upper_for : Goal → Dcop → ℕ → ℕ → ℕ
upper_for Min p lower upper = upper
upper_for Max p lower upper = top_of p - lower

-- the lesser of the two upper bounds of the optimum that are shown: the cost of the values, and the
-- upper bound of the root's agent, if it has one
abbrev pub least_shown : Dcop → List ℕ → AdoptView → ℕ
least_shown p values v = least_known (cost p values) (upper_bound v)

-- a report describes this end of a run of agents of the problem solved: the status, the deliveries
-- and the values are the network's; the cost is that of the values in the file's problem; and the
-- bounds are those that follow from two numbers: the lower bound of the root's agent, and the
-- lesser of its upper bound, if it has one, and the cost of the values in the problem solved
pub record TellsEnd (f : TextFile) (end : Network) (r : Report) : Type 0 where
  pub top : AdoptView
  pub is_top : IsRootAgent (problem_solved f) end top
  pub status : r.status ≡ ending_of end
  pub delivered : r.deliveries ≡ deliveries end
  pub values : r.values ≡ values_of end
  pub sum : r.cost ≡ cost f.problem r.values
  pub lower : r.lower ≡ lower_for f.goal f.problem (lower_bound top) (least_shown (problem_solved f) r.values top)
  pub upper : r.upper ≡ upper_for f.goal f.problem (lower_bound top) (least_shown (problem_solved f) r.values top)
