-- The outcome of a search by stages, on the problem that is solved.
use Rattle.std.specs.Prelude.{◌≡◌, ℕ, ◌≤◌, max, true, false, List, length, option_map, Option, Some, None}
use Rattle.dcop_base.specs.Problem.{Dcop, IsAssignment, cost}
use Rattle.dcop_optimum.specs.Goal.{top_of}
use Rattle.problem_text.specs.declared.file.Goal.{Goal}
use Rattle.minimised_problem.specs.Goal.{solved}
use Rattle.shared_costs.specs.Shared.{AreSharedCosts}
use Rattle.shared_costs.specs.declared.shared.SharedCosts.{SharedCosts}
use Rattle.bound_search.specs.Known.{IsKnown, IsBelow}
use Rattle.bound_search.specs.Searched.{EndsSo}
use Rattle.search_stages.specs.Stages.{IsApart, AreStages}
use Rattle.search_stages.specs.Turning.{told_sum, report_told}
use Rattle.search_stages.specs.declared.asked.Asked.{Asked}
use Rattle.search_stages.specs.declared.report.SearchReport.{SearchReport}
use Rattle.search_stages.specs.declared.stages.Outcome.{Outcome}

-- the most nodes that a search visits: the budget; but if no sum is to be bettered, at least the
-- number of variables, so that a first assignment can be found
abbrev pub most_visited : ℕ → ℕ → Option ℕ → ℕ
most_visited budget count None = max budget count
most_visited budget count (Some better) = budget

-- no assignment costs less
abbrev pub IsLowerBound : Dcop → ℕ → Type 0
IsLowerBound p lower = (values : List ℕ) → IsAssignment p values → lower ≤ cost p values

-- the outcome of stages of these shared costs that have not ended, the last one with this limit, in a search for an assignment that costs less than `best`; no nodes are visited before the first stage
pub record IsSoFar (p : Dcop) (shared : SharedCosts) (asked : Asked) (best : Option ℕ) (limit : ℕ) (o : Outcome) : Type 0 where
  pub stages : (count : ℕ) × AreStages p shared asked best count limit o
  pub spent : o.ended.spent ≡ true
  pub known : IsKnown p o.known
  pub same : o.known.found ≡ false → o.known.best ≡ best
  pub better : o.known.found ≡ true → IsBelow o.known.best best
  pub lower : IsLowerBound p o.ended.lower
  pub first : o.known.best ≡ None → o.known.nodes ≡ 0
  pub few : o.known.nodes ≤ max asked.budget (length p.sizes)
  pub effort : o.known.found ≡ true → length p.sizes ≤ o.known.nodes
  pub nodes : o.known.nodes ≤ most_visited asked.budget (length p.sizes) best

-- the outcome of a search for an assignment that costs less than `best`, or for any if there is no `best`
pub record IsOutcome (p : Dcop) (asked : Asked) (best : Option ℕ) (o : Outcome) : Type 0 where
  pub stages : (shared : SharedCosts) × (count limit : ℕ) × AreSharedCosts p shared × AreStages p shared asked best count limit o
  pub known : IsKnown p o.known
  pub some : best ≡ None → o.known.found ≡ true
  pub same : o.known.found ≡ false → o.known.best ≡ best
  pub better : o.known.found ≡ true → IsBelow o.known.best best
  pub lower : IsLowerBound p o.ended.lower
  pub ends : EndsSo asked.error asked.budget o.known o.ended
  pub apart : o.ended.spent ≡ true → IsApart asked.error o.known.best o.ended.lower
  pub effort : o.known.found ≡ true → length p.sizes ≤ o.known.nodes
  pub nodes : o.known.nodes ≤ most_visited asked.budget (length p.sizes) best

-- a report of the outcome of a search on the problem solved
pub record TellsOutcome (goal : Goal) (p : Dcop) (asked : Asked) (r : SearchReport) : Type 0 where
  pub outcome : Outcome
  pub came : IsOutcome (solved goal p) asked (option_map (told_sum goal (top_of p)) asked.better) outcome
  pub told : r ≡ report_told goal (top_of p) asked outcome
