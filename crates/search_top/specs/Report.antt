-- The report of a search, and what it promises.
use Rattle.std.specs.Prelude.{◌≡◌, ℕ, ◌<◌, ◌≤◌, List, length, Option, Some, None, IfSome}
use Rattle.dcop_base.specs.Problem.{Dcop, IsAssignment, cost}
use Rattle.dcop_optimum.specs.Goal.{top_of}
use Rattle.problem_text.specs.declared.file.Goal.{Goal}
use Rattle.problem_text.specs.declared.file.Goal.TheVariants.{Min, Max}
use Rattle.minimised_problem.specs.Goal.{IsAtMostWorse}
use Rattle.search_stages.specs.Outcomes.{most_visited}
use Rattle.search_stages.specs.declared.asked.Asked.{Asked}
use Rattle.search_stages.specs.declared.report.Found.{Found}
use Rattle.search_stages.specs.declared.report.SearchEnding.{SearchEnding}
use Rattle.search_stages.specs.declared.report.SearchEnding.TheVariants.{Solved, Spent, NoneBetter}
use Rattle.search_stages.specs.declared.report.SearchReport.{SearchReport}
use Rattle.search_top.specs.Staged.{IsOfStages}

-- a sum is better than another one: less, or for goal max greater
abbrev pub IsBetterSum : Goal → ℕ → ℕ → Type 0
IsBetterSum Min sum other = sum < other
IsBetterSum Max sum other = other < sum

-- an assignment that was found: it is one of the problem, its cost is its sum there, and this is better than what was asked for
pub record IsFoundIn (goal : Goal) (p : Dcop) (better : Option ℕ) (found : Found) : Type 0 where
  pub assignment : IsAssignment p found.values
  pub sum : found.cost ≡ cost p found.values
  pub sought : IfSome better (λ asked. IsBetterSum goal found.cost asked)

-- no assignment's sum is better than the bound, so the best sum is not better either
abbrev pub IsBoundOf : Goal → Dcop → ℕ → Type 0
IsBoundOf goal p bound = (values : List ℕ) → IsAssignment p values → IsAtMostWorse goal 0 bound (cost p values)

-- a search that has ended with an assignment: its cost is worse than the bound by at most the error
pub record HasSolved (asked : Asked) (r : SearchReport) : Type 0 where
  pub found : Found
  pub known : r.found ≡ Some found
  pub within : IsAtMostWorse r.goal asked.error found.cost r.bound

-- a search that has ended without an assignment that is better than what was asked for: the sum
-- that was asked for is worse than the bound by at most the error
pub record HasNoneBetter (asked : Asked) (r : SearchReport) : Type 0 where
  pub none : r.found ≡ None
  pub better : ℕ
  pub sought : asked.better ≡ Some better
  pub within : IsAtMostWorse r.goal asked.error better r.bound

-- a search that is spent: the nodes have reached the budget, and the cost that was found, or else
-- the sum that was to be bettered, is worse than the bound by more than the error
pub record HasSpent (asked : Asked) (r : SearchReport) : Type 0 where
  pub reached : asked.budget ≤ r.nodes
  pub apart : IfSome r.found (λ found. ¬ IsAtMostWorse r.goal asked.error found.cost r.bound)
  pub sought : r.found ≡ None → IfSome asked.better (λ sum. ¬ IsAtMostWorse r.goal asked.error sum r.bound)

-- how a search ended
abbrev pub EndsBy : Asked → SearchReport → SearchEnding → Type 0
EndsBy asked r Solved = HasSolved asked r
EndsBy asked r Spent = HasSpent asked r
EndsBy asked r NoneBetter = HasNoneBetter asked r

-- the report of a search on a problem with this goal: it reports the outcome of the search's stages; if no sum was to be bettered there is an assignment, and an assignment that was found took at least one node for each variable
pub record IsSearchReport (goal : Goal) (p : Dcop) (asked : Asked) (r : SearchReport) : Type 0 where
  pub same_goal : r.goal ≡ goal
  pub error : r.error ≡ asked.error
  pub found : IfSome r.found (IsFoundIn goal p asked.better)
  pub some : asked.better ≡ None → (found : Found) × (r.found ≡ Some found)
  pub bound : IsBoundOf goal p r.bound
  pub within : r.bound ≤ top_of p
  pub ends : EndsBy asked r r.ending
  pub nodes : r.nodes ≤ most_visited asked.budget (length p.sizes) asked.better
  pub effort : IfSome r.found (λ found. length p.sizes ≤ r.nodes)
  pub stages : IsOfStages goal p asked r
