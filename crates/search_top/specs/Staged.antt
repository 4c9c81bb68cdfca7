-- What a report says about the stages of a search.
use Rattle.std.specs.Prelude.{◌≡◌, ℕ, List, option_map}
use Rattle.dcop_base.specs.Problem.{Dcop}
use Rattle.dcop_optimum.specs.Goal.{top_of}
use Rattle.problem_text.specs.declared.file.Goal.{Goal}
use Rattle.minimised_problem.specs.Goal.{solved}
use Rattle.shared_costs.specs.Shared.{AreSharedCosts}
use Rattle.shared_costs.specs.declared.shared.SharedCosts.{SharedCosts}
use Rattle.search_stages.specs.Stages.{AreStages}
use Rattle.search_stages.specs.Turning.{told_sum, found_told, ending_told}
use Rattle.search_stages.specs.declared.asked.Asked.{Asked}
use Rattle.search_stages.specs.declared.report.SearchReport.{SearchReport}
use Rattle.search_stages.specs.declared.stages.Outcome.{Outcome}
use Rattle.search_top.specs.Outside.{IsInOrder, AreToldOutside}

-- a report of stages: in an order of all variables, the problem solved was searched in `count` stages of the same shared costs, each with a greater limit than the one before it, from nothing visited; the report has all their nodes, their bound, what they found in the variables' own order, and how they ended
pub record IsOfStages (goal : Goal) (p : Dcop) (asked : Asked) (r : SearchReport) : Type 0 where
  pub order : List ℕ
  pub inside : Dcop
  pub ordered : IsInOrder p order inside
  pub shared : SharedCosts
  pub costs : AreSharedCosts (solved goal inside) shared
  pub count : ℕ
  pub limit : ℕ
  pub outcome : Outcome
  pub stages : AreStages (solved goal inside) shared asked (option_map (told_sum goal (top_of p)) asked.better) count limit outcome
  pub nodes : r.nodes ≡ outcome.known.nodes
  pub bound : r.bound ≡ told_sum goal (top_of p) outcome.ended.lower
  pub found : AreToldOutside order (found_told goal (top_of p) outcome.known) r.found
  pub ending : r.ending ≡ ending_told outcome.known.found outcome.ended.spent
