-- The laws about reports with a log.
use Rattle.std.specs.Prelude.{◌≡◌, ℕ, ◌≤◌, List, length, None}
use Rattle.dcop_base.specs.Problem.{IsAssignment, cost}
use Rattle.dcop_base.specs.Whole.{IsProblem}
use Rattle.protocol_steps.specs.Network.{Network}
use Rattle.worker_laws.specs.Cells.{CellState}
use Rattle.worker_laws.specs.Merges.{IsMerge}
use Rattle.worker_laws.specs.CellRuns.{journals_of, IsRunOfCells}
use Rattle.run_log.specs.declared.log.LogEvent.{LogEvent}
use Rattle.run_log.specs.Logs.{entries_of}
use Rattle.problem_text.specs.File.{TextFile}
use Rattle.certificate_text.specs.declared.report.Report.{Report}
use Rattle.certificate_text.specs.declared.report.Ending.TheVariants.{Solved}
use Rattle.minimised_problem.specs.Goal.{IsBestSum, IsAtMostWorse}
use Rattle.minimised_problem.specs.Gap.{gap_of}
use Rattle.minimised_problem.specs.LogEnds.{TellsEnd}
use Rattle.minimised_problem.specs.LogHolds.{agents_for, HoldsLog}
use Rattle.minimised_problem.specs.Differences.{log_difference}

-- what a report says about a file is true: its values are an assignment, its cost is their sum, the
-- best sum is between its bounds, and the cost is worse than the best sum by at most the gap, and
-- by at most the error if the report is solved
pub record IsShown (f : TextFile) (r : Report) : Type 0 where
  pub assignment : IsAssignment f.problem r.values
  pub sum : r.cost ≡ cost f.problem r.values
  pub enclosed : (best : ℕ) → IsBestSum f.goal f.problem best → (r.lower ≤ best) × (best ≤ r.upper)
  pub near : (best : ℕ) → IsBestSum f.goal f.problem best → IsAtMostWorse f.goal (gap_of f.goal r) r.cost best
  pub solved : r.status ≡ Solved → (best : ℕ) → IsBestSum f.goal f.problem best → IsAtMostWorse f.goal r.error r.cost best

-- what a report with a log says is true if the report holds, whoever made it
abbrev pub LogsShow : Type 0
LogsShow = (f : TextFile) (r : Report) (log : List LogEvent) → IsProblem f.problem → HoldsLog f r log → IsShown f r

-- a report that describes the end of a run of cells holds with the merged journals as its log
abbrev pub MergedLogsHold : Type 0
MergedLogsHold = (f : TextFile) (r : Report) (budget : ℕ) (cells : List CellState) (end : Network) (log : List LogEvent) → IsProblem f.problem
    → IsRunOfCells budget (agents_for f r.error) cells end → IsMerge (journals_of cells) (entries_of log) → TellsEnd f end r → HoldsLog f r log

-- a report with a value for each variable holds exactly when it has no difference
pub record DifferencesAreExact : Type 0 where
  pub holds : (f : TextFile) (r : Report) (log : List LogEvent) → IsProblem f.problem → length r.values ≡ length f.problem.sizes → log_difference f r log ≡ None → HoldsLog f r log
  pub none : (f : TextFile) (r : Report) (log : List LogEvent) → IsProblem f.problem → HoldsLog f r log → log_difference f r log ≡ None
