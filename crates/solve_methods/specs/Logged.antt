-- The law about reports of ADOPT with the log of their run.
use Rattle.std.specs.Prelude.{ℕ, Bool, List}
use Rattle.dcop_base.specs.Whole.{IsProblem}
use Rattle.worker_laws.specs.Cells.{CellState}
use Rattle.worker_laws.specs.Merges.{IsMerge}
use Rattle.worker_laws.specs.CellRuns.{journals_of, IsRunOfCells}
use Rattle.run_log.specs.declared.log.LogEvent.{LogEvent}
use Rattle.run_log.specs.Logs.{entries_of}
use Rattle.problem_text.specs.File.{TextFile}
use Rattle.certificate_text.specs.declared.report.Report.{Report}
use Rattle.minimised_problem.specs.LogHolds.{agents_for, HoldsLog}
use Rattle.solve_methods.specs.Adopt.{IsAdoptReport}

-- if cells have made the run of a report of ADOPT, the report holds with their merged journals as
-- its log
abbrev pub AdoptReportsHold : Type 0
AdoptReportsHold = (file : TextFile) (error budget : ℕ) (certified : Bool) (report : Report) (cells : List CellState) (log : List LogEvent) → IsProblem file.problem → (is : IsAdoptReport file error budget certified report)
    → IsRunOfCells budget (agents_for file error) cells is.end → IsMerge (journals_of cells) (entries_of log) → HoldsLog file report log
