-- The numbers of a report with a log are small enough to be read again.
use Rattle.std.specs.Prelude.{◌≡◌, ℕ, ◌≤◌, Bool, List, Some}
use Rattle.std.specs.List.{All}
use Rattle.dcop_base.specs.Limits.{amount_limit, budget_limit}
use Rattle.dcop_base.specs.Whole.{IsProblem}
use Rattle.protocol_steps.specs.Rounds.{AreShares}
use Rattle.run_log.specs.declared.log.LogEvent.{LogEvent}
use Rattle.problem_text.specs.File.{TextFile}
use Rattle.certificate_text.specs.declared.certificate.Certificate.TheVariants.{Log}
use Rattle.certificate_text.specs.declared.report.Report.{Report}
use Rattle.solve_methods.specs.Adopt.{IsAdoptReport}

-- an event of a log has a stamp of at most amount_limit, and takes at most 64 messages of any one
-- sender
abbrev pub IsSmallEvent : LogEvent → Type 0
IsSmallEvent e = (e.stamp ≤ amount_limit) × AreShares e.takes

-- a report of ADOPT under a budget of at most budget_limit has at most amount_limit deliveries, and
-- the events of its log are small
abbrev pub AdoptReportsAreSmall : Type 0
AdoptReportsAreSmall = (file : TextFile) (error budget : ℕ) (certified : Bool) (report : Report) → IsProblem file.problem → budget ≤ budget_limit → IsAdoptReport file error budget certified report
    → (report.deliveries ≤ amount_limit) × ((log : List LogEvent) → report.certificate ≡ Some (Log log) → All IsSmallEvent log)
