-- The verdict on a report with a certificate of a log.
use Rattle.std.specs.Prelude.{◌≡◌, List}
use Rattle.run_log.specs.declared.log.LogEvent.{LogEvent}
use Rattle.problem_text.specs.File.{TextFile}
use Rattle.certificate_text.specs.declared.report.Report.{Report}
use Rattle.certificate_text.specs.declared.verdict.Verdict.{Verdict}
use Rattle.certificate_text.specs.declared.verdict.Verdict.TheVariants.{Yes, No}
use Rattle.minimised_problem.specs.Verdict.{verdict_by}
use Rattle.minimised_problem.specs.LogHolds.{HoldsLog}
use Rattle.minimised_problem.specs.Differences.{log_difference}

-- the verdict: yes with the cost and the gap if the report with this log has no difference, and no
-- with the first difference otherwise
abbrev pub IsLogVerdict : TextFile → Report → List LogEvent → Verdict → Type 0
IsLogVerdict f r log verdict = verdict ≡ verdict_by f r (log_difference f r log)

-- the verdict is yes exactly when the report holds with this log
abbrev pub IsLogExact : TextFile → Report → List LogEvent → Verdict → Type 0
IsLogExact f r log (Yes cost error) = HoldsLog f r log
IsLogExact f r log (No differs) = ¬ HoldsLog f r log
