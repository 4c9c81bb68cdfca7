-- What a verdict on a report with a log shows, and the difference that says why a log is not a run
-- with right stamps.
use Rattle.std.specs.Prelude.{◌≡◌, Option, Some}
use Rattle.problem_text.specs.File.{TextFile}
use Rattle.certificate_text.specs.declared.report.Report.{Report}
use Rattle.certificate_text.specs.declared.verdict.Differs.{Differs}
use Rattle.certificate_text.specs.declared.verdict.Differs.TheVariants.{Event, Stamp}
use Rattle.certificate_text.specs.declared.verdict.Verdict.{Verdict}
use Rattle.certificate_text.specs.declared.verdict.Verdict.TheVariants.{Yes, No}
use Rattle.log_replay.specs.declared.fault.LogFault.{LogFault}
use Rattle.log_replay.specs.declared.fault.LogFault.TheVariants.{BadEvent, BadStamp, NoMemory}
use Rattle.minimised_problem.specs.LogLaws.{IsShown}

-- a verdict yes shows that what the report says about the file is true
abbrev pub ShowsReport : TextFile → Report → Verdict → Type 0
ShowsReport f r (Yes cost error) = IsShown f r
ShowsReport f r (No differs) = Unit {0}

-- the difference for this fault; there is none if memory runs out
abbrev pub IsToldBy : LogFault → Option Differs → Type 0
IsToldBy (BadEvent at fault) differs = differs ≡ Some (Event at fault)
IsToldBy (BadStamp wrong) differs = differs ≡ Some (Stamp wrong.at wrong.left wrong.right)
IsToldBy NoMemory differs = ⊥
