-- How the result of reading a report agrees with what the text says. If memory runs out, nothing is
-- promised.
use Rattle.std.specs.Prelude.{◌≡◌, ℕ, List, Result, Ok, Err, IsTrue, is_some}
use Rattle.problem_text.specs.File.{TextFile}
use Rattle.problem_text.specs.declared.fault.ReportFault.{ReportFault}
use Rattle.certificate_text.specs.declared.report.Report.{Report}
use Rattle.certificate_text.specs.Fits.{Fits}
use Rattle.report_reader.specs.ReportReading.{report_read}
use Rattle.report_reader.specs.Steps.{IsFault}

-- the result of reading a text: a report is what the text gives; a fault is the text's first fault
abbrev pub ReadsReport : List ℕ → TextFile → Result Report ReportFault → Type 0
ReadsReport bytes f (Ok report) = report_read bytes f ≡ Ok report
ReadsReport bytes f (Err fault) = IsFault (report_read bytes f) fault

-- a text is read as this report if the report has a certificate and fits the file
abbrev pub IsReadBack : List ℕ → TextFile → Report → Type 0
IsReadBack bytes f report = IsTrue (is_some report.certificate) → Fits report f → report_read bytes f ≡ Ok report

-- a report has a certificate and fits the file
abbrev pub HasFit : TextFile → Report → Type 0
HasFit f report = IsTrue (is_some report.certificate) × Fits report f

-- if a text is read as a report, that report has a certificate and fits the file
abbrev pub TellsFitting : List ℕ → TextFile → Type 0
TellsFitting bytes f = (report : Report) → report_read bytes f ≡ Ok report → HasFit f report
