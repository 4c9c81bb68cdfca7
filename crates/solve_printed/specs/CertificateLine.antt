-- Where the certificate of a report begins.
use Rattle.std.specs.Prelude.{◌≡◌, ℕ, List, Option, Some, None, Ok, IsTrue, is_some, find, codes}
use Rattle.problem_text.specs.File.{TextFile}
use Rattle.problem_text.specs.PlainLines.{Plain, plain_lines}
use Rattle.certificate_text.specs.declared.report.Report.{Report}
use Rattle.report_reader.specs.Told.{begins_with}
use Rattle.report_reader.specs.ReportReading.{report_read}

-- the first word of a certificate
abbrev pub certificate_word : List ℕ
certificate_word = codes "certificate"

-- the first of these lines that begins a certificate, if there is one
abbrev pub first_certificate : List Plain → Option Plain
first_certificate lines = find (λ line. begins_with certificate_word line.words) lines

-- the number of a line, or 0 if there is none
abbrev pub number_of_line : Option Plain → ℕ
number_of_line None = 0
number_of_line (Some line) = line.number

-- the line of a report's text that begins its certificate, counted from 1; 0 if there is none
abbrev pub certificate_line : List ℕ → ℕ
certificate_line text = number_of_line (first_certificate (plain_lines 1 text))

-- each text that is read as a report has a line that begins its certificate
abbrev pub CertificatesBegin : Type 0
CertificatesBegin = (f : TextFile) (text : List ℕ) (report : Report) → report_read text f ≡ Ok report → IsTrue (is_some (first_certificate (plain_lines 1 text)))
