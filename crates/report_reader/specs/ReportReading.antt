-- What the text of a report is read as: its parts, line by line in their order, or its first fault.
use Rattle.std.specs.Prelude.{ℕ, List, [], ◌∷◌, ◌++◌, length, Some, Result, Ok, Err, if◌then◌else◌, codes}
use Rattle.problem_text.specs.declared.file.Goal.{Goal}
use Rattle.problem_text.specs.declared.file.Goal.TheVariants.{Min, Max}
use Rattle.problem_text.specs.declared.fault.ReportKind.{ReportKind}
use Rattle.problem_text.specs.declared.fault.ReportKind.TheVariants.{BadLine, NoEnd, AfterEnd}
use Rattle.problem_text.specs.File.{TextFile}
use Rattle.problem_text.specs.PlainLines.{Plain}
use Rattle.certificate_text.specs.declared.certificate.Certificate.{Certificate}
use Rattle.certificate_text.specs.declared.certificate.Certificate.TheVariants as certificates
use Rattle.certificate_text.specs.declared.certificate.Util.{Util}
use Rattle.run_log.specs.declared.log.LogEvent.{LogEvent}
use Rattle.run_log.specs.EventLine.{event_line}
use Rattle.report_reader.specs.declared.certificate_line.Form.{Form}
use Rattle.report_reader.specs.declared.certificate_line.Form.TheVariants as forms
use Rattle.report_reader.specs.declared.head.Head.{Head}
use Rattle.report_reader.specs.declared.head.Bounds.{Bounds}
use Rattle.certificate_text.specs.declared.report.Method.{Method}
use Rattle.certificate_text.specs.declared.report.Report.{Report}
use Rattle.report_reader.specs.Told.{is_alone}
use Rattle.report_reader.specs.HeadLines.{status_line, method_line, max_line, number_line}
use Rattle.report_reader.specs.ValueLine.{value_line}
use Rattle.report_reader.specs.CertificateLine.{certificate_line}
use Rattle.report_reader.specs.UtilLine.{util_line, lacks_util}
use Rattle.report_reader.specs.TurnReading.{cut_read}
use Rattle.report_reader.specs.ReportLines.{Fault, Left, whole, told_at, one_line, and_then}

-- the goal of the file: a line `goal max` if it is max, and no line if it is min
abbrev pub goal_read : Goal → Left → Result (Goal × Left) Fault
goal_read Min left = Ok (Min, left)
goal_read Max left = one_line max_line left

-- the lines before the cost: the status, the method, the goal, the error and the deliveries
abbrev pub head_read : Goal → Left → Result (Head × Left) Fault
head_read file_goal left =
    and_then (one_line status_line left) (λ status left.
    and_then (one_line method_line left) (λ method left.
    and_then (goal_read file_goal left) (λ goal left.
    and_then (one_line (number_line (codes "error")) left) (λ error left.
    and_then (one_line (number_line (codes "deliveries")) left) (λ deliveries left.
    Ok (record { status = status; method = method; goal = goal; error = error; deliveries = deliveries }, left))))))

-- the lines of the cost and the bounds
abbrev pub bounds_read : Left → Result (Bounds × Left) Fault
bounds_read left =
    and_then (one_line (number_line (codes "cost")) left) (λ cost left.
    and_then (one_line (number_line (codes "lower")) left) (λ lower left.
    and_then (one_line (number_line (codes "upper")) left) (λ upper left.
    Ok (record { cost = cost; lower = lower; upper = upper }, left))))

-- a value's line for each variable, in order
abbrev pub values_read : List (List ℕ) → List (List (List ℕ)) → List ℕ → Left → Result (List ℕ × Left) Fault
values_read (name ∷ names) (labels ∷ more) (size ∷ sizes) left =
    and_then (one_line (value_line name labels size) left) (λ value left.
    and_then (values_read names more sizes left) (λ values left.
    Ok (value ∷ values, left)))
values_read _ _ _ left = Ok ([], left)

-- the tables before the line `end`: each variable must have its table
abbrev pub ended : List (List ℕ) → List Util → Result (List Util) ReportKind
ended names utils = if lacks_util utils (length names) then Err BadLine else Ok utils

-- lines of tables, each read after these tables and those before it, up to the line `end`
abbrev pub tables_read : List (List ℕ) → List ℕ → ℕ → List Util → List Plain → Result (List Util × Left) Fault
tables_read names sizes over utils [] = Err (record { line = over; kind = NoEnd })
tables_read names sizes over utils (line ∷ later) =
    if is_alone (codes "end") line.words
    then told_at line.number (ended names utils) (record { lines = later; over = over })
    else and_then (told_at line.number (util_line names sizes utils line.words) (record { lines = later; over = over })) (λ util left.
    tables_read names sizes over (utils ++ (util ∷ [])) later)

-- lines of events, each read after these events and those before it, up to the line `end`
abbrev pub events_read : List (List ℕ) → ℕ → List LogEvent → List Plain → Result (List LogEvent × Left) Fault
events_read names over log [] = Err (record { line = over; kind = NoEnd })
events_read names over log (line ∷ later) =
    if is_alone (codes "end") line.words
    then Ok (log, record { lines = later; over = over })
    else and_then (told_at line.number (event_line names line.words) (record { lines = later; over = over })) (λ event left.
    events_read names over (log ++ (event ∷ [])) later)

-- the lines of a certificate of this form, and the line `end`
abbrev pub evidence_read : TextFile → Form → Left → Result (Certificate × Left) Fault
evidence_read f forms.Tables left =
    and_then (tables_read f.names f.problem.sizes left.over [] left.lines) (λ utils left.
    Ok (certificates.Tables utils, left))
evidence_read f forms.Log left =
    and_then (events_read f.names left.over [] left.lines) (λ log left.
    Ok (certificates.Log log, left))
evidence_read f (forms.Cut cut) left =
    and_then (cut_read f cut left) (λ turns left.
    Ok (certificates.Cut cut turns, left))

-- the certificate: its first line, which must fit the method, and its further lines, up to the line
-- `end`
abbrev pub certificate_read : TextFile → Method → Left → Result (Certificate × Left) Fault
certificate_read f method left =
    and_then (one_line (certificate_line f.names method) left) (λ form left.
    evidence_read f form left)

-- after the line `end` no line may be left
abbrev pub nothing_behind : Report → List Plain → Result Report Fault
nothing_behind report [] = Ok report
nothing_behind report (line ∷ later) = Err (record { line = line.number; kind = AfterEnd })

-- the report with these parts
abbrev pub report_of : Head → Bounds → List ℕ → Certificate → Report
report_of head bounds values certificate = record {
  status = head.status;
  method = head.method;
  goal = head.goal;
  error = head.error;
  deliveries = head.deliveries;
  cost = bounds.cost;
  lower = bounds.lower;
  upper = bounds.upper;
  values = values;
  certificate = Some certificate;
}

-- a report on a file: the lines before the cost, those of the cost and the bounds, the values, the
-- certificate, and nothing after it
abbrev pub lines_read : TextFile → Left → Result Report Fault
lines_read f left =
    and_then (head_read f.goal left) (λ head left.
    and_then (bounds_read left) (λ bounds left.
    and_then (values_read f.names f.labels f.problem.sizes left) (λ values left.
    and_then (certificate_read f head.method left) (λ certificate left.
    nothing_behind (report_of head bounds values certificate) left.lines))))

-- what the text of a report on a file is read as
abbrev pub report_read : List ℕ → TextFile → Result Report Fault
report_read bytes f = lines_read f (whole bytes)
