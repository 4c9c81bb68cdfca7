-- The first line of a certificate, which must fit the method.
use Rattle.std.specs.Prelude.{ℕ, List, [], ◌∷◌, Result, Ok, Err, if◌then◌else◌, codes}
use Rattle.std.specs.Str.{bytes_eq}
use Rattle.dcop_base.specs.Table.{has_repeat}
use Rattle.problem_text.specs.declared.fault.ReportKind.{ReportKind}
use Rattle.problem_text.specs.declared.fault.ReportKind.TheVariants.{BadLine, UnknownName, NoCertificate}
use Rattle.problem_text.specs.Tables.{named_by}
use Rattle.report_reader.specs.declared.certificate_line.Form.{Form}
use Rattle.report_reader.specs.declared.certificate_line.Form.TheVariants.{Tables, Log, Cut}
use Rattle.certificate_text.specs.declared.report.Method.{Method}
use Rattle.certificate_text.specs.declared.report.Method.TheVariants as methods
use Rattle.report_reader.specs.Told.{or_fails, is_alone}
use Rattle.report_reader.specs.UtilLine.{known_among}

-- the cut variables that these words name, none of them twice
abbrev pub cut_told : List (List ℕ) → List (List ℕ) → Result (List ℕ) ReportKind
cut_told names words =
    if has_repeat (known_among names words) then Err BadLine
    else or_fails UnknownName (named_by names words)

-- the form of a cut of these variables
abbrev pub form_with : Result (List ℕ) ReportKind → Result Form ReportKind
form_with (Ok cut) = Ok (Cut cut)
form_with (Err kind) = Err kind

-- `cut` and the names of the cut variables
abbrev pub cut_form : List (List ℕ) → List (List ℕ) → Result Form ReportKind
cut_form names [] = Err BadLine
cut_form names (word ∷ further) = if bytes_eq word (codes "cut") then form_with (cut_told names further) else Err BadLine

-- the form that the words after `certificate` give, which must fit the method
abbrev pub form_told : List (List ℕ) → Method → List (List ℕ) → Result Form ReportKind
form_told names methods.Plain words = Err BadLine
form_told names methods.Dpop words = if is_alone (codes "tables") words then Ok Tables else Err BadLine
form_told names methods.Adopt words = if is_alone (codes "log") words then Ok Log else Err BadLine
form_told names methods.Cut words = cut_form names words

-- `certificate` and a form that fits the method; `end` instead means that there is no certificate
abbrev pub certificate_line : List (List ℕ) → Method → List (List ℕ) → Result Form ReportKind
certificate_line names method [] = Err BadLine
certificate_line names method (first ∷ further) =
    if is_alone (codes "end") (first ∷ further) then Err NoCertificate
    else (if bytes_eq first (codes "certificate") then form_told names method further
    else Err BadLine)
