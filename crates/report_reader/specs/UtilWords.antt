-- The line of a UTIL table, divided into its parts.
use Rattle.std.specs.Prelude.{◌≡◌, ℕ, Bool, true, false, List, Option, Some, None, Err}
use Rattle.std.specs.List.{before_first}
use Rattle.problem_text.specs.declared.fault.ReportKind.TheVariants.{BadLine}
use Rattle.problem_text.specs.Lines.{words}
use Rattle.problem_text.specs.Tables.{is_colon}
use Rattle.certificate_text.specs.declared.certificate.Util.{Util}
use Rattle.report_reader.specs.declared.util_line.UtilWords.{UtilWords}
use Rattle.report_reader.specs.UtilLine.{util_line, util_parts}

-- the parts of a table's line agree with the line: if there are none, the line does not have the
-- form
abbrev pub IsLineOf : List (List ℕ) → Option UtilWords → Type 0
IsLineOf ws None = (names : List (List ℕ)) (sizes : List ℕ) (utils : List Util) → util_line names sizes utils ws ≡ Err BadLine
IsLineOf ws (Some l) = (names : List (List ℕ)) (sizes : List ℕ) (utils : List Util)
    → util_line names sizes utils ws
    ≡ util_parts names sizes utils l.name.now l.parent.now (before_first is_colon (words l.scope.now)) (words l.cells.now)

-- variables, if each word names one
abbrev pub where_whole : Bool → List ℕ → Option (List ℕ)
where_whole true vars = Some vars
where_whole false vars = None
