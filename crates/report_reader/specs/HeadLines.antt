-- The lines before the values: the status, the method, the goal and the numbers.
use Rattle.std.specs.Prelude.{ℕ, List, Option, Some, None, Result, Ok, Err, if◌then◌else◌, codes}
use Rattle.std.specs.Str.{bytes_eq}
use Rattle.problem_text.specs.declared.file.Goal.{Goal}
use Rattle.problem_text.specs.declared.file.Goal.TheVariants.{Max}
use Rattle.problem_text.specs.declared.fault.ReportKind.{ReportKind}
use Rattle.problem_text.specs.declared.fault.ReportKind.TheVariants.{BadLine, BadNumber}
use Rattle.certificate_text.specs.declared.report.Ending.{Ending}
use Rattle.certificate_text.specs.declared.report.Ending.TheVariants.{Solved, Spent}
use Rattle.certificate_text.specs.declared.report.Method.{Method}
use Rattle.certificate_text.specs.declared.report.Method.TheVariants.{Plain, Dpop, Adopt, Cut}
use Rattle.dcop_base.specs.Limits.{amount_limit}
use Rattle.run_log.specs.EventLine.{number_within}
use Rattle.report_reader.specs.Told.{or_fails, word_behind}

-- the ending that a word gives
abbrev pub ending_told : Option (List ℕ) → Result Ending ReportKind
ending_told None = Err BadLine
ending_told (Some word) =
    if bytes_eq word (codes "solved") then Ok Solved
    else (if bytes_eq word (codes "spent") then Ok Spent
    else Err BadLine)

-- `status solved` or `status spent`
abbrev pub status_line : List (List ℕ) → Result Ending ReportKind
status_line words = ending_told (word_behind (codes "status") words)

-- the method that a word gives
abbrev pub method_told : Option (List ℕ) → Result Method ReportKind
method_told None = Err BadLine
method_told (Some word) =
    if bytes_eq word (codes "plain") then Ok Plain
    else (if bytes_eq word (codes "dpop") then Ok Dpop
    else (if bytes_eq word (codes "adopt") then Ok Adopt
    else (if bytes_eq word (codes "cut") then Ok Cut
    else Err BadLine)))

-- `method` and one of the methods
abbrev pub method_line : List (List ℕ) → Result Method ReportKind
method_line words = method_told (word_behind (codes "method") words)

-- the goal max, if the word is `max`
abbrev pub max_told : Option (List ℕ) → Result Goal ReportKind
max_told None = Err BadLine
max_told (Some word) = if bytes_eq word (codes "max") then Ok Max else Err BadLine

-- `goal max`
abbrev pub max_line : List (List ℕ) → Result Goal ReportKind
max_line words = max_told (word_behind (codes "goal") words)

-- the number that a word gives, which must be at most amount_limit
abbrev pub number_told : Option (List ℕ) → Result ℕ ReportKind
number_told None = Err BadLine
number_told (Some word) = or_fails BadNumber (number_within amount_limit word)

-- this word and a number
abbrev pub number_line : List ℕ → List (List ℕ) → Result ℕ ReportKind
number_line key words = number_told (word_behind key words)
