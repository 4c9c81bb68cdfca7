-- The line of a value.
use Rattle.std.specs.Prelude.{ℕ, not, List, [], ◌∷◌, Option, Some, None, Result, Ok, Err, nat_lt, position, if◌then◌else◌, codes}
use Rattle.std.specs.Str.{bytes_eq}
use Rattle.problem_text.specs.declared.fault.ReportKind.{ReportKind}
use Rattle.problem_text.specs.declared.fault.ReportKind.TheVariants.{BadLine, BadNumber, UnknownName, BadValue}
use Rattle.dcop_base.specs.Limits.{amount_limit}
use Rattle.run_log.specs.EventLine.{number_within}
use Rattle.report_reader.specs.Told.{or_fails}

-- a value that is given as a number, which must be below this size
abbrev pub value_below : ℕ → Option ℕ → Result ℕ ReportKind
value_below size None = Err BadNumber
value_below size (Some value) = if nat_lt value size then Ok value else Err BadValue

-- the value that a word gives a variable with these value names and this size: by name if there are
-- value names, and by number otherwise
abbrev pub value_told : List (List ℕ) → ℕ → List ℕ → Result ℕ ReportKind
value_told [] size word = value_below size (number_within amount_limit word)
value_told (label ∷ labels) size word = or_fails UnknownName (position (bytes_eq word) (label ∷ labels))

-- `value NAME V`, which must be of the variable with this name
abbrev pub value_line : List ℕ → List (List ℕ) → ℕ → List (List ℕ) → Result ℕ ReportKind
value_line name labels size (first ∷ second ∷ word ∷ []) =
    if not (bytes_eq first (codes "value")) then Err BadLine
    else (if not (bytes_eq second name) then Err UnknownName
    else value_told labels size word)
value_line name labels size _ = Err BadLine
