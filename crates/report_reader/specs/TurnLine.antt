-- The line of a turn: a value for each cut variable.
use Rattle.std.specs.Prelude.{ℕ, not, ◌||◌, List, [], ◌∷◌, length, Result, Ok, Err, ◌==◌, if◌then◌else◌, codes}
use Rattle.std.specs.Str.{bytes_eq}
use Rattle.dcop_base.specs.Limits.{amount_limit}
use Rattle.dcop_base.specs.Table.{cell_place}
use Rattle.problem_text.specs.declared.fault.ReportKind.{ReportKind}
use Rattle.problem_text.specs.declared.fault.ReportKind.TheVariants.{BadLine}
use Rattle.run_log.specs.EventLine.{number_within}
use Rattle.report_reader.specs.ValueLine.{value_below}

-- a value put before others; the first fault is kept
abbrev pub value_before : Result ℕ ReportKind → Result (List ℕ) ReportKind → Result (List ℕ) ReportKind
value_before (Err kind) later = Err kind
value_before (Ok v) (Err kind) = Err kind
value_before (Ok v) (Ok vs) = Ok (v ∷ vs)

-- the values that words give; each must be below the corresponding size
abbrev pub values_told : List ℕ → List (List ℕ) → Result (List ℕ) ReportKind
values_told (size ∷ sizes) (word ∷ words) = value_before (value_below size (number_within amount_limit word)) (values_told sizes words)
values_told _ _ = Ok []

-- values, which must be those of the turn with this number; turns count from 0, in lexicographic
-- order
abbrev pub numbered : List ℕ → ℕ → Result (List ℕ) ReportKind → Result (List ℕ) ReportKind
numbered sizes number (Err kind) = Err kind
numbered sizes number (Ok values) = if cell_place sizes values == number then Ok values else Err BadLine

-- `turn VALUES`, a value for each cut variable of these sizes, if the turn with this number comes
-- next
abbrev pub turn_line : List ℕ → ℕ → List (List ℕ) → Result (List ℕ) ReportKind
turn_line sizes number [] = Err BadLine
turn_line sizes number (first ∷ words) =
    if not (bytes_eq first (codes "turn")) || not (length words == length sizes) then Err BadLine
    else numbered sizes number (values_told sizes words)
