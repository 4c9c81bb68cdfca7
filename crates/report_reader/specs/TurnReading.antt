-- What the lines of the turns of a cut are read as.
use Rattle.std.specs.Prelude.{ℕ, ◌+◌, Bool, true, false, not, ◌&&◌, ◌||◌, List, [], ◌∷◌, ◌++◌, length, map, slice_index, Option, Some, None, Result, Ok, Err, ◌==◌, position, if◌then◌else◌, codes}
use Rattle.std.specs.List.{list_any}
use Rattle.std.specs.Str.{bytes_eq}
use Rattle.dcop_base.specs.Table.{product}
use Rattle.cost_table.specs.Slices.{ones_at}
use Rattle.problem_text.specs.declared.fault.ReportKind.{ReportKind}
use Rattle.problem_text.specs.declared.fault.ReportKind.TheVariants.{BadLine, NoEnd}
use Rattle.problem_text.specs.File.{TextFile}
use Rattle.problem_text.specs.PlainLines.{Plain}
use Rattle.certificate_text.specs.declared.certificate.Turn.{Turn}
use Rattle.certificate_text.specs.declared.certificate.Util.{Util}
use Rattle.certificate_text.specs.Turns.{first_tables}
use Rattle.report_reader.specs.declared.turns.CutSizes.{CutSizes}
use Rattle.report_reader.specs.Told.{is_alone, begins_with}
use Rattle.report_reader.specs.UtilLine.{parent_told, util_line, lacks_util}
use Rattle.report_reader.specs.TurnLine.{turn_line}
use Rattle.report_reader.specs.ReportLines.{Fault, Left, told_at, one_line, and_then}

-- whether two parents differ
abbrev pub are_apart : Option ℕ → Option ℕ → Bool
are_apart None None = false
are_apart (Some one) (Some other) = not (one == other)
are_apart _ _ = true

-- whether a variable's table among these has another parent than this one
abbrev pub has_other : List Util → Option ℕ → Option (Option ℕ) → Bool
has_other utils (Some var) (Some parent) = list_any (λ u. u.var == var && are_apart u.parent parent) utils
has_other utils _ _ = false

-- whether a line `util NAME PARENT ..` gives another parent than these tables
abbrev pub tells_other : List (List ℕ) → List Util → List (List ℕ) → Bool
tells_other names utils (first ∷ name ∷ parent ∷ further) = has_other utils (position (bytes_eq name) names) (parent_told names parent)
tells_other names utils _ = false

-- a table after these, in the turn after these turns: it must fit the slice and have the parent of
-- the first turn
abbrev pub table_in_turn : List (List ℕ) → CutSizes → List Turn → List Util → List (List ℕ) → Result Util ReportKind
table_in_turn names sizes turns tables words =
    if tells_other names (first_tables turns) words then Err BadLine
    else util_line names sizes.slice tables words

-- the values that the words of a line `turn` give. The line ends a turn that has `tables` and that
-- `turns` precede; each variable must have its table among `tables`
abbrev pub turn_behind : List (List ℕ) → CutSizes → List Turn → List Util → List (List ℕ) → Result (List ℕ) ReportKind
turn_behind names sizes turns tables words =
    if lacks_util tables (length names) then Err BadLine
    else turn_line sizes.own (length turns + 1) words

-- these turns and this one, in which each variable must have its table; they must be all turns of
-- the cut
abbrev pub all_turns : List (List ℕ) → CutSizes → List Turn → Turn → Result (List Turn) ReportKind
all_turns names sizes turns turn =
    if lacks_util turn.tables (length names) || not (length turns + 1 == product sizes.own) then Err BadLine
    else Ok (turns ++ (turn ∷ []))

-- the lines after these turns and this one with its tables so far, up to the line `end`
abbrev pub turns_read : List (List ℕ) → CutSizes → ℕ → List Turn → Turn → List Plain → Result (List Turn × Left) Fault
turns_read names sizes over turns turn [] = Err (record { line = over; kind = NoEnd })
turns_read names sizes over turns turn (line ∷ later) =
    if is_alone (codes "end") line.words
    then told_at line.number (all_turns names sizes turns turn) (record { lines = later; over = over })
    else (if begins_with (codes "turn") line.words
    then and_then (told_at line.number (turn_behind names sizes turns turn.tables line.words) (record { lines = later; over = over })) (λ values left.
    turns_read names sizes over (turns ++ (turn ∷ [])) (record { values = values; tables = [] }) later)
    else and_then (told_at line.number (table_in_turn names sizes turns turn.tables line.words) (record { lines = later; over = over })) (λ util left.
    turns_read names sizes over turns (record { values = turn.values; tables = turn.tables ++ (util ∷ []) }) later))

-- the turns of a cut of variables of these sizes, each of which begins with a line of its values,
-- and the line `end`
abbrev pub turns_from : List (List ℕ) → CutSizes → Left → Result (List Turn × Left) Fault
turns_from names sizes left =
    and_then (one_line (turn_line sizes.own 0) left) (λ values left.
    turns_read names sizes left.over [] (record { values = values; tables = [] }) left.lines)

-- the sizes of these cut variables, and those of all variables in a slice, in which cut variables
-- have size 1
abbrev pub cut_sizes : List ℕ → List ℕ → CutSizes
cut_sizes sizes cut = record { own = map (λ v. slice_index sizes v) cut; slice = ones_at cut sizes }

-- the turns of a cut of these variables, and the line `end`
abbrev pub cut_read : TextFile → List ℕ → Left → Result (List Turn × Left) Fault
cut_read f cut left = turns_from f.names (cut_sizes f.problem.sizes cut) left
