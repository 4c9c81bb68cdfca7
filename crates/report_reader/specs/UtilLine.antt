-- The line of a UTIL table. Each test is for one fault; the first test that fails gives the fault.
use Rattle.std.specs.Prelude.{ℕ, Bool, false, not, ◌||◌, List, [], ◌∷◌, map, length, Option, Some, None, Result, Ok, Err, ◌==◌, position, slice_index, if◌then◌else◌, codes}
use Rattle.std.specs.List.{list_any, list_all, before_first, after_first, range_with_len}
use Rattle.std.specs.Option.{option_map}
use Rattle.std.specs.Str.{bytes_eq}
use Rattle.dcop_base.specs.Table.{product, has_repeat}
use Rattle.problem_text.specs.declared.fault.ReportKind.{ReportKind}
use Rattle.problem_text.specs.declared.fault.ReportKind.TheVariants.{BadLine, BadNumber, UnknownName, CellCount}
use Rattle.problem_text.specs.Tables.{is_colon, named_by}
use Rattle.certificate_text.specs.declared.certificate.Util.{Util}
use Rattle.report_reader.specs.Told.{amounts_of}

-- whether a variable has its table among these
abbrev pub has_util : List Util → ℕ → Bool
has_util utils var = list_any (λ u. u.var == var) utils

-- whether a variable below `count` has no table among these
abbrev pub lacks_util : List Util → ℕ → Bool
lacks_util utils count = not (list_all (λ var. has_util utils var) (range_with_len 0 count))

-- whether a word names a variable that has its table among these
abbrev pub is_again : List Util → Option ℕ → Bool
is_again utils None = false
is_again utils (Some var) = has_util utils var

-- a variable put before others, if there is one
abbrev pub and_known : Option ℕ → List ℕ → List ℕ
and_known None vars = vars
and_known (Some var) vars = var ∷ vars

-- the variables that these words name; a word that names none is skipped
abbrev pub known_among : List (List ℕ) → List (List ℕ) → List ℕ
known_among names [] = []
known_among names (word ∷ later) = and_known (position (bytes_eq word) names) (known_among names later)

-- the parent that a word gives: a variable by its name, or none by `-`
abbrev pub parent_told : List (List ℕ) → List ℕ → Option (Option ℕ)
parent_told names word = if bytes_eq word (codes "-") then Some None else option_map Some (position (bytes_eq word) names)

-- a table with these cells, whose number must be the product of the sizes of its scope
abbrev pub util_counted : List ℕ → ℕ → Option ℕ → List ℕ → List ℕ → Result Util ReportKind
util_counted sizes var parent scope cells =
    if length cells == product (map (λ v. slice_index sizes v) scope)
    then Ok (record { var = var; parent = parent; scope = scope; cells = cells })
    else Err CellCount

-- a table with these parts; the first fault if words did not give one of them: names are tested
-- first, then numbers
abbrev pub util_told : List ℕ → Option ℕ → Option (Option ℕ) → Option (List ℕ) → Option (List ℕ) → Result Util ReportKind
util_told sizes (Some var) (Some parent) (Some scope) (Some cells) = util_counted sizes var parent scope cells
util_told sizes (Some var) (Some parent) (Some scope) None = Err BadNumber
util_told sizes _ _ _ _ = Err UnknownName

-- the table that the words of its parts give, after these tables: its variable must have none yet,
-- and no variable may occur in its scope twice
abbrev pub util_parts : List (List ℕ) → List ℕ → List Util → List ℕ → List ℕ → List (List ℕ) → List (List ℕ) → Result Util ReportKind
util_parts names sizes utils name parent scope cells =
    if is_again utils (position (bytes_eq name) names) || has_repeat (known_among names scope) then Err BadLine
    else util_told sizes (position (bytes_eq name) names) (parent_told names parent) (named_by names scope) (amounts_of cells)

-- `util NAME PARENT : SCOPE : CELLS`, after these tables
abbrev pub util_line : List (List ℕ) → List ℕ → List Util → List (List ℕ) → Result Util ReportKind
util_line names sizes utils (first ∷ name ∷ parent ∷ colon ∷ further) =
    if not (bytes_eq first (codes "util")) || (not (is_colon colon) || not (list_any is_colon further)) then Err BadLine
    else util_parts names sizes utils name parent (before_first is_colon further) (after_first is_colon further)
util_line names sizes utils _ = Err BadLine
