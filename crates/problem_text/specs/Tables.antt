-- The line of a table. Each test is for one fault; the first test that fails gives the fault.
use Rattle.std.specs.Prelude.{ℕ, ◌+◌, Bool, not, ◌||◌, List, [], ◌∷◌, map, length, Option, Some, None, ◌==◌, nat_lt, if◌then◌else◌, slice_index, codes}
use Rattle.std.specs.List.{list_any, position, before_first, after_first}
use Rattle.dcop_base.specs.Table.{CostTable, product, has_repeat, greatest}
use Rattle.dcop_base.specs.Faults.{cell_count, greatest_sum}
use Rattle.dcop_base.specs.NumberWord.{number_of}
use Rattle.dcop_base.specs.Limits.{amount_limit, scope_limit, cost_limit, cell_limit}
use Rattle.problem_text.specs.declared.fault.TextKind.{TextKind}
use Rattle.problem_text.specs.declared.fault.TextKind.TheVariants.{BadWord, BadNumber, UnknownName, Problem}
use Rattle.std.specs.Str.{bytes_eq}
use Rattle.problem_text.specs.Declarations.{Declared, with_table, unless, Outcome, Fails}

-- an element put before a list, if both are given
abbrev pub onto : Option ℕ → Option (List ℕ) → Option (List ℕ)
onto (Some x) (Some xs) = Some (x ∷ xs)
onto _ _ = None

-- the variables that these words name, if each word is a declared name
abbrev pub named_by : List (List ℕ) → List (List ℕ) → Option (List ℕ)
named_by names [] = Some []
named_by names (word ∷ later) = onto (position (bytes_eq word) names) (named_by names later)

-- the numbers that these words write, if each word is a number
abbrev pub numbers_of : List (List ℕ) → Option (List ℕ)
numbers_of [] = Some []
numbers_of (word ∷ later) = onto (number_of word) (numbers_of later)

-- the most variables that a table may have in this version
abbrev pub most_names : ℕ → ℕ
most_names version = if version == 1 then 2 else scope_limit

-- the first fault of a table's cells, after these earlier tables
abbrev pub cells_fault : List CostTable → CostTable → Option TextKind
cells_fault earlier t =
    if not (length t.cells == product t.sizes) then Some (Problem 6)
    else (if list_any (λ c. nat_lt cost_limit c) t.cells then Some (Problem 7)
    else (if nat_lt cell_limit (cell_count earlier + length t.cells) then Some (Problem 9)
    else (if nat_lt amount_limit (greatest_sum earlier + greatest t.cells) then Some (Problem 8)
    else None)))

-- the outcome of a line that declares one more table
abbrev pub table : Declared → CostTable → Outcome
table d t = unless (cells_fault d.tables t) (with_table d t)

-- the outcome of a table with this scope, if its cells are numbers
abbrev pub with_cells : Declared → List ℕ → Option (List ℕ) → Outcome
with_cells d scope None = Fails BadNumber
with_cells d scope (Some cells) =
    table d (record { scope = scope; sizes = map (λ v. slice_index d.sizes v) scope; cells = cells })

-- the outcome of a table with this scope, if its names are declared, and with the cells that these
-- words write
abbrev pub with_scope : Declared → Option (List ℕ) → List (List ℕ) → Outcome
with_scope d None cells = Fails UnknownName
with_scope d (Some scope) cells =
    if has_repeat scope then Fails (Problem 5) else with_cells d scope (numbers_of cells)

-- the outcome of a table with the names before the first `:` and the cells after it
abbrev pub names_and_cells : Declared → List (List ℕ) → List (List ℕ) → Outcome
names_and_cells d names cells =
    if length names == 0 || nat_lt (most_names d.version) (length names) then Fails (Problem 3)
    else with_scope d (named_by d.names names) cells

-- whether a word is `:`
abbrev pub is_colon : List ℕ → Bool
is_colon word = bytes_eq word (codes ":")

-- the words after `table`: names, `:` and cells
abbrev pub table_line : Declared → List (List ℕ) → Outcome
table_line d further =
    if not (list_any is_colon further) then Fails BadWord
    else names_and_cells d (before_first is_colon further) (after_first is_colon further)
