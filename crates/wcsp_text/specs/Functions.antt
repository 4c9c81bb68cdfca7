-- The functions of a text, each as a table over its scope.
use Rattle.std.specs.Prelude.{◌≡◌, ◌==◌, false, ℕ, zero, suc, ◌+◌, ◌||◌, List, [], ◌∷◌, ◌++◌, map, replicate, length, Result, Ok, nat_lt, nat_le, if◌then◌else◌, slice_index}
use Rattle.std.specs.List.{sum_by, list_any}
use Rattle.dcop_base.specs.Table.{CostTable, product, has, has_repeat}
use Rattle.dcop_base.specs.Limits.{scope_limit, cell_limit}
use Rattle.wcsp_text.specs.declared.fault.WcspKind.TheVariants.{Index, Arity, Problem}
use Rattle.wcsp_text.specs.declared.fault.Fault.{Fault}
use Rattle.wcsp_text.specs.Numbers.{Place, number, fails, read_on}
use Rattle.wcsp_text.specs.Cells.{cells_read}

-- a function: how many bytes follow the word of its arity, and its table as the text gives it
pub record Function : Type 0 where
  pub after : ℕ
  pub table : CostTable

-- the sizes of these variables
abbrev pub own_sizes : List ℕ → List ℕ → List ℕ
own_sizes sizes scope = map (λ v. slice_index sizes v) scope

-- the table over a scope with these cells; a function of no variables is a table on variable 0 with
-- its cost in every cell
abbrev pub table_over : List ℕ → List ℕ → List ℕ → CostTable
table_over sizes [] cells = record {
  scope = 0 ∷ [];
  sizes = slice_index sizes 0 ∷ [];
  cells = replicate (slice_index sizes 0) (slice_index cells 0);
}
table_over sizes (var ∷ scope) cells = record {
  scope = var ∷ scope;
  sizes = own_sizes sizes (var ∷ scope);
  cells = cells;
}

-- how many cells the table over a scope has
abbrev pub count_over : List ℕ → List ℕ → ℕ
count_over sizes [] = slice_index sizes 0
count_over sizes (var ∷ scope) = product (own_sizes sizes (var ∷ scope))

-- the result of reading a scope that begins with these variables and has `arity` more, each new and
-- below the number of variables
abbrev pub scope_read : ℕ → List ℕ → ℕ → Place → Result (List ℕ × Place) Fault
scope_read variables earlier zero p = Ok (earlier, p)
scope_read variables earlier (suc arity) p =
    read_on (number p.words) (λ var q.
    if nat_le variables var || has earlier var then fails q Index
    else scope_read variables (earlier ++ (var ∷ [])) arity q)

-- the result of reading what follows an arity, after functions that have `before` cells: the scope,
-- then the cells
abbrev pub over_scope : List ℕ → ℕ → ℕ → Place → Result (Function × Place) Fault
over_scope sizes before arity p =
    read_on (scope_read (length sizes) [] arity p) (λ scope q.
    if nat_lt cell_limit (before + count_over sizes scope) then fails p (Problem 9)
    else read_on (cells_read (own_sizes sizes scope) q) (λ cells r.
    Ok (record { after = p.after; table = table_over sizes scope cells }, r)))

-- the result of reading a function, after others that have `before` cells
abbrev pub function_read : List ℕ → ℕ → Place → Result (Function × Place) Fault
function_read sizes before p =
    read_on (number p.words) (λ arity q.
    if nat_lt scope_limit arity then fails q Arity else over_scope sizes before arity q)

-- how many cells these functions have
abbrev pub cells_of : List Function → ℕ
cells_of functions = sum_by (λ f. length f.table.cells) functions

-- the result of reading `count` functions after these earlier ones
abbrev pub functions_read : List ℕ → List Function → ℕ → Place → Result (List Function × Place) Fault
functions_read sizes earlier zero p = Ok (earlier, p)
functions_read sizes earlier (suc count) p =
    read_on (function_read sizes (cells_of earlier) p) (λ f q. functions_read sizes (earlier ++ (f ∷ [])) count q)

-- a table whose cells may be of any size: its variables are distinct, each has at least one value,
-- and there is one cell for each choice of values
pub record IsWritten (t : CostTable) : Type 0 where
  pub apart : has_repeat t.scope ≡ false
  pub sized : length t.sizes ≡ length t.scope
  pub positive : list_any (λ s. s == 0) t.sizes ≡ false
  pub full : length t.cells ≡ product t.sizes
