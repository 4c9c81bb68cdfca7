-- Laws of tables: their form, their greatest cell, and the cell that an assignment names.
use Rattle.std.proofs.Common.{◌≡◌, ℕ, ◌+◌, ◌-◌, ◌<◌, ◌≤◌, Bool, true, false, not, ◌||◌, ◌==◌, nat_lt, List, [], ◌∷◌, length, map, max, fold, slice_index, Some, None, cond, refl, ◌∙◌, arith, All}
use Rattle.std.specs.List.{list_any}
use Rattle.std.proofs.lemmas.Bool.{eq-eqb, le-ltb, not_from_true}
use Rattle.std.proofs.lemmas.List.{length-map, get_or-map}
use Rattle.std.proofs.lemmas.List.Elements.{All-nil, All-cons, All-head, All-tail, All-weaker, All-map, All-get_or}
use Rattle.std.proofs.lemmas.List.Folds.{list_any_none}
use Rattle.dcop_base.specs.Table.{CostTable, product, has_repeat, table_fault, AreWithin, values_at, cell_place, cell_at, greatest}
use Rattle.dcop_base.specs.Whole.{IsTableOf}
use Rattle.dcop_base.specs.Limits.{amount_limit, cost_limit}
use Rattle.dcop_base.specs.declared.table.TableFault.TheVariants.{Repeat, Sizes, CellCount, CellTooLarge}
use Rattle.dcop_optimum.specs.Goal.{turned_table}
use Rattle.dcop_base.proofs.TableLaws.{parts-of, place-lt}
use Rattle.dcop_base.proofs.ProblemLaws.{values-fit}

-- where no fault comes of four tests, none comes with others that fail in place of the last two
other_tests : (a b c d c' d' : Bool) → cond a (Some Repeat) (cond b (Some Sizes) (cond c (Some CellCount) (cond d (Some CellTooLarge) None))) ≡ None → c' ≡ false → d' ≡ false → cond a (Some Repeat) (cond b (Some Sizes) (cond c' (Some CellCount) (cond d' (Some CellTooLarge) None))) ≡ None
other_tests true b c d c' d' none count small = absurd (cc)
other_tests false true c d c' d' none count small = absurd (cc)
other_tests false false c d c' d' none count small = rw (count, small) refl

-- a whole table stays whole with as many other cells within the cap
whole_with : (scope sizes cells others : List ℕ) → table_fault scope sizes cells ≡ None → length others ≡ length cells → All (λ c. c ≤ amount_limit) others → table_fault scope sizes others ≡ None
whole_with scope sizes cells others whole long small =
    let full = (parts-of scope sizes cells whole).full in
    let count = not_from_true (length others == product sizes) (eq-eqb (length others) (product sizes) (long ∙ full)) in
    let capped = list_any_none (λ c. nat_lt amount_limit c) others (All-weaker (λ c. c ≤ amount_limit) (λ c. nat_lt amount_limit c ≡ false) (λ c h. le-ltb amount_limit c h) others small) in
    other_tests (has_repeat scope) (not (length sizes == length scope) || list_any (λ s. s == 0) sizes) (not (length cells == product sizes)) (list_any (λ c. nat_lt amount_limit c) cells) (not (length others == product sizes)) (list_any (λ c. nat_lt amount_limit c) others) whole count capped

-- the greatest so far is at most the greatest
fold-max_start : (most : ℕ) (cells : List ℕ) → most ≤ fold max most cells
fold-max_start most [] = omega arith
fold-max_start most (x ∷ xs) = let rest = fold-max_start (max most x) xs in omega arith

-- each cell is at most the greatest
fold-max_all : (most : ℕ) (cells : List ℕ) → All (λ c. c ≤ fold max most cells) cells
fold-max_all most [] = All-nil (λ c. c ≤ most)
fold-max_all most (x ∷ xs) =
    let start = fold-max_start (max most x) xs in
    All-cons (λ c. c ≤ fold max (max most x) xs) x xs (omega arith) (fold-max_all (max most x) xs)

-- the greatest is at most what each cell is at most
fold-max_bound : (most bound : ℕ) (cells : List ℕ) → most ≤ bound → All (λ c. c ≤ bound) cells → fold max most cells ≤ bound
fold-max_bound most bound [] start all = start
fold-max_bound most bound (x ∷ xs) start all =
    let first : x ≤ bound = All-head (λ c. c ≤ bound) x xs all in
    fold-max_bound (max most x) bound xs (omega arith) (All-tail (λ c. c ≤ bound) x xs all)

-- each cell is at most the greatest of the cells
pub cells_below : (cells : List ℕ) → All (λ c. c ≤ greatest cells) cells
cells_below cells = fold-max_all 0 cells

-- the greatest cell is at most what each cell is at most
pub greatest_bound : (bound : ℕ) (cells : List ℕ) → All (λ c. c ≤ bound) cells → greatest cells ≤ bound
greatest_bound bound cells all = fold-max_bound 0 bound cells (omega arith) all

-- each cell less from a number is at most the number
pub cells_less_below : (top : ℕ) (cells : List ℕ) → All (λ c. c ≤ top) (map (λ c. top - c) cells)
cells_less_below top cells = All-map (λ c. c ≤ top) (λ c. top - c) cells (λ k d h. omega arith)

-- the greatest cell of a turned table is at most the table's
pub greatest-turned : (t : CostTable) → greatest (turned_table t).cells ≤ greatest t.cells
greatest-turned t = greatest_bound (greatest t.cells) (turned_table t).cells (cells_less_below (greatest t.cells) t.cells)

-- a whole table, turned, is whole
pub turned_fault : (scope sizes cells : List ℕ) → table_fault scope sizes cells ≡ None → table_fault scope sizes (map (λ c. greatest cells - c) cells) ≡ None
turned_fault scope sizes cells whole =
    let top = greatest_bound amount_limit cells (parts-of scope sizes cells whole).small in
    whole_with scope sizes cells (map (λ c. greatest cells - c) cells) whole (length-map cells (λ c. greatest cells - c))
    (All-weaker (λ c. c ≤ greatest cells) (λ c. c ≤ amount_limit) (λ c h. omega arith) (map (λ c. greatest cells - c) cells) (cells_less_below (greatest cells) cells))

-- a table of a problem, turned, is one too
pub turned_whole : (sizes : List ℕ) (t : CostTable) → IsTableOf sizes t → IsTableOf sizes (turned_table t)
turned_whole sizes t of =
    let top = greatest_bound cost_limit t.cells of.cheap in
    let cheap : All (λ c. c ≤ cost_limit) (turned_table t).cells = All-weaker (λ c. c ≤ greatest t.cells) (λ c. c ≤ cost_limit) (λ c h. omega arith) (turned_table t).cells (cells_less_below (greatest t.cells) t.cells) in
    record {
      whole = turned_fault t.scope t.sizes t.cells of.whole;
      some = of.some;
      few = of.few;
      within = of.within;
      sized = of.sized;
      cheap = cheap;
    }

-- the cells that an assignment names in a table and in the turned table sum to the greatest cell
pub cell_at-turned : (sizes values : List ℕ) (t : CostTable) → AreWithin sizes values → IsTableOf sizes t → cell_at t values + cell_at (turned_table t) values ≡ greatest t.cells
cell_at-turned sizes values t within of =
    let place = cell_place t.sizes (values_at t.scope values) in
    let inside : place < length t.cells = place-lt t.scope t.sizes t.cells values of.whole (values-fit sizes values t of within) in
    let cell : slice_index t.cells place ≤ greatest t.cells = All-get_or (λ c. c ≤ greatest t.cells) t.cells place 0 inside (cells_below t.cells) in
    let other : slice_index (turned_table t).cells place ≡ greatest t.cells - slice_index t.cells place = get_or-map (λ c. greatest t.cells - c) t.cells place 0 0 inside in
    omega arith
