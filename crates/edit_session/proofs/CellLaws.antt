-- Other cells in a table: the problem stays whole, and it is turned as its table is.
use Rattle.std.proofs.Common.{◌≡◌, ℕ, zero, suc, ◌+◌, ◌-◌, ◌<◌, ◌≤◌, Bool, true, false, not, cond, ◌||◌, eqb, leb, ltb, List, [], ◌∷◌, map, length, get_or, set, Some, None, option_map, refl, sym, ap, subst, ◌∙◌, arith, All}
use Rattle.std.specs.List.{list_any}
use Rattle.std.proofs.lemmas.Bool.{eq-eqb, eqb-true, le-ltb, leb-false, ltb-false, not_from_true}
use Rattle.std.proofs.lemmas.List.{length-set, map-set, get_or-set_same}
use Rattle.std.proofs.lemmas.List.Sums.{sum_by-set}
use Rattle.std.proofs.lemmas.List.Elements.{All-set, All-weaker}
use Rattle.std.proofs.lemmas.List.Folds.{list_any_none}
use Rattle.dcop_base.specs.Table.{CostTable, product, has_repeat, table_fault, greatest}
use Rattle.dcop_base.specs.Problem.{Dcop}
use Rattle.dcop_base.specs.Faults.{greatest_sum}
use Rattle.dcop_base.specs.Whole.{IsTableOf, IsProblem}
use Rattle.dcop_base.specs.Limits.{amount_limit, cost_limit}
use Rattle.dcop_base.specs.declared.table.TableFault.TheVariants.{Repeat, Sizes, CellCount, CellTooLarge}
use Rattle.dcop_base.proofs.TableLaws.{parts-of, none-passes}
use Rattle.dcop_base.proofs.JointLaws.{AreJoints-scopes}
use Rattle.dcop_optimum.specs.Goal.{turned_table, turned, top_of}
use Rattle.dcop_optimum.proofs.TurnedTableLaws.{greatest_bound}
use Rattle.dcop_optimum.proofs.TurnLaws.{turned_problem}
use Rattle.problem_text.specs.File.{TextFile, IsFile, is_max, has_labels}
use Rattle.problem_text.specs.declared.file.Goal.{Goal}
use Rattle.problem_text.specs.declared.file.Goal.TheVariants.{Min, Max}
use Rattle.minimised_problem.specs.Goal.{solved}
use Rattle.edit_session.specs.Edits.{no_table, table_at, recelled, with_cells}
use Rattle.edit_session.proofs.EditLaws.{scopes_stay}
use Rattle.edit_session.specs.Faults.{cells_in, cells_set, cell_fault, cells_fault, IsReplacement}
use Rattle.edit_session.specs.declared.fault.SetFault.{SetFault}
use Rattle.edit_session.specs.declared.fault.SetFault.TheVariants.{NoTable, NoCell, CostTooLarge}
use Rattle.edit_session.specs.State.{edited_file}
use Rattle.edit_session.specs.Session.{turned_cells, turned_for, or_own}

-- where no fault comes of four tests, none comes with others that fail in place of the last two
other_tests : (a b c d c' d' : Bool) → cond a (Some Repeat) (cond b (Some Sizes) (cond c (Some CellCount) (cond d (Some CellTooLarge) None))) ≡ None → c' ≡ false → d' ≡ false
    → cond a (Some Repeat) (cond b (Some Sizes) (cond c' (Some CellCount) (cond d' (Some CellTooLarge) None))) ≡ None
other_tests true b c d c' d' none count small = absurd (cc)
other_tests false true c d c' d' none count small = absurd (cc)
other_tests false false c d c' d' none count small = rw (count, small) refl

-- a whole table stays whole with as many other cells within the cap
pub whole_with : (scope sizes cells others : List ℕ) → table_fault scope sizes cells ≡ None → length others ≡ length cells → All (λ c. c ≤ amount_limit) others → table_fault scope sizes others ≡ None
whole_with scope sizes cells others whole long small =
    let full = (parts-of scope sizes cells whole).full in
    let count = not_from_true (eqb (length others) (product sizes)) (eq-eqb (length others) (product sizes) (long ∙ full)) in
    let capped = list_any_none (λ c. ltb amount_limit c) others (All-weaker (λ c. c ≤ amount_limit) (λ c. ltb amount_limit c ≡ false) (λ c h. le-ltb amount_limit c h) others small) in
    other_tests (has_repeat scope) (not (eqb (length sizes) (length scope)) || list_any (λ s. eqb s 0) sizes) (not (eqb (length cells) (product sizes))) (list_any (λ c. ltb amount_limit c) cells) (not (eqb (length others) (product sizes))) (list_any (λ c. ltb amount_limit c) others) whole count capped

-- the greatest cells' sum, where one table is replaced
pub sum_set : (ts : List CostTable) (k : ℕ) (t : CostTable) → k < length ts → greatest_sum (set ts k t) + greatest (get_or ts k no_table).cells ≡ greatest_sum ts + greatest t.cells
sum_set ts k t lt = sum_by-set (λ (t : CostTable). greatest t.cells) ts k t no_table lt

-- the greatest cell of one table is at most the sum of all
pub one_le : (ts : List CostTable) (k : ℕ) → k < length ts → greatest (get_or ts k no_table).cells ≤ greatest_sum ts
one_le ts k lt = let both = sum_set ts k no_table lt in omega (arith, both)

-- the sum by the old one, as it is computed
pub sum_by_old : (ts : List CostTable) (k : ℕ) (cells : List ℕ) (top old most sum : ℕ) → k < length ts → top ≡ greatest_sum ts → old ≡ greatest (get_or ts k no_table).cells → most ≡ greatest cells
    → sum ≡ top - old + most → sum ≡ greatest_sum (set ts k (recelled (get_or ts k no_table) cells))
sum_by_old ts k cells top old most sum lt is_top is_old is_most is =
    let both = sum_set ts k (recelled (get_or ts k no_table) cells) lt in
    let le = one_le ts k lt in
    omega (arith, both, le, is_top, is_old, is_most, is)

-- a cell is small where its cost is
pub most_small : (cells : List ℕ) → All (λ c. c ≤ cost_limit) cells → greatest cells ≤ cost_limit
most_small cells cheap = greatest_bound cost_limit cells cheap

module _ (p : Dcop) (k : ℕ) (cells : List ℕ) (problem : IsProblem p) (is : IsReplacement p.tables k cells) where
  table_whole : IsTableOf p.sizes (table_at p k)
  table_whole = problem.tables k no_table is.inside

  pub recelled_whole : IsTableOf p.sizes (recelled (table_at p k) cells)
  recelled_whole = record {
    whole = whole_with (table_at p k).scope (table_at p k).sizes (table_at p k).cells cells table_whole.whole is.counted (All-weaker (λ c. c ≤ cost_limit) (λ c. c ≤ amount_limit) (λ c h. omega (arith, h)) cells is.cheap);
    some = table_whole.some;
    few = table_whole.few;
    within = table_whole.within;
    sized = table_whole.sized;
    cheap = is.cheap;
  }

  -- the problem with these cells is whole where the greatest cells stay within the cap
  pub replaced : top_of (with_cells p k cells) ≤ amount_limit → IsProblem (with_cells p k cells)
  replaced within = record {
    some = problem.some;
    few = problem.few;
    sizes = problem.sizes;
    tables = All-set (IsTableOf p.sizes) p.tables k (recelled (table_at p k) cells) recelled_whole problem.tables;
    cells =
        (let both = sum_by-set (λ (t : CostTable). length t.cells) p.tables k (recelled (table_at p k) cells) no_table is.inside in
        let limit = problem.cells in
        let same = is.counted in
        omega (arith, both, limit, same));
    sums = within;
    joints = AreJoints-scopes (length p.sizes) p.tables (with_cells p k cells).tables p.joints (sym (scopes_stay p k cells)) problem.joints;
  }

-- a table is turned in its place
at_turned : (ts : List CostTable) (k : ℕ) → get_or (map turned_table ts) k no_table ≡ turned_table (get_or ts k no_table)
at_turned [] k = refl
at_turned (t ∷ ts) zero = refl
at_turned (t ∷ ts) (suc k) = at_turned ts k

pub turned_edit : (p : Dcop) (k : ℕ) (cells : List ℕ) → turned (with_cells p k cells) ≡ with_cells (turned p) k (turned_cells cells)
turned_edit p k cells =
    let same : turned_table (recelled (table_at p k) cells) ≡ recelled (table_at (turned p) k) (turned_cells cells) = ap (λ (t : CostTable). recelled t (turned_cells cells)) (sym (at_turned p.tables k)) in
    ap (λ (ts : List CostTable). let q : Dcop = record { sizes = p.sizes; tables = ts; joints = p.joints } in q)
    (map-set turned_table p.tables k (recelled (table_at p k) cells) ∙ ap (λ (t : CostTable). set (map turned_table p.tables) k t) same)

-- the cells that the problem solved gets
abbrev pub cells_by : Goal → List ℕ → List ℕ
cells_by Min cells = cells
cells_by Max cells = turned_cells cells

pub solved_edit : (goal : Goal) (p : Dcop) (k : ℕ) (cells : List ℕ) → solved goal (with_cells p k cells) ≡ with_cells (solved goal p) k (cells_by goal cells)
solved_edit Min p k cells = refl
solved_edit Max p k cells = turned_edit p k cells

pub solved_scope : (goal : Goal) (p : Dcop) (k : ℕ) → (table_at (solved goal p) k).scope ≡ (table_at p k).scope
solved_scope Min p k = refl
solved_scope Max p k = ap (λ (t : CostTable). t.scope) (at_turned p.tables k)

pub solved_inside : (goal : Goal) (p : Dcop) (k : ℕ) → k < length p.tables → k < length (solved goal p).tables
solved_inside Min p k lt = lt
solved_inside Max p k lt = let same = length-turned p.tables in omega (arith, lt, same)
  where
    length-turned : (ts : List CostTable) → length (map turned_table ts) ≡ length ts
    length-turned [] = refl
    length-turned (t ∷ ts) = ap suc (length-turned ts)

pub solved_whole : (goal : Goal) (p : Dcop) → IsProblem p → IsProblem (solved goal p)
solved_whole Min p problem = problem
solved_whole Max p problem = turned_problem p problem

pub turned_for_edit : (goal : Goal) (p : Dcop) (k : ℕ) (cells : List ℕ) → option_map (λ q. with_cells q k (turned_cells cells)) (turned_for goal p) ≡ turned_for goal (with_cells p k cells)
turned_for_edit Min p k cells = refl
turned_for_edit Max p k cells = ap (λ (q : Dcop). Some q) (sym (turned_edit p k cells))

pub or_own_is : (goal : Goal) (p : Dcop) → or_own p (turned_for goal p) ≡ solved goal p
or_own_is Min p = refl
or_own_is Max p = refl

-- what is asked of the turned problem before it gets its cells
pub turned_inside : (goal : Goal) (p : Dcop) (k : ℕ) → k < length p.tables → (q : Dcop) → turned_for goal p ≡ Some q → k < length q.tables
turned_inside Min p k lt q e = absurd (cc)
turned_inside Max p k lt q e = subst (λ (r : Dcop). k < length r.tables) (same_some (turned p) q e) (solved_inside Max p k lt)
  where
    same_some : (a b : Dcop) → Some a ≡ Some b → a ≡ b
    same_some a b e = cc

pub turned_may : (goal : Goal) (p : Dcop) (k : ℕ) (cells : List ℕ) → IsProblem (with_cells p k cells) → (q : Dcop) → turned_for goal p ≡ Some q → IsProblem (with_cells q k (turned_cells cells))
turned_may Min p k cells problem q e = absurd (cc)
turned_may Max p k cells problem q e =
    subst (λ (r : Dcop). IsProblem (with_cells r k (turned_cells cells))) (same_some (turned p) q e) (subst IsProblem (turned_edit p k cells) (turned_problem (with_cells p k cells) problem))
  where
    same_some : (a b : Dcop) → Some a ≡ Some b → a ≡ b
    same_some a b e = cc

any_set : (test : CostTable → Bool) (ts : List CostTable) (k : ℕ) (t : CostTable) → test t ≡ test (get_or ts k no_table) → list_any test (set ts k t) ≡ list_any test ts
any_set test [] k t same = refl
any_set test (x ∷ xs) zero t same = ap (λ (b : Bool). b || list_any test xs) same
any_set test (x ∷ xs) (suc k) t same = ap (λ (b : Bool). test x || b) (any_set test xs k t same)

-- a file stays one with other cells in a table
pub file_stays : (f : TextFile) (k : ℕ) (cells : List ℕ) → IsFile f → IsFile (edited_file f k cells)
file_stays f k cells is = record {
  version = is.version;
  second = λ needs. is.second (sym (ap (λ (b : Bool). b || is_max f.goal || has_labels f.labels) (any_set (λ (t : CostTable). ltb 2 (length t.scope)) f.problem.tables k (recelled (table_at f.problem k) cells) refl)) ∙ needs);
  named = is.named;
  distinct = is.distinct;
  names = is.names;
  labels = is.labels;
}

-- a table of a whole problem with other cells has no fault
pub recelled_fault : (p : Dcop) (k : ℕ) (cells : List ℕ) → k < length p.tables → IsProblem (with_cells p k cells) → table_fault (table_at p k).scope (table_at p k).sizes cells ≡ None
recelled_fault p k cells lt problem =
    let t : CostTable = recelled (table_at p k) cells in
    let count = length-set p.tables k t in
    let at = problem.tables k no_table (omega (arith, lt, count)) in
    subst (λ (u : CostTable). table_fault u.scope u.sizes u.cells ≡ None) (get_or-set_same p.tables k t no_table lt) at.whole

three_fail : (a b c : Bool) (x y z : SetFault) → cond a (Some x) (cond b (Some y) (cond c (Some z) None)) ≡ None → (a ≡ false) × (b ≡ false) × (c ≡ false)
three_fail true b c x y z none = absurd (cc)
three_fail false true c x y z none = absurd (cc)
three_fail false false true x y z none = absurd (cc)
three_fail false false false x y z none = (refl, refl, refl)

-- cells of which one becomes a cost that may stand may replace those of the table
pub set_replaces : (p : Dcop) (k cell cost : ℕ) → IsProblem p → cell_fault p.tables k cell cost ≡ None → IsReplacement p.tables k (cells_set p.tables k cell cost)
set_replaces p k cell cost problem none =
    let fails = three_fail (leb (length p.tables) k) (leb (length (cells_in p.tables k)) cell) (ltb cost_limit cost) NoTable NoCell CostTooLarge none in
    let inside : k < length p.tables = leb-false (length p.tables) k fails.0 in
    record {
      inside = inside;
      counted = length-set (cells_in p.tables k) cell cost;
      cheap = All-set (λ (c : ℕ). c ≤ cost_limit) (cells_in p.tables k) cell cost (ltb-false cost_limit cost fails.2) (problem.tables k no_table inside).cheap;
    }

-- cells that are as many, and none of which costs too much, may replace those of the table
pub fill_replaces : (tables : List CostTable) (k : ℕ) (cells : List ℕ) → cells_fault tables k cells ≡ None → IsReplacement tables k cells
fill_replaces tables k cells none =
    let fails = three_fail (leb (length tables) k) (not (eqb (length cells) (length (cells_in tables k)))) (list_any (λ c. ltb cost_limit c) cells) NoTable NoCell CostTooLarge none in
    record {
      inside = leb-false (length tables) k fails.0;
      counted = eqb-true (length cells) (length (cells_in tables k)) (not_false (eqb (length cells) (length (cells_in tables k))) fails.1);
      cheap = All-weaker (λ (c : ℕ). ltb cost_limit c ≡ false) (λ (c : ℕ). c ≤ cost_limit) (λ c h. ltb-false cost_limit c h) cells (none-passes (λ c. ltb cost_limit c) cells fails.2);
    }
  where
    not_false : (b : Bool) → not b ≡ false → b ≡ true
    not_false true e = refl
    not_false false e = absurd (cc)
