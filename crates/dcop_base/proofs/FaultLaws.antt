-- Laws of faults: what holds where a test or a chain of tests found none.
use Rattle.std.proofs.Common.{◌≡◌, ℕ, ◌+◌, ◌<◌, ◌≤◌, Bool, true, false, not, ◌||◌, cond, eqb, ltb, leb, List, [], ◌∷◌, Option, Some, None, length, get_or, take, drop, map, max, refl, sym, ap, ◌∙◌, nat_eq, le_refl, le_trans, arith}
use Rattle.std.proofs.Math.Nat.{le-max_left, le-max_right}
use Rattle.std.specs.List.{All, fold, list_any, position, position_or_len}
use Rattle.std.specs.Cmp.Lexicographic.{pointwise}
use Rattle.std.proofs.lemmas.List.Sums.{fails_before_first, position_or_len_is, sum_by_more}
use Rattle.std.proofs.lemmas.List.{drop_more, take_more, length_push}
use Rattle.std.proofs.lemmas.List.Folds.{list_any_none}
use Rattle.std.proofs.lemmas.List.Elements.{All-head, All-tail, All-cons}
use Rattle.std.proofs.lemmas.Bool.{ltb-false, le-ltb, lt-leb, ne_eqb, or_from, not_from_true, leb-false, not-false, eqb-false, eqb-true, eq-eqb, and_parts, or_parts}
use Rattle.dcop_base.specs.Table.{CostTable, has_repeat, greatest}
use Rattle.dcop_base.specs.Faults.{cell_count, greatest_sum, cells_fault, first_fault, next_fault, tables_fault}
use Rattle.dcop_base.specs.declared.problem.ProblemFault.{ProblemFault}
use Rattle.dcop_base.specs.declared.problem.ProblemFault.TheVariants.{ScopeLength, ScopeRange, ScopeRepeat, CellCount, TooManyCells, SumTooLarge}
use Rattle.dcop_base.specs.Limits.{amount_limit, scope_limit, cost_limit, cell_limit}
use Rattle.dcop_base.specs.Totals.{AreTotals}
use Rattle.dcop_base.specs.declared.fault.Totals.{Totals}
use Rattle.dcop_base.proofs.TableLaws.{four-fail, none-passes}

-- a list that a search went through passes the test nowhere
pub position-none : {X : Type 0} (p : X → Bool) (xs : List X) → position p xs ≡ None → All (λ x. p x ≡ false) xs
position-none p xs e k d h = fails_before_first p xs k d (omega (arith, past))
  where
    stuck : (b : Bool) (n : ℕ) → cond b (Some n) None ≡ None → b ≡ false
    stuck true n e = cc
    stuck false n e = refl

    past : length xs ≤ position_or_len p xs
    past = ltb-false _ _ (stuck (ltb (position_or_len p xs) (length xs)) (position_or_len p xs) e)

-- a list that passes a test nowhere is searched to its end
pub position-all : {X : Type 0} (p : X → Bool) (xs : List X) → All (λ x. p x ≡ false) xs → position p xs ≡ None
position-all {X} p [] h = refl
position-all {X} p (x ∷ xs) h =
    let past = position_or_len_is p (x ∷ xs) (length (x ∷ xs)) x (omega arith) (λ k lt. h k x lt) (λ lt. absurd (omega (arith, lt))) in
    ap (λ n. cond (ltb n (length (x ∷ xs))) (Some n) None) past ∙ ap (λ b. cond b (Some (length (x ∷ xs))) None) (le-ltb (length (x ∷ xs)) (length (x ∷ xs)) (omega arith))

-- the greatest of cells within a limit is within it
fold-max-le : (m a : ℕ) (xs : List ℕ) → a ≤ m → All (λ x. x ≤ m) xs → fold max a xs ≤ m
fold-max-le m a [] h all = h
fold-max-le m a (x ∷ xs) h all =
    let head = All-head (λ x. x ≤ m) x xs all in
    fold-max-le m (max a x) xs (omega arith) (All-tail (λ x. x ≤ m) x xs all)

pub greatest-le : (m : ℕ) (cells : List ℕ) → All (λ c. c ≤ m) cells → greatest cells ≤ m
greatest-le m cells all = fold-max-le m 0 cells (omega arith) all

-- the greatest of cells of which none was found above a limit is within it
pub greatest-le-none : (m : ℕ) (cells : List ℕ) → position (λ c. ltb m c) cells ≡ None → greatest cells ≤ m
greatest-le-none m cells e = greatest-le m cells (λ k d h. ltb-false m (get_or cells k d) (position-none (λ c. ltb m c) cells e k d h))

-- the greatest of cells is no less than each of them
fold-max-from : (a : ℕ) (xs : List ℕ) → a ≤ fold max a xs
fold-max-from a [] = le_refl a
fold-max-from a (x ∷ xs) = le_trans (le-max_left a x) (fold-max-from (max a x) xs)

le-fold-max : (a : ℕ) (xs : List ℕ) → All (λ x. x ≤ fold max a xs) xs
le-fold-max a [] = λ k d h. absurd (omega arith)
le-fold-max a (x ∷ xs) = All-cons (λ y. y ≤ fold max a (x ∷ xs)) x xs (le_trans (le-max_right a x) (fold-max-from (max a x) xs)) (le-fold-max (max a x) xs)

-- no cell is found above a limit that the greatest does not exceed
pub none-above : (m : ℕ) (cells : List ℕ) → greatest cells ≤ m → position (λ c. ltb m c) cells ≡ None
none-above m cells h = position-all (λ c. ltb m c) cells (λ k d lt. le-ltb m (get_or cells k d) (le_trans (le-fold-max 0 cells k d lt) h))

-- lists are equal exactly where they are so element by element
pub pointwise-true : (xs ys : List ℕ) → pointwise nat_eq xs ys ≡ true → xs ≡ ys
pointwise-true [] [] e = refl
pointwise-true [] (y ∷ ys) e = cc
pointwise-true (x ∷ xs) [] e = cc
pointwise-true (x ∷ xs) (y ∷ ys) e =
    let both = and_parts (nat_eq x y) (pointwise nat_eq xs ys) e in
    let head = eqb-true x y both.0 in
    let tail = pointwise-true xs ys both.1 in
    cc

pub pointwise-same : (xs : List ℕ) → pointwise nat_eq xs xs ≡ true
pointwise-same [] = refl
pointwise-same (x ∷ xs) = rw (eq-eqb x x refl, pointwise-same xs)

-- what holds of a table in which nothing is wrong behind these earlier ones
pub record IsNext (sizes : List ℕ) (earlier : List CostTable) (t : CostTable) : Type 0 where
  pub some : 1 ≤ length t.scope
  pub few : length t.scope ≤ scope_limit
  pub within : All (λ v. v < length sizes) t.scope
  pub apart : has_repeat t.scope ≡ false
  pub sized : t.sizes ≡ map (λ v. get_or sizes v 0) t.scope
  pub cheap : All (λ c. c ≤ cost_limit) t.cells
  pub cells : cell_count earlier + length t.cells ≤ cell_limit
  pub sums : greatest_sum earlier + greatest t.cells ≤ amount_limit

two-fail : {X : Type 0} (a b : Bool) (x y : X) → cond a (Some x) (cond b (Some y) None) ≡ None → (a ≡ false) × (b ≡ false)
two-fail true b x y e = cc
two-fail false true x y e = cc
two-fail false false x y e = (refl, refl)

cells-none : (earlier : List CostTable) (cells : List ℕ) (o : Option ℕ) → cells_fault earlier cells o ≡ None → (o ≡ None) × (cell_count earlier + length cells ≤ cell_limit) × (greatest_sum earlier + greatest cells ≤ amount_limit)
cells-none earlier cells (Some cell) e = cc
cells-none earlier cells None e =
    let two = two-fail (ltb cell_limit (cell_count earlier + length cells)) (ltb amount_limit (greatest_sum earlier + greatest cells)) (TooManyCells (length earlier)) (SumTooLarge (length earlier)) e in
    (refl, ltb-false _ _ two.0, ltb-false _ _ two.1)

pub next-none : (sizes : List ℕ) (earlier : List CostTable) (t : CostTable) → next_fault sizes earlier t ≡ None → IsNext sizes earlier t
next-none sizes earlier t e =
    let place = length earlier in
    let limit = position (λ c. ltb cost_limit c) t.cells in
    let tests = four-fail (eqb (length t.scope) 0 || ltb scope_limit (length t.scope)) (list_any (λ v. leb (length sizes) v) t.scope) (has_repeat t.scope) (not (pointwise nat_eq t.sizes (map (λ v. get_or sizes v 0) t.scope))) (ScopeLength place) (ScopeRange place) (ScopeRepeat place) (CellCount place) (cells_fault earlier t.cells limit) e in
    let many = or_parts _ _ tests.0 in
    let ne = eqb-false (length t.scope) 0 many.0 in
    let cells = cells-none earlier t.cells limit tests.4 in
    record {
      some = grind arith;
      few = ltb-false _ _ many.1;
      within = λ k d h. leb-false _ _ (none-passes (λ v. leb (length sizes) v) t.scope tests.1 k d h);
      apart = tests.2;
      sized = pointwise-true _ _ (not-false _ tests.3);
      cheap = λ k d h. ltb-false _ _ (position-none (λ c. ltb cost_limit c) t.cells cells.0 k d h);
      cells = cells.1;
      sums = cells.2;
    }

-- the faults from a table on, where the table has a fault and where it has none
faults-at : (sizes : List ℕ) (tables : List CostTable) (k : ℕ) (d : CostTable) → k < length tables → tables_fault sizes (take k tables) (drop k tables) ≡ first_fault (next_fault sizes (take k tables) (get_or tables k d)) (tables_fault sizes (take (k + 1) tables) (drop (k + 1) tables))
faults-at sizes tables k d h =
    ap (λ ts. tables_fault sizes (take k tables) ts) (drop_more tables k d h)
    ∙ ap (λ ts. first_fault (next_fault sizes (take k tables) (get_or tables k d)) (tables_fault sizes ts (drop (k + 1) tables))) (sym (take_more tables k d h))

pub faults-more : (sizes : List ℕ) (tables : List CostTable) (k : ℕ) (t : CostTable) → k < length tables → t ≡ get_or tables k t → next_fault sizes (take k tables) t ≡ None → tables_fault sizes (take k tables) (drop k tables) ≡ tables_fault sizes (take (k + 1) tables) (drop (k + 1) tables)
faults-more sizes tables k t h is e = faults-at sizes tables k t h ∙ ap (λ f. first_fault f (tables_fault sizes (take (k + 1) tables) (drop (k + 1) tables))) (ap (λ t. next_fault sizes (take k tables) t) (sym is) ∙ e)

pub faults-found : (sizes : List ℕ) (tables : List CostTable) (k : ℕ) (t : CostTable) (fault : ProblemFault) → k < length tables → t ≡ get_or tables k t → next_fault sizes (take k tables) t ≡ Some fault → tables_fault sizes (take k tables) (drop k tables) ≡ Some fault
faults-found sizes tables k t fault h is e = faults-at sizes tables k t h ∙ ap (λ f. first_fault f (tables_fault sizes (take (k + 1) tables) (drop (k + 1) tables))) (ap (λ t. next_fault sizes (take k tables) t) (sym is) ∙ e)

-- the totals with one more table
pub totals-more : (tables : List CostTable) (k : ℕ) (t : CostTable) (before after : Totals) → k < length tables → t ≡ get_or tables k t → AreTotals (take k tables) before → after.tables ≡ before.tables + 1 → after.cells ≡ before.cells + length t.cells → after.sum ≡ before.sum + greatest t.cells → AreTotals (take (k + 1) tables) after
totals-more tables k t before after h is totals one two three =
    let more = take_more tables k t h in
    record {
      tables = ap length more ∙ length_push (take k tables) (get_or tables k t) ∙ ap (λ n. n + 1) totals.tables ∙ sym one;
      cells = sum_by_more (λ t. length t.cells) tables k t h ∙ ap (λ n. n + length (get_or tables k t).cells) totals.cells ∙ ap (λ (t : CostTable). before.cells + length t.cells) (sym is) ∙ sym two;
      sum = sum_by_more (λ t. greatest t.cells) tables k t h ∙ ap (λ n. n + greatest (get_or tables k t).cells) totals.sum ∙ ap (λ (t : CostTable). before.sum + greatest t.cells) (sym is) ∙ sym three;
    }

-- a chain of four tests that all fail goes on
four-pass : {X : Type 0} (a b c d : Bool) (w x y z : X) (o : Option X) → a ≡ false → b ≡ false → c ≡ false → d ≡ false → o ≡ None → cond a (Some w) (cond b (Some x) (cond c (Some y) (cond d (Some z) o))) ≡ None
four-pass a b c d w x y z o ea eb ec ed eo = rw (ea, eb, ec, ed) eo

-- where all that holds, nothing is wrong with the table
pub none-next : (sizes : List ℕ) (earlier : List CostTable) (t : CostTable) → IsNext sizes earlier t → next_fault sizes earlier t ≡ None
none-next sizes earlier t h =
    let place = length earlier in
    let limit = position (λ c. ltb cost_limit c) t.cells in
    let nowhere = position-all (λ c. ltb cost_limit c) t.cells (λ k d lt. le-ltb cost_limit (get_or t.cells k d) (h.cheap k d lt)) in
    let some : eqb (length t.scope) 0 ≡ false = ne_eqb (length t.scope) 0 (λ e. absurd (omega (arith, e, h.some))) in
    let few = le-ltb scope_limit (length t.scope) h.few in
    let within = list_any_none (λ v. leb (length sizes) v) t.scope (λ k d lt. lt-leb (length sizes) (get_or t.scope k d) (h.within k d lt)) in
    let own = map (λ v. get_or sizes v 0) t.scope in
    let sized : not (pointwise nat_eq t.sizes own) ≡ false = not_from_true _ (ap (λ ss. pointwise nat_eq ss own) h.sized ∙ pointwise-same own) in
    let cells : cells_fault earlier t.cells limit ≡ None = rw (nowhere, le-ltb cell_limit (cell_count earlier + length t.cells) h.cells, le-ltb amount_limit (greatest_sum earlier + greatest t.cells) h.sums) refl in
    four-pass (eqb (length t.scope) 0 || ltb scope_limit (length t.scope)) (list_any (λ v. leb (length sizes) v) t.scope) (has_repeat t.scope) (not (pointwise nat_eq t.sizes own)) (ScopeLength place) (ScopeRange place) (ScopeRepeat place) (CellCount place) (cells_fault earlier t.cells limit) (or_from _ _ some few) within h.apart sized cells
