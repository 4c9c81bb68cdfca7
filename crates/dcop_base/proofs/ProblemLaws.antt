-- Laws of problems: its tables at an assignment, and the bounds of costs.
use Rattle.std.proofs.Common.{◌≡◌, ℕ, zero, suc, ◌+◌, ◌<◌, ◌≤◌, Bool, true, false, cond, eqb, ltb, List, [], ◌∷◌, ◌++◌, Option, Some, None, refl, length, get_or, take, map, max, ap, arith}
use Rattle.std.specs.List.{All, fold, sum_by, position}
use Rattle.std.proofs.lemmas.List.{append-nil, append_assoc}
use Rattle.std.proofs.lemmas.Bool.{ltb-false, eqb-false, le-ltb, ne_eqb, or_from, or_parts}
use Rattle.std.proofs.lemmas.List.Elements.{length_all_zip, AllZip-get_or, All-head, All-tail, All-nil, All-cons}
use Rattle.std.proofs.lemmas.List.Sums.{sum_by_push, sum_by-append, sum_by-cons, sum_by_more_le, sum_by-take-le, sum_by-le-sum_by}
use Rattle.dcop_base.specs.Table.{CostTable, IsTable, AreWithin, values_at, cell_at, cell_place, greatest}
use Rattle.dcop_base.specs.Problem.{Dcop, cost}
use Rattle.dcop_base.specs.Faults.{cell_count, greatest_sum, is_bad_size, first_fault, sizes_fault, next_fault, tables_fault, problem_fault}
use Rattle.dcop_base.specs.Graph.{AreJoints}
use Rattle.dcop_base.specs.declared.problem.ProblemFault.{ProblemFault}
use Rattle.dcop_base.specs.declared.problem.ProblemFault.TheVariants.{NoVariables, TooManyVariables}
use Rattle.dcop_base.specs.Limits.{variable_limit, size_limit, cell_limit, amount_limit}
use Rattle.dcop_base.proofs.FaultLaws.{position-none, position-all, next-none, none-next}
use Rattle.dcop_base.proofs.TableLaws.{parts-of, place-lt}
use Rattle.dcop_base.specs.Whole.{IsTableOf, IsProblem}

fold-max-start : (a : ℕ) (xs : List ℕ) → a ≤ fold max a xs
fold-max-start a [] = omega arith
fold-max-start a (x ∷ xs) = let rest = fold-max-start (max a x) xs in omega arith

fold-max-at : (a : ℕ) (xs : List ℕ) (k : ℕ) → get_or xs k 0 ≤ fold max a xs
fold-max-at a [] k = omega arith
fold-max-at a (x ∷ xs) zero = let rest = fold-max-start (max a x) xs in omega arith
fold-max-at a (x ∷ xs) (suc k) = fold-max-at (max a x) xs k

-- no cell that values name is above the greatest
pub cell_at-le-greatest : (values : List ℕ) (t : CostTable) → cell_at t values ≤ greatest t.cells
cell_at-le-greatest values t = fold-max-at 0 t.cells (cell_place t.sizes (values_at t.scope values))

-- no cost is above the sum of the greatest cells
pub cost-le-greatest_sum : (p : Dcop) (values : List ℕ) → cost p values ≤ greatest_sum p.tables
cost-le-greatest_sum p values = sum_by-le-sum_by (λ t. cell_at t values) (λ t. greatest t.cells) p.tables (cell_at-le-greatest values)

-- no cost is above the cap
pub cost-le-cap : (p : Dcop) (values : List ℕ) → IsProblem p → cost p values ≤ amount_limit
cost-le-cap p values h = let most = cost-le-greatest_sum p values in omega (arith, h.sums, most)

-- the cost so far is within the cap
pub cost-so-far-le-cap : (p : Dcop) (values : List ℕ) (k : ℕ) → IsProblem p → sum_by (λ t. cell_at t values) (take k p.tables) ≤ amount_limit
cost-so-far-le-cap p values k h =
    let part = sum_by-take-le (λ t. cell_at t values) p.tables k in
    let most = cost-le-cap p values h in
    omega (arith, part, most)

-- the cost so far with the next cell is within the cap
pub cost-more-le-cap : (p : Dcop) (values : List ℕ) (k : ℕ) (t : CostTable) → IsProblem p → k < length p.tables → t ≡ get_or p.tables k t → sum_by (λ t. cell_at t values) (take k p.tables) + cell_at t values ≤ amount_limit
cost-more-le-cap p values k t h lt e =
    let more = sum_by_more_le (λ t. cell_at t values) p.tables k t lt in
    let same = ap (λ t. cell_at t values) e in
    let most = cost-le-cap p values h in
    omega (arith, more, same, most)

-- what stands at places of a scope fits where the whole fits
sizes-at : (sizes values scope : List ℕ) → AreWithin sizes values → All (λ v. v < length sizes) scope → AreWithin (map (λ v. get_or sizes v 0) scope) (values_at scope values)
sizes-at sizes values [] h all = tt
sizes-at sizes values (v ∷ vs) h all =
    (AllZip-get_or (λ s v. v < s) sizes values v 0 0 h (All-head (λ v. v < length sizes) v vs all), sizes-at sizes values vs h (All-tail (λ v. v < length sizes) v vs all))

-- an assignment has an entry for each variable of a table
pub entries-of : (sizes values : List ℕ) (t : CostTable) → IsTableOf sizes t → AreWithin sizes values → All (λ v. v < length values) t.scope
entries-of sizes values t h within k d lt = let many = length_all_zip (λ s v. v < s) sizes values within in let below = h.within k d lt in omega (arith, many, below)

-- what an assignment gives to a table's variables fits the table
pub values-fit : (sizes values : List ℕ) (t : CostTable) → IsTableOf sizes t → AreWithin sizes values → AreWithin t.sizes (values_at t.scope values)
values-fit sizes values t h within = rw h.sized (sizes-at sizes values t.scope within h.within)

-- a table of a problem is one of its tables
pub table-at : (p : Dcop) (k : ℕ) (t : CostTable) → IsProblem p → k < length p.tables → t ≡ get_or p.tables k t → IsTableOf p.sizes t
table-at p k t h lt e = rw e (h.tables k t lt)

first-none : (a b : Option ProblemFault) → first_fault a b ≡ None → (a ≡ None) × (b ≡ None)
first-none (Some fault) b e = cc
first-none None b e = (refl, e)

two-none : (a b : Bool) (x y : ProblemFault) (o : Option ProblemFault) → cond a (Some x) (cond b (Some y) o) ≡ None → (a ≡ false) × (b ≡ false) × (o ≡ None)
two-none true b x y o e = cc
two-none false true x y o e = cc
two-none false false x y o e = (refl, refl, e)

sizes-none : (o : Option ℕ) → sizes_fault o ≡ None → o ≡ None
sizes-none (Some var) e = cc
sizes-none None e = refl

-- tables without a fault behind earlier ones within the limits: each is a problem's, and all are within the limits
tables-none : (sizes : List ℕ) (earlier tables : List CostTable) → All IsTable tables → cell_count earlier ≤ cell_limit → greatest_sum earlier ≤ amount_limit → tables_fault sizes earlier tables ≡ None → (All (IsTableOf sizes) tables) × (cell_count (earlier ++ tables) ≤ cell_limit) × (greatest_sum (earlier ++ tables) ≤ amount_limit)
tables-none sizes earlier [] whole cells sum e =
    (All-nil (IsTableOf sizes), rw (append-nil earlier) cells, rw (append-nil earlier) sum)
tables-none sizes earlier (t ∷ ts) whole cells sum e =
    let both = first-none (next_fault sizes earlier t) (tables_fault sizes (earlier ++ (t ∷ [])) ts) e in
    let next = next-none sizes earlier t both.0 in
    let more-cells : cell_count (earlier ++ (t ∷ [])) ≤ cell_limit = rw (sum_by_push (λ (t : CostTable). length t.cells) earlier t) next.cells in
    let more-sum : greatest_sum (earlier ++ (t ∷ [])) ≤ amount_limit = rw (sum_by_push (λ (t : CostTable). greatest t.cells) earlier t) next.sums in
    let rest = tables-none sizes (earlier ++ (t ∷ [])) ts (All-tail IsTable t ts whole) more-cells more-sum both.1 in
    let of : IsTableOf sizes t = record {
      whole = All-head IsTable t ts whole;
      some = next.some;
      few = next.few;
      within = next.within;
      sized = next.sized;
      cheap = next.cheap;
    } in
    (All-cons (IsTableOf sizes) t ts of rest.0, rw append_assoc at rest.1, rw append_assoc at rest.2)

-- sizes and whole tables with which nothing is wrong are, with joints, a problem
pub IsProblem-faultless : (sizes : List ℕ) (tables : List CostTable) (joints : List (ℕ × ℕ)) → problem_fault sizes tables ≡ None → All IsTable tables → AreJoints (length sizes) tables joints → IsProblem (record { sizes = sizes; tables = tables; joints = joints })
IsProblem-faultless sizes tables joints e whole joined =
    let tests = two-none (eqb (length sizes) 0) (ltb variable_limit (length sizes)) NoVariables TooManyVariables (first_fault (sizes_fault (position is_bad_size sizes)) (tables_fault sizes [] tables)) e in
    let parts = first-none (sizes_fault (position is_bad_size sizes)) (tables_fault sizes [] tables) tests.2 in
    let good = position-none is_bad_size sizes (sizes-none (position is_bad_size sizes) parts.0) in
    let ne = eqb-false (length sizes) 0 tests.0 in
    let limits = tables-none sizes [] tables whole (omega arith) (omega arith) parts.1 in
    record {
      some = grind arith;
      few = ltb-false _ _ tests.1;
      sizes = λ k d h. size-good (get_or sizes k d) (good k d h);
      tables = limits.0;
      cells = limits.1;
      sums = limits.2;
      joints = joined;
    }
  where
    size-good : (s : ℕ) → is_bad_size s ≡ false → (1 ≤ s) × (s ≤ size_limit)
    size-good s e =
        let both = or_parts (eqb s 0) (ltb size_limit s) e in
        let ne = eqb-false s 0 both.0 in
        let few = ltb-false size_limit s both.1 in
        (grind arith, few)

-- the scopes of sizes and whole tables with which nothing is wrong are of the variables
pub scopes-faultless : (sizes : List ℕ) (tables : List CostTable) → problem_fault sizes tables ≡ None → All IsTable tables → All (λ t. All (λ v. v < length sizes) t.scope) tables
scopes-faultless sizes tables e whole =
    let tests = two-none (eqb (length sizes) 0) (ltb variable_limit (length sizes)) NoVariables TooManyVariables (first_fault (sizes_fault (position is_bad_size sizes)) (tables_fault sizes [] tables)) e in
    let parts = first-none (sizes_fault (position is_bad_size sizes)) (tables_fault sizes [] tables) tests.2 in
    let limits = tables-none sizes [] tables whole (omega arith) (omega arith) parts.1 in
    λ k d h. (limits.0 k d h).within

-- tables of a problem within the limits have no fault behind the earlier ones
tables_fault-whole : (sizes : List ℕ) (earlier tables : List CostTable) → All (IsTableOf sizes) tables → cell_count (earlier ++ tables) ≤ cell_limit → greatest_sum (earlier ++ tables) ≤ amount_limit → tables_fault sizes earlier tables ≡ None
tables_fault-whole sizes earlier [] all cells sum = refl
tables_fault-whole sizes earlier (t ∷ ts) all cells sum =
    let of = All-head (IsTableOf sizes) t ts all in
    let cell-parts = sum_by-append (λ (t : CostTable). length t.cells) earlier (t ∷ ts) in
    let cell-rest = sum_by-cons (λ (t : CostTable). length t.cells) t ts in
    let sum-parts = sum_by-append (λ (t : CostTable). greatest t.cells) earlier (t ∷ ts) in
    let sum-rest = sum_by-cons (λ (t : CostTable). greatest t.cells) t ts in
    let next : next_fault sizes earlier t ≡ None = none-next sizes earlier t (record {
      some = of.some;
      few = of.few;
      within = of.within;
      apart = (parts-of t.scope t.sizes t.cells of.whole).apart;
      sized = of.sized;
      cheap = of.cheap;
      cells = omega (arith, cells, cell-parts, cell-rest);
      sums = omega (arith, sum, sum-parts, sum-rest);
    }) in
    let rest = tables_fault-whole sizes (earlier ++ (t ∷ [])) ts (All-tail (IsTableOf sizes) t ts all) (rw append_assoc cells) (rw append_assoc sum) in
    rw (next, rest) refl

-- nothing is wrong with the sizes and tables of a problem
pub problem_fault-whole : (p : Dcop) → IsProblem p → problem_fault p.sizes p.tables ≡ None
problem_fault-whole p h =
    let some : eqb (length p.sizes) 0 ≡ false = ne_eqb (length p.sizes) 0 (λ e. absurd (omega (arith, e, h.some))) in
    let few = le-ltb variable_limit (length p.sizes) h.few in
    let good = position-all is_bad_size p.sizes (λ k d lt. size-none (get_or p.sizes k d) (h.sizes k d lt)) in
    let tables = tables_fault-whole p.sizes [] p.tables h.tables h.cells h.sums in
    rw (some, few, good, tables) refl
  where
    size-none : (s : ℕ) → (1 ≤ s) × (s ≤ size_limit) → is_bad_size s ≡ false
    size-none s good = or_from (eqb s 0) (ltb size_limit s) (ne_eqb s 0 (λ e. absurd (omega (arith, e, good.0)))) (le-ltb size_limit s good.1)

-- the place of values that fit is a cell's
pub place-of-cell : (sizes values : List ℕ) (t : CostTable) → IsTableOf sizes t → AreWithin sizes values → cell_place t.sizes (values_at t.scope values) < length t.cells
place-of-cell sizes values t h within = place-lt t.scope t.sizes t.cells values h.whole (values-fit sizes values t h within)
