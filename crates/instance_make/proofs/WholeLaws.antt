-- Each drawn table is one of the problem that is made, and together they are within its limits.
use Rattle.std.proofs.Common.{◌≡◌, ℕ, zero, suc, ◌+◌, ◌*◌, ◌-◌, ◌%◌, ◌<◌, ◌≤◌, false, not, ◌||◌, eqb, ltb, List, [], ◌∷◌, ◌++◌, None, length, get_or, map, min, replicate, refl, sym, ap, subst, ◌∙◌, arith}
use Rattle.std.proofs.Math.Nat.{mod-lt, mul-le-mul_left, mul-le-mul_right}
use Rattle.std.specs.List.{All, list_any, flat_map, range_with_len, sum_by}
use Rattle.std.proofs.lemmas.List.{get_or-replicate, length-replicate}
use Rattle.std.proofs.lemmas.List.Concat.{length-flat_map}
use Rattle.std.proofs.lemmas.List.Elements.{All-nil, All-cons, All-append, All-map, All-replicate}
use Rattle.std.proofs.lemmas.List.Folds.{list_any_none}
use Rattle.std.proofs.lemmas.List.FromFn.{length-range_with_len, length-map-range_with_len}
use Rattle.std.proofs.lemmas.List.Sums.{sum_by-le}
use Rattle.std.proofs.lemmas.Bool.{or_from, ne_eqb, eq-eqb, le-ltb, not_from_true}
use Rattle.dcop_base.specs.Table.{CostTable, IsTable, product, has_repeat, table_fault, greatest}
use Rattle.dcop_base.specs.Faults.{cell_count, greatest_sum}
use Rattle.dcop_base.specs.Whole.{IsTableOf}
use Rattle.dcop_base.specs.Limits.{amount_limit, cost_limit, scope_limit, made_size_limit, made_degree_limit, made_cost_limit}
use Rattle.dcop_base.proofs.TableLaws.{AreParts}
use Rattle.dcop_base.proofs.FaultLaws.{greatest-le}
use Rattle.instance_make.specs.Stream.{state_after, word_at}
use Rattle.instance_make.specs.Generator.{cell_of, drawn_cells, drawn_table, drawn_tables, draws_of, draws_behind, table_words}

-- nothing is wrong with a table of which the parts are right
pub faultless : (scope sizes cells : List ℕ) → AreParts scope sizes cells → table_fault scope sizes cells ≡ None
faultless scope sizes cells parts =
    let sized : not (eqb (length sizes) (length scope)) || list_any (λ s. eqb s 0) sizes ≡ false =
    or_from _ _ (not_from_true _ (eq-eqb _ _ parts.sized)) (list_any_none (λ s. eqb s 0) sizes (λ k d h. ne_eqb (get_or sizes k d) 0 (λ e. absurd (omega (arith, e, parts.positive k d h))))) in
    let full : not (eqb (length cells) (product sizes)) ≡ false = not_from_true _ (eq-eqb _ _ parts.full) in
    let small : list_any (λ c. ltb amount_limit c) cells ≡ false = list_any_none (λ c. ltb amount_limit c) cells (λ k d h. le-ltb amount_limit (get_or cells k d) (parts.small k d h)) in
    rw (parts.apart, sized, full, small) refl

-- no cell is above the top
pub cells-low : (top state count : ℕ) → All (λ c. c ≤ top) (drawn_cells top state count)
cells-low top state count =
    All-map (λ (c : ℕ). c ≤ top) (λ place. cell_of top (word_at state place)) (range_with_len 0 count)
    (λ k d h. let below : cell_of top (word_at state (get_or (range_with_len 0 count) k d)) < top + 1 = mod-lt (word_at state (get_or (range_with_len 0 count) k d)) (omega arith) in omega (arith, below))

-- nothing is wrong with parts that are a drawn table's
pub drawn-faultless : (size top state partner var : ℕ) → partner < var → 1 ≤ size → top ≤ made_cost_limit
    → table_fault (partner ∷ var ∷ []) (size ∷ size ∷ []) (drawn_cells top state (size * size)) ≡ None
drawn-faultless size top state partner var before valued cheap = faultless (partner ∷ var ∷ []) (size ∷ size ∷ []) (drawn_cells top state (size * size)) (record {
  apart = or_from (eqb var partner || false) ((false || false)) (or_from (eqb var partner) false (ne_eqb var partner (λ e. absurd (omega (arith, e, before)))) refl) refl;
  sized = refl;
  positive = All-cons (λ (s : ℕ). 1 ≤ s) size (size ∷ []) valued (All-cons (λ (s : ℕ). 1 ≤ s) size [] valued (All-nil (λ (s : ℕ). 1 ≤ s)));
  full = length-map-range_with_len (λ place. cell_of top (word_at state place)) 0 (size * size) ∙ square size;
  small = λ k d h. let low = cells-low top state (size * size) k d h in omega (arith, low, cheap);
})
  where
    square : (n : ℕ) → n * n ≡ product (n ∷ n ∷ [])
    square n = ap (λ (m : ℕ). n * m) (let e : n ≡ n * 1 = omega arith in e)

-- the same of parts that are told to be these
pub drawn-parts : (size top state count partner var : ℕ) (scope sizes cells : List ℕ) → scope ≡ partner ∷ var ∷ [] → sizes ≡ size ∷ size ∷ [] → cells ≡ drawn_cells top state count → count ≡ size * size
    → partner < var → 1 ≤ size → top ≤ made_cost_limit → table_fault scope sizes cells ≡ None
drawn-parts size top state count partner var scope sizes cells scope_is sizes_are cells_are many before valued cheap =
    rw (scope_is, sizes_are, cells_are, many) (drawn-faultless size top state partner var before valued cheap)

-- a table of the problem, with few and low cells
pub record IsDrawnOf (sizes : List ℕ) (t : CostTable) : Type 0 where
  pub of : IsTableOf sizes t
  pub few : length t.cells ≤ 256
  pub low : greatest t.cells ≤ made_cost_limit

square-few : (size : ℕ) → size ≤ made_size_limit → size * size ≤ 256
square-few size small =
    let a : size * size ≤ size * 16 = mul-le-mul_left size small in
    omega (arith, a, small)

table-of : (vars size top state var : ℕ) → 1 ≤ var → var < vars → 1 ≤ size → size ≤ made_size_limit → top ≤ made_cost_limit
    → IsDrawnOf (replicate vars size) (drawn_table size top state var)
table-of vars size top state var later within valued small cheap =
    let before : word_at state 0 % var < var = mod-lt (word_at state 0) (omega (arith, later)) in
    let partner : ℕ = word_at state 0 % var in
    let many : length (replicate vars size) ≡ vars = length-replicate vars size in
    let cells : List ℕ = drawn_cells top (state_after state 1) (size * size) in
    let lowest : All (λ c. c ≤ top) cells = cells-low top (state_after state 1) (size * size) in
    record {
      of = record {
        whole = drawn-faultless size top (state_after state 1) partner var before valued cheap;
        some = omega arith;
        few = omega arith;
        within =
            All-cons (λ (v : ℕ). v < length (replicate vars size)) partner (var ∷ []) (omega (arith, before, within, many))
            (All-cons (λ (v : ℕ). v < length (replicate vars size)) var [] (omega (arith, within, many)) (All-nil (λ (v : ℕ). v < length (replicate vars size))));
        sized = rw (get_or-replicate vars partner size 0 (omega (arith, before, within)), get_or-replicate vars var size 0 within) refl;
        cheap = λ k d h. let low = lowest k d h in omega (arith, low, cheap);
      };
      few = let long : length cells ≡ size * size = length-map-range_with_len (λ place. cell_of top (word_at (state_after state 1) place)) 0 (size * size) in let most = square-few size small in omega (arith, long, most);
      low = let low = greatest-le top cells lowest in omega (arith, low, cheap);
    }

-- the tables of later variables are tables of the problem
pub tables-of : (vars size top state : ℕ) (draws : List ℕ) → All (λ v. (1 ≤ v) × (v < vars)) draws → 1 ≤ size → size ≤ made_size_limit → top ≤ made_cost_limit
    → All (IsDrawnOf (replicate vars size)) (drawn_tables size top state draws)
tables-of vars size top state [] within valued small cheap = All-nil (IsDrawnOf (replicate vars size))
tables-of vars size top state (v ∷ vs) within valued small cheap =
    let first : (1 ≤ v) × (v < vars) = within 0 0 (omega arith) in
    All-cons (IsDrawnOf (replicate vars size)) (drawn_table size top state v) (drawn_tables size top (state_after state (table_words size)) vs)
    (table-of vars size top state v first.0 first.1 valued small cheap)
    (tables-of vars size top (state_after state (table_words size)) vs (λ k d h. within (suc k) d (omega (arith, h))) valued small cheap)

-- as many as variables that draw
pub tables-many : (size top state : ℕ) (draws : List ℕ) → length (drawn_tables size top state draws) ≡ length draws
tables-many size top state [] = refl
tables-many size top state (v ∷ vs) = ap suc (tables-many size top (state_after state (table_words size)) vs)

draws-from : (degree first count : ℕ) → All (λ v. (first ≤ v) × (v < first + count)) (flat_map (draws_of degree) (range_with_len first count))
draws-from degree first zero = All-nil (λ (v : ℕ). (first ≤ v) × (v < first + 0))
draws-from degree first (suc count) =
    All-append (λ (v : ℕ). (first ≤ v) × (v < first + suc count)) (draws_of degree first) (flat_map (draws_of degree) (range_with_len (first + 1) count))
    (All-replicate (λ (v : ℕ). (first ≤ v) × (v < first + suc count)) (min first degree) first (omega arith, omega arith))
    (λ k d h. let rest = draws-from degree (first + 1) count k d h in (omega (arith, rest.0), omega (arith, rest.1)))

-- only later variables draw
pub draws-within : (degree vars : ℕ) → 1 ≤ vars → All (λ v. (1 ≤ v) × (v < vars)) (draws_behind degree (vars - 1))
draws-within degree vars some k d h =
    let in_range = draws-from degree 1 (vars - 1) k d h in
    (omega (arith, in_range.0), omega (arith, in_range.1, some))

-- and each no more often than the degree tells
pub draws-few : (degree count : ℕ) → length (draws_behind degree count) ≤ count * degree
draws-few degree count =
    let long = length-flat_map (draws_of degree) (range_with_len 1 count) in
    let each : sum_by (λ v. length (draws_of degree v)) (range_with_len 1 count) ≤ length (range_with_len 1 count) * degree =
    sum_by-le (λ v. length (draws_of degree v)) degree (range_with_len 1 count)
    (λ k d h. let n = length-replicate (min (get_or (range_with_len 1 count) k d) degree) (get_or (range_with_len 1 count) k d) in omega (arith, n)) in
    let counted : length (range_with_len 1 count) * degree ≡ count * degree = ap (λ (n : ℕ). n * degree) (length-range_with_len 1 count) in
    omega (arith, long, each, counted)

-- all cells together, and the sum of the greatest
pub sums-few : (sizes : List ℕ) (tables : List CostTable) → All (IsDrawnOf sizes) tables → length tables ≤ 7992 → (cell_count tables ≤ 2045952) × (greatest_sum tables ≤ 7992000000)
sums-few sizes tables all many =
    let cells = sum_by-le (λ (t : CostTable). length t.cells) 256 tables (λ k d h. (all k d h).few) in
    let sums = sum_by-le (λ (t : CostTable). greatest t.cells) made_cost_limit tables (λ k d h. (all k d h).low) in
    (omega (arith, cells, many), omega (arith, sums, many))
