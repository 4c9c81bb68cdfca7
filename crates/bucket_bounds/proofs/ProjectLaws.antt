-- Laws of projections by the variable of a bucket: at values of the variables, a projection costs at most what its table costs, and as much at some value of that variable.
use Rattle.std.proofs.Common.{◌≡◌, ℕ, zero, suc, ◌+◌, ◌<◌, ◌≤◌, ◌||◌, Bool, true, false, eqb, List, [], ◌∷◌, map, length, get_or, slice_index, refl, sym, ap, ap₂, subst, ◌∙◌, inl, inr, arith}
use Rattle.std.specs.List.{All, AllZip, remove, insert}
use Rattle.std.proofs.lemmas.Bool.{cases_Bool, cond-true, cond-false, eqb-true, or_parts, or_from, true≢false}
use Rattle.std.proofs.lemmas.List.{get_or-map}
use Rattle.std.proofs.lemmas.List.Elements.{All-nil, All-cons, All-head, All-tail}
use Rattle.std.proofs.lemmas.List.Sums.{sum_by-cons}
use Rattle.dcop_base.specs.Table.{CostTable, AreWithin, has, has_repeat}
use Rattle.dcop_base.specs.Values.{cell_with, cost_with, with_own}
use Rattle.dcop_base.proofs.TableLaws.{parts-of}
use Rattle.cost_table.specs.Cells.{cell_of, place_in}
use Rattle.cost_table.proofs.PlaceLaws.{place_in-lt}
use Rattle.cost_table.proofs.ProblemCutLaws.{at-place}
use Rattle.cost_table.proofs.SliceLaws.{All-remove}
use Rattle.util_project.specs.Projection.{IsProjection, size_in, cell_at_value}
use Rattle.shared_costs.specs.Values.{AreValues}
use Rattle.shared_costs.specs.Tables.{IsTableOver}
use Rattle.bucket_bounds.specs.Made.{IsItem, IsBoundTable}
use Rattle.bucket_bounds.proofs.CellLaws.{IsWithin, below_without}

one-add : (n : ℕ) → 1 + n ≡ suc n
one-add n = omega arith

place-first : (v c : ℕ) (vs : List ℕ) → eqb v c ≡ true → place_in (v ∷ vs) c ≡ 0
place-first v c vs t = rw t refl

place-next : (v c : ℕ) (vs : List ℕ) → eqb v c ≡ false → place_in (v ∷ vs) c ≡ suc (place_in vs c)
place-next v c vs f = rw f (one-add (place_in vs c))

map-remove : (f : ℕ → ℕ) (xs : List ℕ) (k : ℕ) → remove (map f xs) k ≡ map f (remove xs k)
map-remove f [] zero = refl
map-remove f [] (suc k) = refl
map-remove f (x ∷ xs) zero = refl
map-remove f (x ∷ xs) (suc k) = ap (λ (ys : List ℕ). f x ∷ ys) (map-remove f xs k)

within-remove : (ss xs : List ℕ) (k : ℕ) → AreWithin ss xs → AreWithin (remove ss k) (remove xs k)
within-remove [] [] zero w = tt
within-remove [] [] (suc k) w = tt
within-remove [] (x ∷ xs) k w = absurd w
within-remove (s ∷ ss) [] k w = absurd w
within-remove (s ∷ ss) (x ∷ xs) zero w = w.1
within-remove (s ∷ ss) (x ∷ xs) (suc k) w = (w.0, within-remove ss xs k w.1)

own_absent : (p d : ℕ) (value : ℕ → ℕ) (vs : List ℕ) → has vs p ≡ false → map value vs ≡ map (with_own p d value) vs
own_absent p d value [] none = refl
own_absent p d value (v ∷ vs) none =
    let parts = or_parts (eqb v p) (has vs p) none in
    ap₂ (λ (x : ℕ) (xs : List ℕ). x ∷ xs) (sym (cond-false (eqb v p) d (value v) parts.0)) (own_absent p d value vs parts.1)

-- the values of a scope with another value of one variable
insert_own : (p d : ℕ) (value : ℕ → ℕ) (scope : List ℕ) → has scope p ≡ true → has_repeat scope ≡ false → insert (map value (remove scope (place_in scope p))) (place_in scope p) d ≡ map (with_own p d value) scope
insert_own p d value [] there apart = absurd (true≢false (sym there))
insert_own p d value (v ∷ vs) there apart =
    let parts = or_parts (has vs v) (has_repeat vs) apart in
    elim (cases_Bool (eqb v p)) [
      | inl e ↦
          let none : has vs p ≡ false = subst (λ (u : ℕ). has vs u ≡ false) (eqb-true v p e) parts.0 in
          ap (λ (k : ℕ). insert (map value (remove (v ∷ vs) k)) k d) (place-first v p vs e)
          ∙ ap₂ (λ (x : ℕ) (xs : List ℕ). x ∷ xs) (sym (cond-true (eqb v p) d (value v) e)) (own_absent p d value vs none)
      | inr n ↦
          let later : has vs p ≡ true = subst (λ (b : Bool). (b || has vs p) ≡ true) n there in
          ap (λ (k : ℕ). insert (map value (remove (v ∷ vs) k)) k d) (place-next v p vs n)
          ∙ ap₂ (λ (x : ℕ) (xs : List ℕ). x ∷ xs) (sym (cond-false (eqb v p) d (value v) n)) (insert_own p d value vs later parts.1)
    ]

own_same : (p : ℕ) (value : ℕ → ℕ) (vs : List ℕ) → map (with_own p (value p) value) vs ≡ map value vs
own_same p value [] = refl
own_same p value (v ∷ vs) = ap₂ (λ (x : ℕ) (xs : List ℕ). x ∷ xs) here (own_same p value vs)
  where
    here : with_own p (value p) value v ≡ value v
    here = elim (cases_Bool (eqb v p)) [
      | inl e ↦ cond-true (eqb v p) (value p) (value v) e ∙ ap value (sym (eqb-true v p e))
      | inr n ↦ cond-false (eqb v p) (value p) (value v) n
    ]

removed_absent : (scope : List ℕ) (p : ℕ) → has scope p ≡ true → has_repeat scope ≡ false → has (remove scope (place_in scope p)) p ≡ false
removed_absent [] p there apart = absurd (true≢false (sym there))
removed_absent (v ∷ vs) p there apart =
    let parts = or_parts (has vs v) (has_repeat vs) apart in
    elim (cases_Bool (eqb v p)) [
      | inl e ↦ ap (λ (k : ℕ). has (remove (v ∷ vs) k) p) (place-first v p vs e) ∙ subst (λ (u : ℕ). has vs u ≡ false) (eqb-true v p e) parts.0
      | inr n ↦
          let later : has vs p ≡ true = subst (λ (b : Bool). (b || has vs p) ≡ true) n there in
          ap (λ (k : ℕ). has (remove (v ∷ vs) k) p) (place-next v p vs n)
          ∙ or_from (eqb v p) (has (remove vs (place_in vs p)) p) n (removed_absent vs p later parts.1)
    ]

-- what is read of a map at the place of a variable
pub read_map : (f : ℕ → ℕ) (over : List ℕ) (u : ℕ) → has over u ≡ true → get_or (map f over) (place_in over u) 0 ≡ f u
read_map f over u h =
    let lt = place_in-lt over u h in
    get_or-map f over (place_in over u) 0 0 lt ∙ ap f (at-place over u lt)

-- values of all variables are within the sizes of a table over them
pub within_map : (sizes : List ℕ) (value : ℕ → ℕ) (vs : List ℕ) → AreValues sizes value → All (λ v. v < length sizes) vs → AreWithin (map (λ v. slice_index sizes v) vs) (map value vs)
within_map sizes value [] are all = tt
within_map sizes value (v ∷ vs) are all =
    (are v (All-head (λ v. v < length sizes) v vs all), within_map sizes value vs are (All-tail (λ v. v < length sizes) v vs all))

pub table_within : (sizes : List ℕ) (value : ℕ → ℕ) (t : CostTable) → AreValues sizes value → IsTableOver sizes t → IsWithin value t
table_within sizes value t are is = subst (λ (ss : List ℕ). AreWithin ss (map value t.scope)) (sym is.sized) (within_map sizes value t.scope are is.within)

-- a projection of a table of the bucket of p
module _ (sizes : List ℕ) (p : ℕ) (t less : CostTable) (item : IsItem sizes p t) (is : IsProjection t p less) where
  there : has t.scope p ≡ true
  there = item.1.names

  apart : has_repeat t.scope ≡ false
  apart = (parts-of t.scope t.sizes t.cells item.0.whole).apart

  pub projection_bound : IsBoundTable sizes p less
  projection_bound =
      let k = place_in t.scope p in
      let below = subst (λ (vs : List ℕ). All (λ v. v ≤ p) vs) (sym is.same_scope) (All-remove (λ v. v ≤ p) t.scope k item.1.last) in (
        record {
          whole = is.whole;
          within = subst (λ (vs : List ℕ). All (λ v. v < length sizes) vs) (sym is.same_scope) (All-remove (λ v. v < length sizes) t.scope k item.0.within);
          sized = is.same_sizes ∙ ap (λ (ss : List ℕ). remove ss k) item.0.sized ∙ map-remove (λ v. slice_index sizes v) t.scope k ∙ ap (λ (vs : List ℕ). map (λ v. slice_index sizes v) vs) (sym is.same_scope);
        },
        below_without p less.scope (λ j d lt. (let low = below j d lt in omega (arith, low))) (ap (λ (vs : List ℕ). has vs p) is.same_scope ∙ removed_absent t.scope p there apart),
      )

  module _ (value : ℕ → ℕ) (are : AreValues sizes value) where
    others : List ℕ
    others = map value (remove t.scope (place_in t.scope p))

    within : AreWithin (remove t.sizes (place_in t.scope p)) (map value (remove t.scope (place_in t.scope p)))
    within =
        let k = place_in t.scope p in
        subst (λ (xs : List ℕ). AreWithin (remove t.sizes k) xs) (map-remove value t.scope k) (within-remove t.sizes (map value t.scope) k (table_within sizes value t are item.0))

    cell : cell_of less (map value (remove t.scope (place_in t.scope p))) ≡ cell_with less value
    cell = ap (λ (vs : List ℕ). cell_of less (map value vs)) (sym is.same_scope)

    size : size_in t p ≡ slice_index sizes p
    size = ap (λ (ss : List ℕ). slice_index ss (place_in t.scope p)) item.0.sized ∙ read_map (λ v. slice_index sizes v) t.scope p there

    at : (d : ℕ) → cell_at_value t p (map value (remove t.scope (place_in t.scope p))) d ≡ cell_with t (with_own p d value)
    at d = ap (λ (xs : List ℕ). cell_of t xs) (insert_own p d value t.scope there apart)

    inside : value p < slice_index sizes p
    inside =
        let k = place_in t.scope p in
        let lt = place_in-lt t.scope p there in
        let here : get_or t.scope k 0 ≡ p = at-place t.scope p lt in
        are p (subst (λ (v : ℕ). v < length sizes) here (item.0.within k 0 lt))

    pub projection_low : cell_with less value ≤ cell_with t value
    projection_low =
        let least = (is.cells (map value (remove t.scope (place_in t.scope p))) within).lower (value p) (omega (arith, inside, size)) in
        let own : cell_with t (with_own p (value p) value) ≡ cell_with t value = ap (λ (xs : List ℕ). cell_of t xs) (own_same p value t.scope) in
        omega (arith, least, at (value p), own, cell)

    pub projection_at : (a : ℕ) × (a < slice_index sizes p) × (cell_with t (with_own p a value) ≡ cell_with less value)
    projection_at =
        let best = (is.cells (map value (remove t.scope (place_in t.scope p))) within).attained in
        (best.0, omega (arith, best.1, size), sym (at best.0) ∙ best.2 ∙ cell)

-- projections of several tables
pub projections_bound : (sizes : List ℕ) (p : ℕ) (ts ls : List CostTable) → All (IsItem sizes p) ts → AllZip (λ t l. IsProjection t p l) ts ls → All (IsBoundTable sizes p) ls
projections_bound sizes p [] [] items are = All-nil (IsBoundTable sizes p)
projections_bound sizes p [] (l ∷ ls) items are = absurd are
projections_bound sizes p (t ∷ ts) [] items are = absurd are
projections_bound sizes p (t ∷ ts) (l ∷ ls) items are =
    All-cons (IsBoundTable sizes p) l ls (projection_bound sizes p t l (All-head (IsItem sizes p) t ts items) are.0)
    (projections_bound sizes p ts ls (All-tail (IsItem sizes p) t ts items) are.1)

pub projections_low : (sizes : List ℕ) (p : ℕ) (ts ls : List CostTable) (value : ℕ → ℕ) → All (IsItem sizes p) ts → AllZip (λ t l. IsProjection t p l) ts ls → AreValues sizes value → cost_with ls value ≤ cost_with ts value
projections_low sizes p [] [] value items are values = omega arith
projections_low sizes p [] (l ∷ ls) value items are values = absurd are
projections_low sizes p (t ∷ ts) [] value items are values = absurd are
projections_low sizes p (t ∷ ts) (l ∷ ls) value items are values =
    let one = projection_low sizes p t l (All-head (IsItem sizes p) t ts items) are.0 value values in
    let rest = projections_low sizes p ts ls value (All-tail (IsItem sizes p) t ts items) are.1 values in
    omega (arith, one, rest, sum_by-cons (λ (t : CostTable). cell_with t value) t ts, sum_by-cons (λ (t : CostTable). cell_with t value) l ls)

-- the projection of one table, or of none
pub projections_at : (sizes : List ℕ) (p : ℕ) (ts ls : List CostTable) (value : ℕ → ℕ) → p < length sizes → length ts ≤ 1 → All (IsItem sizes p) ts → AllZip (λ t l. IsProjection t p l) ts ls → AreValues sizes value
    → (a : ℕ) × (a < slice_index sizes p) × (cost_with ts (with_own p a value) ≡ cost_with ls value)
projections_at sizes p [] [] value lt few items are values = (value p, values p lt, refl)
projections_at sizes p [] (l ∷ ls) value lt few items are values = absurd are
projections_at sizes p (t ∷ ts) [] value lt few items are values = absurd are
projections_at sizes p (t ∷ []) (l ∷ []) value lt few items are values =
    let best = projection_at sizes p t l (All-head (IsItem sizes p) t [] items) are.0 value values in
    (best.0, best.1, ap (λ (n : ℕ). 0 + n) best.2)
projections_at sizes p (t ∷ []) (l ∷ m ∷ ls) value lt few items are values = absurd are.1
projections_at sizes p (t ∷ u ∷ ts) (l ∷ ls) value lt few items are values = absurd (omega (arith, few))
