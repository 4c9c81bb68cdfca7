-- The place of a cell, variable by variable.
use Rattle.std.proofs.Common.{◌≡◌, ℕ, ◌+◌, ◌*◌, ◌<◌, ◌≤◌, List, ◌∷◌, length, get_or, drop, sym, ap, ap₂, ◌∙◌, subst, arith}
use Rattle.std.proofs.Math.Nat.{mul-le-mul_left}
use Rattle.std.proofs.lemmas.List.{drop_more, drop_all}
use Rattle.std.proofs.lemmas.List.Elements.{length_all_zip}
use Rattle.dcop_base.specs.Table.{product, AreWithin, cell_place}
use Rattle.dcop_base.specs.Place.{AreDigits}
use Rattle.dcop_base.proofs.TableLaws.{product-pos, cell_place-lt}

-- the first k sizes and values give this place; with those that are left it is the whole
pub record IsPlaceSoFar (k : ℕ) (place : ℕ) (sizes : List ℕ) (values : List ℕ) : Type 0 where
  pub within : AreWithin (drop k sizes) (drop k values)
  pub so_far : place * product (drop k sizes) + cell_place (drop k sizes) (drop k values) ≡ cell_place sizes values

pub place_start : (sizes values : List ℕ) → AreWithin sizes values → IsPlaceSoFar 0 0 sizes values
place_start sizes values h = record { within = h; so_far = omega arith }

-- what is summed up to a place is no more than the whole
bound_cons : (place s v : ℕ) (ss vs : List ℕ) → AreWithin (s ∷ ss) (v ∷ vs) → place * s + v ≤ place * product (s ∷ ss) + cell_place (s ∷ ss) (v ∷ vs)
bound_cons place s v ss vs h = omega (arith, mul-le-mul_left (place * s + v) (product-pos ss vs h.1))

step_cons : (place s v p c : ℕ) → place * (s * p) + (v * p + c) ≡ (place * s + v) * p + c
step_cons place s v p c = grind arith

same_length : (sizes values : List ℕ) (k : ℕ) → AreWithin sizes values → k < length sizes → k < length values
same_length sizes values k h lt =
    let many = length_all_zip (λ s v. v < s) sizes values h in omega (arith, many, lt)

-- the next place is below the number of cells
pub place_below : (sizes values : List ℕ) (k place : ℕ) → AreWithin sizes values → k < length sizes → IsPlaceSoFar k place sizes values → place * get_or sizes k 0 + get_or values k 0 < product sizes
place_below sizes values k place h lt at =
    let rest = rw (drop_more sizes k 0 lt, drop_more values k 0 (same_length sizes values k h lt)) at at.within in
    let whole = rw (drop_more sizes k 0 lt, drop_more values k 0 (same_length sizes values k h lt)) at at.so_far in
    let bound = bound_cons place (get_or sizes k 0) (get_or values k 0) (drop (k + 1) sizes) (drop (k + 1) values) rest in
    omega (arith, bound, whole, cell_place-lt sizes values h)

-- the next place, with those that are left, is the whole
pub place_next : (sizes values : List ℕ) (k place : ℕ) → AreWithin sizes values → k < length sizes → IsPlaceSoFar k place sizes values → IsPlaceSoFar (k + 1) (place * get_or sizes k 0 + get_or values k 0) sizes values
place_next sizes values k place h lt at =
    let rest = rw (drop_more sizes k 0 lt, drop_more values k 0 (same_length sizes values k h lt)) at at.within in
    let whole = rw (drop_more sizes k 0 lt, drop_more values k 0 (same_length sizes values k h lt)) at at.so_far in
    record {
      within = rest.1;
      so_far = sym (step_cons place (get_or sizes k 0) (get_or values k 0) (product (drop (k + 1) sizes)) (cell_place (drop (k + 1) sizes) (drop (k + 1) values))) ∙ whole;
    }

-- with none left the place is the whole
pub place_end : (sizes values : List ℕ) (k place : ℕ) → length sizes ≤ k → IsPlaceSoFar k place sizes values → place ≡ cell_place sizes values
place_end sizes values k place end at =
    let whole = rw (drop_all k sizes end) at at.so_far in
    omega (arith, whole)

-- a variable whose size and value are told
told_size : (tells : ℕ → ℕ × ℕ → Type 0) (count k : ℕ) (digit : ℕ × ℕ) (sizes values : List ℕ) → AreDigits tells count sizes values → k < count → tells k digit → (s v : ℕ) → s ≡ digit.0 → v ≡ digit.1 → (place : ℕ) → place * s + v ≡ place * get_or sizes k 0 + get_or values k 0
told_size tells count k digit sizes values all lt told s v es ev place =
    let is = all.each k digit lt told in
    ap₂ (λ (n : ℕ) (m : ℕ). place * n + m) (es ∙ ap (λ (d : ℕ × ℕ). d.0) is) (ev ∙ ap (λ (d : ℕ × ℕ). d.1) is)

pub told_next : (tells : ℕ → ℕ × ℕ → Type 0) (count k : ℕ) (digit : ℕ × ℕ) (sizes values : List ℕ) → AreDigits tells count sizes values → k < count → tells k digit → (s v : ℕ) → s ≡ digit.0 → v ≡ digit.1 → (place : ℕ) → IsPlaceSoFar k place sizes values → IsPlaceSoFar (k + 1) (place * s + v) sizes values
told_next tells count k digit sizes values all lt told s v es ev place at =
    subst (λ (n : ℕ). IsPlaceSoFar (k + 1) n sizes values) (sym (told_size tells count k digit sizes values all lt told s v es ev place))
    (place_next sizes values k place all.within (subst (λ (n : ℕ). k < n) (sym all.counted) lt) at)

pub told_below : (tells : ℕ → ℕ × ℕ → Type 0) (count k : ℕ) (digit : ℕ × ℕ) (sizes values : List ℕ) → AreDigits tells count sizes values → k < count → tells k digit → (s v : ℕ) → s ≡ digit.0 → v ≡ digit.1 → (place : ℕ) → IsPlaceSoFar k place sizes values → place * s + v < product sizes
told_below tells count k digit sizes values all lt told s v es ev place at =
    subst (λ (n : ℕ). n < product sizes) (sym (told_size tells count k digit sizes values all lt told s v es ev place))
    (place_below sizes values k place all.within (subst (λ (n : ℕ). k < n) (sym all.counted) lt) at)
