-- The place of a cell at values that a function gives to the variables of a scope.
use Rattle.std.proofs.Common.{◌≡◌, ℕ, zero, suc, ◌+◌, ◌*◌, ◌<◌, ◌≤◌, false, cond, eqb, List, [], ◌∷◌, map, length, get_or, drop, min, None, refl, sym, ap, ap₂, subst, ◌∙◌, inl, inr, arith}
use Rattle.std.proofs.lemmas.Bool.{cases_Bool, cond-true, cond-false, eqb-true, or_parts}
use Rattle.std.proofs.lemmas.List.{drop_more}
use Rattle.dcop_base.specs.Table.{product, AreWithin, cell_place, has, has_repeat, table_fault}
use Rattle.dcop_base.specs.Values.{with_own}
use Rattle.dcop_base.proofs.TableLaws.{parts-of, cell_place-lt}
use Rattle.local_costs.specs.Stride.{stride}

-- the place of the values of a scope is a cell's
pub place_lt : (f : ℕ → ℕ) (scope sizes cells : List ℕ) → table_fault scope sizes cells ≡ None → AreWithin sizes (map f scope) → cell_place sizes (map f scope) < length cells
place_lt f scope sizes cells e h = rw (parts-of scope sizes cells e).full (cell_place-lt sizes (map f scope) h)

-- the stride among the variables that are left, one variable on
pub stride_next : (scope sizes : List ℕ) (k var : ℕ) → k < length scope → length sizes ≡ length scope → stride (drop k scope) (drop k sizes) var ≡ cond (eqb (get_or scope k 0) var) (product (drop (k + 1) sizes)) (stride (drop (k + 1) scope) (drop (k + 1) sizes) var)
stride_next scope sizes k var lt same =
    ap₂ (λ (us : List ℕ) (ss : List ℕ). stride us ss var) (drop_more scope k 0 lt) (drop_more sizes k 0 (omega (arith, lt, same)))

-- where the agent is not among the variables, its value does not matter
same_values : (me d : ℕ) (f : ℕ → ℕ) (scope : List ℕ) → has scope me ≡ false → map (with_own me d f) scope ≡ map f scope
same_values me d f [] h = refl
same_values me d f (u ∷ us) h =
    let both = or_parts (eqb u me) (has us me) h in
    ap₂ (λ (x : ℕ) (xs : List ℕ). x ∷ xs) (cond-false (eqb u me) d (f u) both.0) (same_values me d f us both.1)

here : (p c d x y z : ℕ) → x ≡ d → y ≡ 0 → z ≡ p → x * p + c ≡ y * p + c + d * z
here p c d x y z ex ey ez = rw (ex, ey, ez) (zeroed p c d)
  where
    zeroed : (p c d : ℕ) → d * p + c ≡ 0 * p + c + d * p
    zeroed p c d = omega arith

behind : (a x y c c0 s z d p : ℕ) → x ≡ a → y ≡ a → z ≡ s → c ≡ c0 + d * s → x * p + c ≡ y * p + c0 + d * z
behind a x y c c0 s z d p ex ey ez e = rw (ex, ey, ez, e) (more (a * p) c0 (d * s))
  where
    more : (a b c : ℕ) → a + (b + c) ≡ a + b + c
    more a b c = omega arith

-- the place of an own value is so many strides behind that of own value 0
pub place_shift : (me d : ℕ) (f : ℕ → ℕ) (scope sizes : List ℕ) → has_repeat scope ≡ false → cell_place sizes (map (with_own me d f) scope) ≡ cell_place sizes (map (with_own me 0 f) scope) + d * stride scope sizes me
place_shift me d f [] [] apart = omega arith
place_shift me d f [] (s ∷ ss) apart = omega arith
place_shift me d f (u ∷ us) [] apart = omega arith
place_shift me d f (u ∷ us) (s ∷ ss) apart =
    let both = or_parts (has us u) (has_repeat us) apart in
    elim (cases_Bool (eqb u me)) [
      | inl mine ↦
          let none : has us me ≡ false = subst (λ (v : ℕ). has us v ≡ false) (eqb-true u me mine) both.0 in
          let rest : cell_place ss (map (with_own me d f) us) ≡ cell_place ss (map (with_own me 0 f) us) = ap (λ (xs : List ℕ). cell_place ss xs) (same_values me d f us none ∙ sym (same_values me 0 f us none)) in
          ap (λ (n : ℕ). with_own me d f u * product ss + n) rest
          ∙ here (product ss) (cell_place ss (map (with_own me 0 f) us)) d (with_own me d f u) (with_own me 0 f u) (stride (u ∷ us) (s ∷ ss) me)
          (cond-true (eqb u me) d (f u) mine) (cond-true (eqb u me) 0 (f u) mine) (cond-true (eqb u me) (product ss) (stride us ss me) mine)
      | inr other ↦
          behind (f u) (with_own me d f u) (with_own me 0 f u) (cell_place ss (map (with_own me d f) us)) (cell_place ss (map (with_own me 0 f) us)) (stride us ss me) (stride (u ∷ us) (s ∷ ss) me) d (product ss)
          (cond-false (eqb u me) d (f u) other) (cond-false (eqb u me) 0 (f u) other) (cond-false (eqb u me) (product ss) (stride us ss me) other) (place_shift me d f us ss both.1)
    ]

-- a stride that is capped, times a value at which a cell stands, is what it is without the cap
capped_stride : (d s m first count : ℕ) → first + d * s < count → count ≤ m → d * min s m ≡ d * s
capped_stride zero s m first count lt le = omega arith
capped_stride (suc d) s m first count lt le =
    let whole : suc d * s ≡ s + d * s = omega arith in
    let e : min s m ≡ s = omega (arith, lt, le, whole) in
    ap (λ (n : ℕ). suc d * n) e

-- the place of a cell, by strides
pub place_by_stride : (me d : ℕ) (f : ℕ → ℕ) (scope sizes cells : List ℕ) (m first step : ℕ) → table_fault scope sizes cells ≡ None → AreWithin sizes (map (with_own me d f) scope) → length cells ≤ m → first ≡ cell_place sizes (map (with_own me 0 f) scope) → step ≡ min (stride scope sizes me) m → first + d * step ≡ cell_place sizes (map (with_own me d f) scope)
place_by_stride me d f scope sizes cells m first step e within le is by =
    let shift = place_shift me d f scope sizes (parts-of scope sizes cells e).apart in
    let lt = place_lt (with_own me d f) scope sizes cells e within in
    let s = stride scope sizes me in
    let zero_place = cell_place sizes (map (with_own me 0 f) scope) in
    let below : zero_place + d * s < length cells = subst (λ (n : ℕ). n < length cells) shift lt in
    ap₂ (λ (a : ℕ) (b : ℕ). a + d * b) is by
    ∙ ap (λ (n : ℕ). zero_place + n) (capped_stride d s m zero_place (length cells) below le)
    ∙ sym shift
