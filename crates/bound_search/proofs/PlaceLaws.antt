-- The place of a table's cell at each value of one variable.
use Rattle.std.proofs.Common.{◌≡◌, ℕ, zero, suc, ◌+◌, ◌*◌, ◌<◌, ◌≤◌, true, false, cond, eqb, List, [], ◌∷◌, map, length, get_or, drop, min, None, refl, sym, ap, ap₂, subst, ◌∙◌, inl, inr, arith}
use Rattle.std.proofs.lemmas.Bool.{cases_Bool, cond-true, cond-false, eqb-true, eqb-false, or_parts}
use Rattle.std.proofs.lemmas.List.{drop_more}
use Rattle.dcop_base.specs.Table.{product, AreWithin, cell_place, has, has_repeat, table_fault}
use Rattle.dcop_base.specs.Values.{with_own}
use Rattle.dcop_base.proofs.TableLaws.{parts-of, cell_place-lt}
use Rattle.util_join.specs.Strides.{stride}

-- the stride among the variables that are left, one variable on
pub stride_next : (scope sizes : List ℕ) (k var : ℕ) → k < length scope → length sizes ≡ length scope → stride (drop k scope) (drop k sizes) var ≡ cond (eqb var (get_or scope k 0)) (product (drop (k + 1) sizes)) (stride (drop (k + 1) scope) (drop (k + 1) sizes) var)
stride_next scope sizes k var lt same =
    ap₂ (λ (us : List ℕ) (ss : List ℕ). stride us ss var) (drop_more scope k 0 lt) (drop_more sizes k 0 (omega (arith, lt, same)))

-- the place of the values of a scope is a cell's
pub place_lt : (f : ℕ → ℕ) (scope sizes cells : List ℕ) → table_fault scope sizes cells ≡ None → AreWithin sizes (map f scope) → cell_place sizes (map f scope) < length cells
place_lt f scope sizes cells e h = rw (parts-of scope sizes cells e).full (cell_place-lt sizes (map f scope) h)

-- where a variable is not in the scope, its value does not matter
same_values : (var d : ℕ) (f : ℕ → ℕ) (scope : List ℕ) → has scope var ≡ false → map (with_own var d f) scope ≡ map f scope
same_values var d f [] h = refl
same_values var d f (u ∷ us) h =
    let both = or_parts (eqb u var) (has us var) h in
    ap₂ (λ (x : ℕ) (xs : List ℕ). x ∷ xs) (cond-false (eqb u var) d (f u) both.0) (same_values var d f us both.1)

-- a variable that has a value has it still where it is given that
own_value : (var d : ℕ) (f : ℕ → ℕ) (u : ℕ) → f var ≡ d → with_own var d f u ≡ f u
own_value var d f u e = elim (cases_Bool (eqb u var)) [
  | inl own ↦ cond-true (eqb u var) d (f u) own ∙ sym e ∙ ap f (sym (eqb-true u var own))
  | inr other ↦ cond-false (eqb u var) d (f u) other
]

pub own_values : (var d : ℕ) (f : ℕ → ℕ) (scope : List ℕ) → f var ≡ d → map (with_own var d f) scope ≡ map f scope
own_values var d f [] e = refl
own_values var d f (u ∷ us) e = ap₂ (λ (x : ℕ) (xs : List ℕ). x ∷ xs) (own_value var d f u e) (own_values var d f us e)

turned : (u v : ℕ) → eqb u v ≡ true → eqb v u ≡ true
turned u v e = let same : u ≡ v = eqb-true u v e in rw same (subst (λ (n : ℕ). eqb n v ≡ true) same e)

turned_false : (u v : ℕ) → eqb u v ≡ false → eqb v u ≡ false
turned_false u v e = elim (cases_Bool (eqb v u)) as (λ _. eqb v u ≡ false) [ inl same ↦ absurd (eqb-false u v e (sym (eqb-true v u same))) | inr other ↦ other ]

here : (p c d x y z : ℕ) → x ≡ d → y ≡ 0 → z ≡ p → x * p + c ≡ y * p + c + d * z
here p c d x y z ex ey ez = rw (ex, ey, ez) (zeroed p c d)
  where
    zeroed : (p c d : ℕ) → d * p + c ≡ 0 * p + c + d * p
    zeroed p c d = omega arith

behind : (a x y c c0 s z d p : ℕ) → x ≡ a → y ≡ a → z ≡ s → c ≡ c0 + d * s → x * p + c ≡ y * p + c0 + d * z
behind a x y c c0 s z d p ex ey ez e = rw (ex, ey, ez, e) (more (a * p) c0 (d * s))
  where
    more : (a b c : ℕ) → a + (b + c) ≡ a + b + c
    more a b c = omega arith

-- the place at a value is so many strides behind that at value 0
pub place_shift : (var d : ℕ) (f : ℕ → ℕ) (scope sizes : List ℕ) → has_repeat scope ≡ false → cell_place sizes (map (with_own var d f) scope) ≡ cell_place sizes (map (with_own var 0 f) scope) + d * stride scope sizes var
place_shift var d f [] [] apart = omega arith
place_shift var d f [] (s ∷ ss) apart = omega arith
place_shift var d f (u ∷ us) [] apart = omega arith
place_shift var d f (u ∷ us) (s ∷ ss) apart =
    let both = or_parts (has us u) (has_repeat us) apart in
    elim (cases_Bool (eqb u var)) [
      | inl own ↦
          let none : has us var ≡ false = subst (λ (v : ℕ). has us v ≡ false) (eqb-true u var own) both.0 in
          let rest : cell_place ss (map (with_own var d f) us) ≡ cell_place ss (map (with_own var 0 f) us) = ap (λ (xs : List ℕ). cell_place ss xs) (same_values var d f us none ∙ sym (same_values var 0 f us none)) in
          ap (λ (n : ℕ). with_own var d f u * product ss + n) rest
          ∙ here (product ss) (cell_place ss (map (with_own var 0 f) us)) d (with_own var d f u) (with_own var 0 f u) (stride (u ∷ us) (s ∷ ss) var)
          (cond-true (eqb u var) d (f u) own) (cond-true (eqb u var) 0 (f u) own) (cond-true (eqb var u) (product ss) (stride us ss var) (turned u var own))
      | inr other ↦
          behind (f u) (with_own var d f u) (with_own var 0 f u) (cell_place ss (map (with_own var d f) us)) (cell_place ss (map (with_own var 0 f) us)) (stride us ss var) (stride (u ∷ us) (s ∷ ss) var) d (product ss)
          (cond-false (eqb u var) d (f u) other) (cond-false (eqb u var) 0 (f u) other) (cond-false (eqb var u) (product ss) (stride us ss var) (turned_false u var other)) (place_shift var d f us ss both.1)
    ]

-- a stride that is capped, times a value at which a cell stands, is what it is without the cap
capped_stride : (d s m first count : ℕ) → first + d * s < count → count ≤ m → d * min s m ≡ d * s
capped_stride zero s m first count lt le = omega arith
capped_stride (suc d) s m first count lt le =
    let whole : suc d * s ≡ s + d * s = omega arith in
    let e : min s m ≡ s = omega (arith, lt, le, whole) in
    ap (λ (n : ℕ). suc d * n) e

-- where the cell of a value stands: at this place, which is one of the cells
pub place_by_stride : (var d : ℕ) (f : ℕ → ℕ) (scope sizes cells : List ℕ) (m first step : ℕ) → table_fault scope sizes cells ≡ None → AreWithin sizes (map (with_own var d f) scope) → f var ≡ 0 → length cells ≤ m → first ≡ cell_place sizes (map f scope) → step ≡ min (stride scope sizes var) m → (first + d * step ≡ cell_place sizes (map (with_own var d f) scope)) × (first + d * step < length cells)
place_by_stride var d f scope sizes cells m first step e within none le is by =
    let shift = place_shift var d f scope sizes (parts-of scope sizes cells e).apart in
    let lt = place_lt (with_own var d f) scope sizes cells e within in
    let s = stride scope sizes var in
    let start = cell_place sizes (map (with_own var 0 f) scope) in
    let at : first ≡ start = is ∙ ap (λ (xs : List ℕ). cell_place sizes xs) (sym (own_values var 0 f scope none)) in
    let below : start + d * s < length cells = subst (λ (n : ℕ). n < length cells) shift lt in
    let place : first + d * step ≡ cell_place sizes (map (with_own var d f) scope) =
    ap₂ (λ (a : ℕ) (b : ℕ). a + d * b) at by
    ∙ ap (λ (n : ℕ). start + n) (capped_stride d s m start (length cells) below le)
    ∙ sym shift in
    (place, subst (λ (n : ℕ). n < length cells) (sym place) lt)
