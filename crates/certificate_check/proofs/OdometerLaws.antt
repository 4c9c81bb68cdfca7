-- One step from the values of a cell to those of the next.
use Rattle.std.proofs.Common.{◌≡◌, ℕ, zero, suc, ◌+◌, ◌*◌, ◌<◌, Bool, true, false, eqb, ltb, List, [], ◌∷◌, length, get_or, set, refl, sym, ap, subst, ◌∙◌, arith, get_or-set_same, get_or-set_other}
use Rattle.std.proofs.lemmas.Bool.{or_left, or_right, eq-eqb, ltb-false, both_ways}
use Rattle.dcop_base.specs.Table.{product, AreWithin, has, values_at, cell_place}
use Rattle.certificate_check.specs.Odometer.{place_of, IsNextPlace}
use Rattle.certificate_check.proofs.CellLaws.{sizes_at}

-- assignments that agree on a scope give it the same values
pub values_same : (scope xs ys : List ℕ) → ((u : ℕ) → has scope u ≡ true → get_or xs u 0 ≡ get_or ys u 0) → values_at scope xs ≡ values_at scope ys
values_same [] xs ys same = refl
values_same (v ∷ vs) xs ys same =
    ap (λ (d : ℕ). d ∷ values_at vs xs) (same v (or_left (eqb v v) (has vs v) (eq-eqb v v refl)))
    ∙ ap (λ (ds : List ℕ). get_or ys v 0 ∷ ds) (values_same vs xs ys (λ u h. same u (or_right (eqb v u) (has vs u) h)))

-- a value that is put elsewhere leaves the place
pub place_apart : (sizes scope xs : List ℕ) (v x : ℕ) → has scope v ≡ false → place_of sizes scope (set xs v x) ≡ place_of sizes scope xs
place_apart sizes scope xs v x apart =
    ap (cell_place (sizes_at sizes scope)) (values_same scope (set xs v x) xs (λ u h.
    let ne : u ≡ v → ⊥ = λ e. both_ways (has scope v) apart (subst (λ (w : ℕ). has scope w ≡ true) e h) in
    get_or-set_other xs v u x 0 ne))

-- the first variable of a scope moves on where all others are back at their first values
pub last_next : (sizes : List ℕ) (v : ℕ) (vs old mid : List ℕ) (x value : ℕ) → has vs v ≡ false → v < length mid
    → ((u : ℕ) → has vs u ≡ false → get_or mid u 0 ≡ get_or old u 0) → IsNextPlace sizes vs old mid false
    → value ≡ get_or mid v 0 → value < get_or sizes v 0 → (b : Bool) → b ≡ ltb (value + 1) (get_or sizes v 0) → (b ≡ true → x ≡ value + 1) → (b ≡ false → x ≡ 0)
    → IsNextPlace sizes (v ∷ vs) old (set mid v x) b
last_next sizes v vs old mid x value apart inside others next is below true test if_true if_false =
    let here : get_or (set mid v x) v 0 ≡ x = get_or-set_same mid v x 0 inside in
    let same : place_of sizes vs (set mid v x) ≡ place_of sizes vs mid = place_apart sizes vs mid v x apart in
    let was = others v apart in
    let set_to = if_true refl in
    let head : get_or (set mid v x) v 0 * product (sizes_at sizes vs) ≡ (value + 1) * product (sizes_at sizes vs) = ap (λ (n : ℕ). n * product (sizes_at sizes vs)) (here ∙ set_to) in
    let head_old : get_or old v 0 * product (sizes_at sizes vs) ≡ value * product (sizes_at sizes vs) = ap (λ (n : ℕ). n * product (sizes_at sizes vs)) (sym (is ∙ was)) in
    omega (arith, head, head_old, same, next.0, next.1)
last_next sizes v vs old mid x value apart inside others next is below false test if_true if_false =
    let here : get_or (set mid v x) v 0 ≡ x = get_or-set_same mid v x 0 inside in
    let same : place_of sizes vs (set mid v x) ≡ place_of sizes vs mid = place_apart sizes vs mid v x apart in
    let was = others v apart in
    let set_to = if_false refl in
    let top = ltb-false (value + 1) (get_or sizes v 0) (sym test) in
    let size : get_or sizes v 0 ≡ value + 1 = omega arith in
    let all : get_or sizes v 0 * product (sizes_at sizes vs) ≡ (value + 1) * product (sizes_at sizes vs) = ap (λ (n : ℕ). n * product (sizes_at sizes vs)) size in
    let head : get_or (set mid v x) v 0 * product (sizes_at sizes vs) ≡ 0 * product (sizes_at sizes vs) = ap (λ (n : ℕ). n * product (sizes_at sizes vs)) (here ∙ set_to) in
    let head_old : get_or old v 0 * product (sizes_at sizes vs) ≡ value * product (sizes_at sizes vs) = ap (λ (n : ℕ). n * product (sizes_at sizes vs)) (sym (is ∙ was)) in
    (omega (arith, all, head_old, next.0), omega (arith, head, same, next.1))

-- a value below its size is put
pub within_set : (sizes values : List ℕ) (v x : ℕ) → AreWithin sizes values → x < get_or sizes v 0 → AreWithin sizes (set values v x)
within_set [] [] v x within lt = within
within_set [] (d ∷ ds) v x within lt = absurd within
within_set (s ∷ ss) [] v x within lt = absurd within
within_set (s ∷ ss) (d ∷ ds) zero x within lt = (lt, within.1)
within_set (s ∷ ss) (d ∷ ds) (suc v) x within lt = (within.0, within_set ss ds v x within.1 lt)
