-- Values in another order of the variables, told in their own order.
use Rattle.std.proofs.Common.{◌≡◌, ◌≢◌, ℕ, suc, ◌+◌, ◌<◌, List, [], ◌∷◌, length, map, set, sym, ap, ◌∙◌, inl, inr, arith}
use Rattle.std.specs.List.{slice_index}
use Rattle.std.proofs.lemmas.Bool.{cases_lt}
use Rattle.std.proofs.lemmas.List.{get_or-map, get_or_default, same_lists, get_or-set_same, get_or-set_other}
use Rattle.std.proofs.lemmas.List.Elements.{AllZip-get_or}
use Rattle.problem_text.proofs.NamesLaws.{length-map}
use Rattle.dcop_base.specs.Table.{AreWithin, values_at}
use Rattle.problem_order.specs.Order.{IsOrder}

-- the variables at so many places have their values
abbrev pub AreToldUpTo : List ℕ → List ℕ → List ℕ → ℕ → Type 0
AreToldUpTo order values outside count = (k : ℕ) → k < count → slice_index outside (slice_index order k) ≡ slice_index values k

-- one variable more
pub told_more : (order values outside new : List ℕ) (i v value : ℕ) → IsOrder (length order) order → i < length order → v ≡ slice_index order i → value ≡ slice_index values i → length outside ≡ length order
    → new ≡ set outside v value → AreToldUpTo order values outside i → AreToldUpTo order values new (i + 1)
told_more order values outside new i v value is lt var is_value many put before k lk =
    elim (cases_lt k i) [
      | inl less ↦
          let apart : slice_index order k ≢ v = λ e. let one = is.once k i (omega (arith, less, lt)) lt (e ∙ var) in omega (arith, one, less) in
          ap (λ (xs : List ℕ). slice_index xs (slice_index order k)) put ∙ get_or-set_other outside v (slice_index order k) value 0 apart ∙ before k less
      | inr more ↦
          let same : k ≡ i = omega (arith, more, lk) in
          let within = is.within i 0 lt in
          ap (λ (xs : List ℕ). slice_index xs (slice_index order k)) put
          ∙ ap (λ (j : ℕ). slice_index (set outside v value) (slice_index order j)) same
          ∙ ap (slice_index (set outside v value)) (sym var)
          ∙ get_or-set_same outside v value 0 (omega (arith, within, var, many)) ∙ is_value ∙ ap (slice_index values) (sym same)
    ]

-- all variables have their values
pub told_all : (order values outside : List ℕ) → length values ≡ length order → AreToldUpTo order values outside (length order) → values_at order outside ≡ values
told_all order values outside many told =
    let long = length-map (λ v. slice_index outside v) order in
    same_lists (values_at order outside) values (long ∙ sym many)
    (λ k d lt. let lk : k < length order = omega (arith, lt, long) in
    get_or-map (λ v. slice_index outside v) order k 0 d lk ∙ told k lk ∙ get_or_default values k 0 d (omega (arith, lk, many)))

zip_from : (sizes values : List ℕ) → length values ≡ length sizes → ((k : ℕ) → k < length sizes → slice_index values k < slice_index sizes k) → AreWithin sizes values
zip_from [] [] long each = tt
zip_from [] (v ∷ vs) long each = absurd (omega (arith, long))
zip_from (s ∷ ss) [] long each = absurd (omega (arith, long))
zip_from (s ∷ ss) (v ∷ vs) long each = (each 0 (omega arith), zip_from ss vs (omega (arith, long)) (λ k lt. each (suc k) (omega (arith, lt))))

-- values that are within the sizes in this order are so in their own order
pub within_outside : (sizes order outside : List ℕ) → IsOrder (length sizes) order → length outside ≡ length order → AreWithin (map (λ v. slice_index sizes v) order) (values_at order outside) → AreWithin sizes outside
within_outside sizes order outside is many within =
    zip_from sizes outside (many ∙ is.many) (λ v lt.
    let every = is.every v lt in
    let k = every.0 in
    let count = is.many in
    let low : k < length order = let below = every.1 in omega (arith, below, count) in
    let long = length-map (λ w. slice_index sizes w) order in
    let below = AllZip-get_or (λ s x. x < s) (map (λ w. slice_index sizes w) order) (values_at order outside) k 0 0 within (omega (arith, low, long)) in
    let size = get_or-map (λ w. slice_index sizes w) order k 0 0 low ∙ ap (slice_index sizes) every.2 in
    let value = get_or-map (λ w. slice_index outside w) order k 0 0 low ∙ ap (slice_index outside) every.2 in
    omega (arith, below, size, value))
