-- Assignments by names cost the same in any order of the variables.
use Rattle.std.proofs.Common.{◌≡◌, ℕ, zero, suc, ◌+◌, ◌<◌, Bool, cond, eqb, List, [], ◌∷◌, length, map, refl, sym, ap, subst, ◌∙◌, inl, inr, arith}
use Rattle.std.specs.List.{All, AllZip, slice_index, sum_by, range_with_len}
use Rattle.std.proofs.lemmas.Bool.{cases_Bool, eqb-true, eq-eqb}
use Rattle.std.proofs.lemmas.List.{get_or-map, get_or_default, same_lists}
use Rattle.std.proofs.lemmas.List.Elements.{All-head, All-tail, AllZip-get_or, length_all_zip}
use Rattle.std.proofs.lemmas.List.FromFn.{get_or-map-range_with_len, length-map-range_with_len}
use Rattle.std.proofs.lemmas.List.Sums.{sum_by-cons}
use Rattle.problem_text.proofs.NamesLaws.{length-map}
use Rattle.dcop_base.specs.Table.{CostTable, AreWithin, cell_place, cell_at, values_at}
use Rattle.dcop_base.specs.Problem.{IsAssignment, cost}
use Rattle.dcop_base.specs.Whole.{IsProblem}
use Rattle.problem_text.specs.File.{TextFile}
use Rattle.problem_order.specs.Reordered.{IsTableFor, IsReordered}
use Rattle.problem_order.specs.Costs.{IsSameAssignment, CostTheSame, ReorderedFilesCostTheSame}
use Rattle.problem_order.proofs.ReadLaws.{read_at}

cell_same : (order values : List ℕ) (t u : CostTable) → IsTableFor order t u → All (λ v. v < length order) u.scope → cell_at u (values_at order values) ≡ cell_at t values
cell_same order values t u is within =
    ap (λ (vs : List ℕ). slice_index u.cells (cell_place u.sizes vs)) (read_at values 0 order u.scope within ∙ ap (λ (vs : List ℕ). values_at vs values) is.scope)
    ∙ ap (λ (ss : List ℕ). slice_index u.cells (cell_place ss (values_at t.scope values))) is.sizes
    ∙ ap (λ (cs : List ℕ). slice_index cs (cell_place t.sizes (values_at t.scope values))) is.cells

cost_same : (order values : List ℕ) (ts us : List CostTable) → AllZip (IsTableFor order) ts us → All (λ u. All (λ v. v < length order) u.scope) us
    → sum_by (λ u. cell_at u (values_at order values)) us ≡ sum_by (λ t. cell_at t values) ts
cost_same order values [] [] are within = refl
cost_same order values [] (u ∷ us) are within = absurd are
cost_same order values (t ∷ ts) [] are within = absurd are
cost_same order values (t ∷ ts) (u ∷ us) are within =
    sum_by-cons (λ (w : CostTable). cell_at w (values_at order values)) u us
    ∙ ap (λ (n : ℕ). n + sum_by (λ w. cell_at w (values_at order values)) us) (cell_same order values t u are.0 (All-head (λ (w : CostTable). All (λ v. v < length order) w.scope) u us within))
    ∙ ap (λ (n : ℕ). cell_at t values + n) (cost_same order values ts us are.1 (All-tail (λ (w : CostTable). All (λ v. v < length order) w.scope) u us within))
    ∙ sym (sum_by-cons (λ (w : CostTable). cell_at w values) t ts)

-- values within sizes are so at any places
within_at : (sizes values order : List ℕ) → AreWithin sizes values → All (λ v. v < length sizes) order → AreWithin (map (λ v. slice_index sizes v) order) (values_at order values)
within_at sizes values [] h all = tt
within_at sizes values (v ∷ vs) h all = (
  AllZip-get_or (λ s v. v < s) sizes values v 0 0 h (All-head (λ v. v < length sizes) v vs all),
  within_at sizes values vs h (All-tail (λ v. v < length sizes) v vs all),
)

zip_from : (sizes values : List ℕ) → length values ≡ length sizes → ((k : ℕ) → k < length sizes → slice_index values k < slice_index sizes k) → AreWithin sizes values
zip_from [] [] long each = tt
zip_from [] (v ∷ vs) long each = absurd (omega (arith, long))
zip_from (s ∷ ss) [] long each = absurd (omega (arith, long))
zip_from (s ∷ ss) (v ∷ vs) long each = (each 0 (omega arith), zip_from ss vs (omega (arith, long)) (λ k lt. each (suc k) (omega (arith, lt))))

-- the first place of a variable
abbrev place_in : List ℕ → ℕ → ℕ
place_in [] v = 0
place_in (x ∷ xs) v = cond (eqb x v) 0 (suc (place_in xs v))

place_found : (xs : List ℕ) (v k : ℕ) → k < length xs → slice_index xs k ≡ v → (place_in xs v < length xs) × (slice_index xs (place_in xs v) ≡ v)
place_found [] v k lt is = absurd (omega arith)
place_found (x ∷ xs) v zero lt is =
    let here : place_in (x ∷ xs) v ≡ 0 = ap (λ (b : Bool). cond b 0 (suc (place_in xs v))) (eq-eqb x v is) in
    (omega (arith, here), ap (slice_index (x ∷ xs)) here ∙ is)
place_found (x ∷ xs) v (suc k) lt is =
    elim (cases_Bool (eqb x v)) [
      | inl same ↦
          let here : place_in (x ∷ xs) v ≡ 0 = ap (λ (b : Bool). cond b 0 (suc (place_in xs v))) same in
          (omega (arith, here), ap (slice_index (x ∷ xs)) here ∙ eqb-true x v same)
      | inr differ ↦
          let later : place_in (x ∷ xs) v ≡ suc (place_in xs v) = ap (λ (b : Bool). cond b 0 (suc (place_in xs v))) differ in
          let rest = place_found xs v k (omega arith) is in
          let low = rest.0 in
          (omega (arith, later, low), ap (slice_index (x ∷ xs)) later ∙ rest.1)
    ]

module _ (old new : TextFile) (order : List ℕ) (whole : IsProblem old.problem) (whole' : IsProblem new.problem) (is : IsReordered old order new) where
  count : length new.problem.sizes ≡ length order
  count = ap length is.sizes ∙ length-map (λ v. slice_index old.problem.sizes v) order

  scopes : All (λ u. All (λ v. v < length order) u.scope) new.problem.tables
  scopes k d lt j e l = let long = count in let below = (whole'.tables k d lt).within j e l in omega (arith, below, long)

  same_assignment : (values : List ℕ) → IsAssignment old.problem values → IsSameAssignment old.problem new.problem order values
  same_assignment values within = record {
    assignment = subst (λ (ss : List ℕ). AreWithin ss (values_at order values)) (sym is.sizes) (within_at old.problem.sizes values order within is.is_order.within);
    cost = cost_same order values old.problem.tables new.problem.tables is.tables scopes;
  }

  -- the assignment of the old problem whose values in the new order are these
  abbrev told_back : List ℕ → List ℕ
  told_back values = map (λ v. slice_index values (place_in order v)) (range_with_len 0 (length old.problem.sizes))

  back_at : (values : List ℕ) (v : ℕ) → v < length old.problem.sizes → slice_index (told_back values) v ≡ slice_index values (place_in order v)
  back_at values v lt = get_or-map-range_with_len (λ w. slice_index values (place_in order w)) 0 (length old.problem.sizes) v v 0 lt (omega arith)

  place_of : (v : ℕ) → v < length old.problem.sizes → (place_in order v < length order) × (slice_index order (place_in order v) ≡ v)
  place_of v lt =
      let every = is.is_order.every v lt in
      let many = is.is_order.many in
      let low = every.1 in
      place_found order v every.0 (omega (arith, low, many)) every.2

  back_within : (values : List ℕ) → IsAssignment new.problem values → IsAssignment old.problem (told_back values)
  back_within values within =
      zip_from old.problem.sizes (told_back values) (length-map-range_with_len (λ v. slice_index values (place_in order v)) 0 (length old.problem.sizes))
      (λ v lt.
      let place = place_of v lt in
      let long = count in
      let low = place.0 in
      let below : slice_index values (place_in order v) < slice_index new.problem.sizes (place_in order v) =
      AllZip-get_or (λ s x. x < s) new.problem.sizes values (place_in order v) 0 0 within (omega (arith, low, long)) in
      let size : slice_index new.problem.sizes (place_in order v) ≡ slice_index old.problem.sizes v =
      ap (λ (ss : List ℕ). slice_index ss (place_in order v)) is.sizes ∙ get_or-map (λ w. slice_index old.problem.sizes w) order (place_in order v) 0 0 low ∙ ap (slice_index old.problem.sizes) place.1 in
      let value = back_at values v lt in
      omega (arith, below, size, value))

  back_again : (values : List ℕ) → IsAssignment new.problem values → values_at order (told_back values) ≡ values
  back_again values within =
      let long = count in
      let many = is.is_order.many in
      let full : length new.problem.sizes ≡ length values = length_all_zip (λ s x. x < s) new.problem.sizes values within in
      let told : length (values_at order (told_back values)) ≡ length order = length-map (λ v. slice_index (told_back values) v) order in
      same_lists (values_at order (told_back values)) values (omega (arith, long, full, told))
      (λ k d lt.
      let lk : k < length order = omega (arith, lt, told) in
      let var : slice_index order k < length old.problem.sizes = is.is_order.within k 0 lk in
      let place = place_of (slice_index order k) var in
      let low = place.0 in
      let here : place_in order (slice_index order k) ≡ k = is.is_order.once (place_in order (slice_index order k)) k (omega (arith, low, many)) (omega (arith, lk, many)) place.1 in
      get_or-map (λ v. slice_index (told_back values) v) order k 0 d lk
      ∙ back_at values (slice_index order k) var ∙ ap (slice_index values) here ∙ get_or_default values k 0 d (omega (arith, lk, long, full)))

  cost_the_same : CostTheSame old new order
  cost_the_same = record {
    by_names = same_assignment;
    costs = λ total. (
      λ has. let same = same_assignment has.0 has.1 in (values_at order has.0, same.assignment, same.cost ∙ has.2),
      λ has.
          let within = back_within has.0 has.1 in
          let same = same_assignment (told_back has.0) within in
          (told_back has.0, within, sym same.cost ∙ ap (cost new.problem) (back_again has.0 has.1) ∙ has.2),
    );
  }

pub reordered_files_cost_the_same : ReorderedFilesCostTheSame
reordered_files_cost_the_same old new order whole whole' is = cost_the_same old new order whole whole' is
