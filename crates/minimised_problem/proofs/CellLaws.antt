-- The values of a cell and its place.
use Rattle.std.proofs.Common.{◌≡◌, ℕ, ◌+◌, ◌*◌, ◌/◌, ◌%◌, ◌<◌, List, [], ◌∷◌, refl, ap, ◌∙◌, inl, inr, arith}
use Rattle.std.proofs.lemmas.Bool.{cases_lt}
use Rattle.std.proofs.lemmas.Nat.{div-mul-add, div-add-mod', div_below}
use Rattle.dcop_base.specs.Table.{product, AreWithin, cell_place}
use Rattle.dcop_base.proofs.TableLaws.{cell_place-lt}
use Rattle.minimised_problem.specs.Cells.{values_of_cell}

-- the values of the cell at a place are those of the place
pub values_of_place : (ss xs : List ℕ) → AreWithin ss xs → values_of_cell ss (cell_place ss xs) ≡ xs
values_of_place [] [] within = refl
values_of_place [] (x ∷ xs) within = absurd within
values_of_place (s ∷ ss) [] within = absurd within
values_of_place (s ∷ ss) (x ∷ xs) within =
    let lt = cell_place-lt ss xs within.1 in
    let quotient : (x * product ss + cell_place ss xs) / product ss ≡ x = div-mul-add x (product ss) (cell_place ss xs) lt in
    let whole = div-add-mod' (x * product ss + cell_place ss xs) (product ss) in
    let times = ap (λ (n : ℕ). n * product ss) quotient in
    let remainder : (x * product ss + cell_place ss xs) % product ss ≡ cell_place ss xs = omega (arith, whole, times) in
    ap (λ (n : ℕ). n ∷ values_of_cell ss ((x * product ss + cell_place ss xs) % product ss)) quotient
    ∙ ap (λ (n : ℕ). x ∷ values_of_cell ss n) remainder
    ∙ ap (λ (ys : List ℕ). x ∷ ys) (values_of_place ss xs within.1)

-- and they are within the sizes, at that place
pub place_of_values : (ss : List ℕ) (k : ℕ) → k < product ss → AreWithin ss (values_of_cell ss k) × (cell_place ss (values_of_cell ss k) ≡ k)
place_of_values [] k lt = (tt, omega arith)
place_of_values (s ∷ ss) k lt =
    elim (cases_lt 0 (product ss)) [
      | inl some ↦
          let high : k / product ss < s = div_below k (product ss) s some lt in
          let whole = div-add-mod' k (product ss) in
          let low : k % product ss < product ss = omega arith in
          let rest = place_of_values ss (k % product ss) low in
          let place = rest.1 in
          ((high, rest.0), omega (arith, place, whole))
      | inr none ↦
          let zero_is : product ss ≡ 0 = omega arith in
          let times = ap (λ (n : ℕ). s * n) zero_is in
          absurd (omega (arith, times))
    ]
