-- The values of a cell, as an assignment and as the definition gives them.
use Rattle.std.proofs.Common.{◌≡◌, ℕ, zero, suc, ◌+◌, ◌*◌, ◌<◌, ◌≤◌, Bool, true, false, cond, ◌||◌, eqb, List, [], ◌∷◌, map, length, get_or, set, replicate, refl, sym, ap, ◌∙◌, inl, inr, arith, All, get_or-set_same, get_or-set_other}
use Rattle.std.proofs.lemmas.Bool.{cases_Bool, cases_eq, cond-true, cond-false, eqb-true, eq-eqb, ne_eqb}
use Rattle.std.proofs.lemmas.List.Elements.{length_all_zip}
use Rattle.dcop_base.specs.Table.{CostTable, product, AreWithin, has, values_at}
use Rattle.dcop_optimum.specs.Certificate.{value_by}
use Rattle.dcop_optimum.proofs.PlaceLaws.{zeros_within}
use Rattle.certificate_text.specs.declared.certificate.Util.{Util}
use Rattle.certificate_text.specs.Fits.{FitsUtil}
use Rattle.minimised_problem.specs.Cells.{values_of_cell}
use Rattle.minimised_problem.proofs.CellLaws.{values_of_place}
use Rattle.certificate_check.specs.Cells.{values_at_cell, sum_below}
use Rattle.certificate_check.specs.Odometer.{place_of, IsAtCell, IsNextPlace}
use Rattle.certificate_check.proofs.CellLaws.{sizes_at, scope_within}
use Rattle.certificate_check.proofs.OdometerLaws.{place_apart, within_set}

-- the values of a scope by its variables, 0 for all others
pub value_by-map : (scope : List ℕ) (f : ℕ → ℕ) (v : ℕ) → value_by scope (map f scope) v ≡ cond (has scope v) (f v) 0
value_by-map [] f v = refl
value_by-map (u ∷ us) f v =
    elim (cases_Bool (eqb u v)) [
      | inl same ↦
          cond-true (eqb u v) (f u) (value_by us (map f us) v) same ∙ ap f (eqb-true u v same)
          ∙ sym (ap (λ (b : Bool). cond (b || has us v) (f v) 0) same)
      | inr other ↦
          cond-false (eqb u v) (f u) (value_by us (map f us) v) other ∙ value_by-map us f v
          ∙ sym (ap (λ (b : Bool). cond (b || has us v) (f v) 0) other)
    ]

-- an assignment at a cell stays there where the table's own variable gets a value
pub at_set : (sizes : List ℕ) (u : Util) (k : ℕ) (values : List ℕ) (d : ℕ) → IsAtCell sizes u k values → has u.scope u.var ≡ false → d < get_or sizes u.var 0 → IsAtCell sizes u k (set values u.var d)
at_set sizes u k values d at apart lt = record {
  within = within_set sizes values u.var d at.within lt;
  place = λ inside. place_apart sizes u.scope values u.var d apart ∙ at.place inside;
  rest = λ v out other. get_or-set_other values u.var v d 0 other ∙ at.rest v out other;
}

-- its values are then those of the cell, with that value for the own variable
value_at : (sizes : List ℕ) (u : Util) (k : ℕ) (values : List ℕ) (d : ℕ) → IsAtCell sizes u k values → k < length u.cells → All (λ v. v < length sizes) u.scope → u.var < length sizes
    → (v : ℕ) → get_or (set values u.var d) v 0 ≡ values_at_cell sizes u k d v
value_at sizes u k values d at inside named own v =
    let count = length_all_zip (λ s x. x < s) sizes values at.within in
    let cell : values_at u.scope values ≡ values_of_cell (sizes_at sizes u.scope) k =
    sym (values_of_place (sizes_at sizes u.scope) (values_at u.scope values) (scope_within sizes values u.scope at.within named)) ∙ ap (values_of_cell (sizes_at sizes u.scope)) (at.place inside) in
    elim (cases_eq v u.var) [
      | inl same ↦
          ap (λ (w : ℕ). get_or (set values u.var d) w 0) same ∙ get_or-set_same values u.var d 0 (omega arith)
          ∙ sym (cond-true (eqb v u.var) d (value_by u.scope (values_of_cell (sizes_at sizes u.scope) k) v) (eq-eqb v u.var same))
      | inr other ↦
          let read : get_or values v 0 ≡ cond (has u.scope v) (get_or values v 0) 0 = elim (cases_Bool (has u.scope v)) [
            | inl named_there ↦ sym (cond-true (has u.scope v) (get_or values v 0) 0 named_there)
            | inr out ↦ at.rest v out other ∙ sym (cond-false (has u.scope v) (get_or values v 0) 0 out)
          ] in
          get_or-set_other values u.var v d 0 other ∙ read ∙ sym (value_by-map u.scope (λ w. get_or values w 0) v)
          ∙ ap (λ (xs : List ℕ). value_by u.scope xs v) cell
          ∙ sym (cond-false (eqb v u.var) d (value_by u.scope (values_of_cell (sizes_at sizes u.scope) k) v) (ne_eqb v u.var other))
    ]

pub sum_at : (sizes : List ℕ) (own : List CostTable) (children : List Util) (u : Util) (k : ℕ) (values : List ℕ) (d : ℕ) → IsAtCell sizes u k values → k < length u.cells → FitsUtil sizes u
    → sum_below sizes own children (λ v. get_or (set values u.var d) v 0) ≡ sum_below sizes own children (values_at_cell sizes u k d)
sum_at sizes own children u k values d at inside fits =
    ap (λ (f : ℕ → ℕ). sum_below sizes own children f) (λ i v. value_at sizes u k values d at inside fits.named.scope fits.named.own v i)

-- one step of the values is one step of the cells
pub at_next : (sizes : List ℕ) (u : Util) (k : ℕ) (old new : List ℕ) (b : Bool) → IsAtCell sizes u k old → k < length u.cells → length u.cells ≡ product (sizes_at sizes u.scope)
    → AreWithin sizes new → IsNextPlace sizes u.scope old new b → ((v : ℕ) → has u.scope v ≡ false → get_or new v 0 ≡ get_or old v 0) → IsAtCell sizes u (k + 1) new
at_next sizes u k old new true at inside full within next others = record {
  within = within;
  place = λ more. let was = at.place inside in omega (arith, next, was);
  rest = λ v out other. others v out ∙ at.rest v out other;
}
at_next sizes u k old new false at inside full within next others = record {
  within = within;
  place = λ more. let was = at.place inside in absurd (omega (arith, next.0, was, full, more));
  rest = λ v out other. others v out ∙ at.rest v out other;
}

-- an assignment of zeros is at the first cell
read_zero : (n v : ℕ) → get_or (replicate {A = ℕ} n 0) v 0 ≡ 0
read_zero zero v = refl
read_zero (suc n) zero = refl
read_zero (suc n) (suc v) = read_zero n v

place_zeros : (sizes scope : List ℕ) (n : ℕ) → place_of sizes scope (replicate n 0) ≡ 0
place_zeros sizes [] n = refl
place_zeros sizes (v ∷ vs) n =
    let head = ap (λ (d : ℕ). d * product (sizes_at sizes vs)) (read_zero n v) in
    let rest = place_zeros sizes vs n in
    omega (arith, head, rest)

pub at_zeros : (sizes : List ℕ) (u : Util) (values : List ℕ) → All (λ s. 1 ≤ s) sizes → values ≡ replicate (length sizes) 0 → IsAtCell sizes u 0 values
at_zeros sizes u values positive e = rw e (record {
  within = zeros_within sizes positive;
  place = λ inside. place_zeros sizes u.scope (length sizes);
  rest = λ v out other. read_zero (length sizes) v;
})
