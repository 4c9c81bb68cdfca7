-- Where a cell differs, by a sum that is capped.
use Rattle.std.proofs.Common.{◌≡◌, ℕ, ◌<◌, ◌≤◌, ltb, min, List, length, get_or, set, None, Some, sym, ap, ◌∙◌, arith}
use Rattle.std.specs.List.{range_with_len}
use Rattle.std.proofs.lemmas.Bool.{cond-true, cond-false, lt-ltb, le-ltb}
use Rattle.dcop_base.specs.Table.{CostTable}
use Rattle.certificate_text.specs.declared.certificate.Util.{Util}
use Rattle.certificate_text.specs.declared.verdict.Differs.TheVariants.{Cell}
use Rattle.certificate_check.specs.Cells.{values_at_cell, sum_below}
use Rattle.certificate_check.specs.Odometer.{IsAtCell, FitTogether}
use Rattle.certificate_check.specs.Differences.{first_of, value_difference, cell_difference}
use Rattle.certificate_check.proofs.FirstLaws.{found_first}
use Rattle.certificate_check.proofs.ValueLaws.{sum_at}

-- what was seen at a value of the own variable: the cell, and the sum, capped
pub record Seen (sizes : List ℕ) (own : List CostTable) (children : List Util) (u : Util) (k : ℕ) (values : List ℕ) (index d left right : ℕ) : Type 0 where
  pub fit : FitTogether sizes own children u
  pub at : IsAtCell sizes u k values
  pub inside : k < length u.cells
  pub index_is : index ≡ u.var
  pub left_is : left ≡ get_or u.cells k 0
  pub right_is : right ≡ min (sum_below sizes own children (λ v. get_or (set values index d) v 0)) 18446744073709551615

module _ (sizes : List ℕ) (own : List CostTable) (children : List Util) (u : Util) (k : ℕ) (values : List ℕ) (index d left right : ℕ) (seen : Seen sizes own children u k values index d left right) where
  right_of : right ≡ min (sum_below sizes own children (values_at_cell sizes u k d)) 18446744073709551615
  right_of =
      seen.right_is ∙ ap (λ (i : ℕ). min (sum_below sizes own children (λ v. get_or (set values i d) v 0)) 18446744073709551615) seen.index_is
      ∙ ap (λ (n : ℕ). min n 18446744073709551615) (sum_at sizes own children u k values d seen.at seen.inside seen.fit.util_fits)

  -- a cell is at most the cap, so a sum that is capped above it compares as the sum does
  small : left ≤ 4611686018427387904
  small = let le = seen.fit.util_fits.cells k 0 seen.inside in let is = seen.left_is in omega arith

  pub differs_at : right < left → value_difference sizes own children u k d ≡ Some (Cell u.var k d left right)
  differs_at less =
      let e = right_of in
      let s = small in
      let is = seen.left_is in
      let same : right ≡ sum_below sizes own children (values_at_cell sizes u k d) = omega arith in
      let lt : sum_below sizes own children (values_at_cell sizes u k d) < get_or u.cells k 0 = omega arith in
      cond-true (ltb (sum_below sizes own children (values_at_cell sizes u k d)) (get_or u.cells k 0)) (Some (Cell u.var k d (get_or u.cells k 0) (sum_below sizes own children (values_at_cell sizes u k d)))) None (lt-ltb _ _ lt)
      ∙ ap (λ (l : ℕ). Some (Cell u.var k d l (sum_below sizes own children (values_at_cell sizes u k d)))) (sym is)
      ∙ ap (λ (r : ℕ). Some (Cell u.var k d left r)) (sym same)

  pub same_at : left ≤ right → value_difference sizes own children u k d ≡ None
  same_at le =
      let e = right_of in
      let is = seen.left_is in
      let most : get_or u.cells k 0 ≤ sum_below sizes own children (values_at_cell sizes u k d) = omega arith in
      cond-false (ltb (sum_below sizes own children (values_at_cell sizes u k d)) (get_or u.cells k 0)) (Some (Cell u.var k d (get_or u.cells k 0) (sum_below sizes own children (values_at_cell sizes u k d)))) None (le-ltb _ _ most)

  pub first_at : right < left → d < get_or sizes u.var 0 → first_of (value_difference sizes own children u k) (range_with_len 0 d) ≡ None
      → (var : ℕ) → var ≡ u.var → Some (Cell var k d left right) ≡ cell_difference sizes own children u k
  first_at less lt none var e =
      ap (λ (v : ℕ). Some (Cell v k d left right)) e
      ∙ sym (found_first (value_difference sizes own children u k) d (get_or sizes u.var 0) (Cell u.var k d left right) none lt (differs_at less))
