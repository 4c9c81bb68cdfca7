-- Each tree has one first optimum.
use Rattle.std.proofs.Common.{◌≡◌, ℕ, ◌+◌, ◌*◌, ◌<◌, ◌≤◌, true, eqb, List, [], ◌∷◌, length, map, get_or, drop, refl, sym, ap, subst, ◌∙◌, inl, inr, arith, All}
use Rattle.std.proofs.lemmas.Bool.{cases_lt, or_cases, eqb-true}
use Rattle.std.proofs.lemmas.List.{length-map, ext_get_or}
use Rattle.std.proofs.lemmas.List.Elements.{All-head, All-tail, All-weaker, length_all_zip}
use Rattle.std.proofs.Math.Nat.{mul-le-mul_right}
use Rattle.dcop_base.specs.Table.{product, has, AreWithin, cell_place}
use Rattle.dcop_base.specs.Problem.{Dcop, IsAssignment, cost}
use Rattle.dcop_base.specs.Whole.{IsProblem}
use Rattle.dcop_base.specs.Limits.{size_limit}
use Rattle.dcop_base.proofs.TableLaws.{cell_place-lt}
use Rattle.pseudotree.specs.Preorder.{preorder_of}
use Rattle.pseudotree.specs.Pseudotree.{IsPseudotree}
use Rattle.pseudotree.specs.Place.{sizes_of}
use Rattle.dcop_optimum.specs.TreeOptimum.{in_preorder, IsFirstOptimumOf, FirstOptimaOfTreesAreOne}
use Rattle.dcop_optimum.proofs.PlaceLaws.{place_before, before_cases}
use Rattle.dcop_optimum.proofs.OptimumLaws.{least_within, optimum_same}
use Rattle.dcop_optimum.proofs.JoinLaws.{value_below}
use Rattle.dcop_optimum.proofs.PreorderLaws.{has_preorder, preorder_below}

-- values of variables are within the variables' sizes where each of them is
within_map : (f g : ℕ → ℕ) (xs : List ℕ) → All (λ v. f v < g v) xs → AreWithin (map g xs) (map f xs)
within_map f g [] below = tt
within_map f g (x ∷ xs) below = (All-head (λ v. f v < g v) x xs below, within_map f g xs (All-tail (λ v. f v < g v) x xs below))

-- maps that are one list agree on what stands in the list
map_at : (f g : ℕ → ℕ) (xs : List ℕ) (v : ℕ) → map f xs ≡ map g xs → has xs v ≡ true → f v ≡ g v
map_at f g [] v same h = absurd (cc)
map_at f g (x ∷ xs) v same h =
    elim (or_cases (eqb x v) (has xs v) h) [
      | inl here ↦ subst (λ (y : ℕ). f y ≡ g y) (eqb-true x v here) (ap (λ (ys : List ℕ). get_or ys 0 0) same)
      | inr later ↦ map_at f g xs v (ap (λ (ys : List ℕ). drop 1 ys) same) later
    ]

module _ (p : Dcop) (paths : List (List ℕ)) (problem : IsProblem p) (pseudo : IsPseudotree p paths) where
  -- the values of an assignment in preorder are within the sizes in preorder
  preorder_within : (xs : List ℕ) → IsAssignment p xs → AreWithin (sizes_of p (preorder_of paths)) (in_preorder paths xs)
  preorder_within xs is =
      within_map (λ v. get_or xs v 0) (λ v. get_or p.sizes v 0) (preorder_of paths)
      (All-weaker (λ u. u < length paths) (λ v. get_or xs v 0 < get_or p.sizes v 0) (λ v lt. let count = pseudo.sized in value_below p xs is v (omega arith)) (preorder_of paths) (preorder_below paths))

  -- the assignment that costs least, and of those the one with the lowest place in preorder, is the first optimum
  first_from_measure : (xs : List ℕ) → IsAssignment p xs
      → ((ys : List ℕ) → IsAssignment p ys → cost p xs * product (sizes_of p (preorder_of paths)) + cell_place (sizes_of p (preorder_of paths)) (in_preorder paths xs)
      ≤ cost p ys * product (sizes_of p (preorder_of paths)) + cell_place (sizes_of p (preorder_of paths)) (in_preorder paths ys))
      → IsFirstOptimumOf p paths xs
  first_from_measure xs is least = record {
    assignment = is;
    optimal = record {
      attained = (xs, is, refl);
      lowest = λ ys is'.
          elim (cases_lt (cost p ys) (cost p xs)) [
            | inl cheaper ↦
                let le = least ys is' in
                let below = cell_place-lt (sizes_of p (preorder_of paths)) (in_preorder paths ys) (preorder_within ys is') in
                let rows = mul-le-mul_right (product (sizes_of p (preorder_of paths))) cheaper in
                absurd (omega arith)
            | inr dearer ↦ dearer
          ];
    };
    first = λ ys is' same before.
        let le = least ys is' in
        let lower = place_before (sizes_of p (preorder_of paths)) (in_preorder paths ys) (in_preorder paths xs) (preorder_within ys is') (preorder_within xs is) before in
        let rows = ap (λ c. c * product (sizes_of p (preorder_of paths))) same in
        absurd (omega arith);
  }

  some_first_of_tree : (xs : List ℕ) × IsFirstOptimumOf p paths xs
  some_first_of_tree =
      let sizes = All-weaker (λ s. (1 ≤ s) × (s ≤ size_limit)) (λ s. 1 ≤ s) (λ s h. h.0) p.sizes problem.sizes in
      let least = least_within p.sizes sizes (λ xs. cost p xs * product (sizes_of p (preorder_of paths)) + cell_place (sizes_of p (preorder_of paths)) (in_preorder paths xs)) in
      (least.0, first_from_measure least.0 least.1 least.2)

  first_of_tree_same : (xs ys : List ℕ) → IsFirstOptimumOf p paths xs → IsFirstOptimumOf p paths ys → xs ≡ ys
  first_of_tree_same xs ys at_xs at_ys =
      let costs = optimum_same p (cost p xs) (cost p ys) at_xs.optimal at_ys.optimal in
      let long = length_all_zip (λ s v. v < s) p.sizes xs at_xs.assignment in
      let long' = length_all_zip (λ s v. v < s) p.sizes ys at_ys.assignment in
      elim (before_cases (in_preorder paths xs) (in_preorder paths ys) (length-map (preorder_of paths) (λ v. get_or xs v 0) ∙ sym (length-map (preorder_of paths) (λ v. get_or ys v 0)))) [
        | inl same ↦
            ext_get_or 0 xs ys (sym long ∙ long') (λ v lt.
            let count = pseudo.sized in
            map_at (λ v. get_or xs v 0) (λ v. get_or ys v 0) (preorder_of paths) v same (has_preorder paths pseudo.tree v (omega (arith, lt, long, count))))
        | inr orders ↦ elim orders [
          | inl before ↦ absurd (at_ys.first xs at_xs.assignment costs before)
          | inr before ↦ absurd (at_xs.first ys at_ys.assignment (sym costs) before)
        ]
      ]

pub first_optima_of_trees_are_one : FirstOptimaOfTreesAreOne
first_optima_of_trees_are_one p paths problem pseudo = record {
  some = some_first_of_tree p paths problem pseudo;
  one = first_of_tree_same p paths problem pseudo;
}
