-- Values that are chosen from the root down, each the lowest of the best, are the first optimum of the tree.
use Rattle.std.proofs.Common.{◌≡◌, ℕ, zero, suc, ◌+◌, ◌<◌, ◌≤◌, Bool, true, false, cond, List, Some, length, get_or, refl, sym, ap, ◌∙◌, inl, inr, arith}
use Rattle.std.specs.List.{sum_by}
use Rattle.std.proofs.lemmas.Bool.{cases_Bool, cases_eq, cond-true, cond-false, cond_both, false_from_ne_true, true≢false}
use Rattle.dcop_base.specs.Table.{CostTable}
use Rattle.dcop_base.specs.Problem.{Dcop, IsAssignment, cost}
use Rattle.dcop_base.specs.Whole.{IsProblem}
use Rattle.pseudotree.specs.Tree.{path_of, parent_of, children_of, is_above}
use Rattle.pseudotree.specs.Pseudotree.{IsPseudotree, is_within}
use Rattle.pseudotree.specs.Owner.{owner_of}
use Rattle.pseudotree.proofs.CheckLaws.{within_tree}
use Rattle.pseudotree.proofs.TreeLaws.{longer}
use Rattle.dcop_base.specs.Values.{cell_with, cost_with, with_own}
use Rattle.dcop_optimum.specs.Subtree.{is_owner_within, subtree_tables_of, IsSubtreeOptimum}
use Rattle.dcop_optimum.specs.Decomposition.{best_cost_at}
use Rattle.dcop_optimum.specs.TreeOptimum.{IsFirstOptimumOf, IsBestChoice, BestChoicesAreFirst}
use Rattle.dcop_optimum.proofs.SumLaws.{sum_filter, sum_same, sum_both}
use Rattle.dcop_optimum.proofs.LineLaws.{not_both, within_within, path_short}
use Rattle.dcop_optimum.proofs.OwnerLaws.{IsOwned, all_owned, cell_same, own_reads, subtree_reads, cost_split}
use Rattle.dcop_optimum.proofs.JoinLaws.{listed, listed_at, listed_is, within_from, value_below, own_here, own_else, children_parent, above_in_problem, within_in_problem, separator_above}
use Rattle.dcop_optimum.proofs.DecompositionLaws.{subtree_optimum_same, at_least_best, decomposes, root_cost}
use Rattle.dcop_optimum.proofs.PreorderLaws.{IsLowerAt, before_preorder}

-- a subtree optimum reads what stands above
pub subtree_optimum_by : (p : Dcop) (paths : List (List ℕ)) (i : ℕ) (f g : ℕ → ℕ) (m : ℕ) → ((v : ℕ) → is_above paths v i ≡ true → f v ≡ g v) → IsSubtreeOptimum p paths i f m → IsSubtreeOptimum p paths i g m
subtree_optimum_by p paths i f g m same best = record {
  attained = (best.attained.0, best.attained.1, (λ v h. best.attained.2 v h ∙ same v h), best.attained.3);
  lowest = λ xs is agrees. best.lowest xs is (λ v h. agrees v h ∙ sym (same v h));
}

-- what the tables outside the subtree of i cost
abbrev pub cost_outside : Dcop → List (List ℕ) → ℕ → (ℕ → ℕ) → ℕ
cost_outside p paths i value = sum_by (λ (t : CostTable). cond (is_owner_within paths i (owner_of paths t.scope)) 0 (cell_with t value)) p.tables

-- all tables are those of a subtree and those outside
cost_parts : (p : Dcop) (paths : List (List ℕ)) (i : ℕ) (xs : List ℕ) → cost p xs ≡ cost_with (subtree_tables_of p paths i) (λ v. get_or xs v 0) + cost_outside p paths i (λ v. get_or xs v 0)
cost_parts p paths i xs =
    let value : ℕ → ℕ = λ (v : ℕ). get_or xs v 0 in
    let both : cost p xs ≡ sum_by (λ (t : CostTable). cond (is_owner_within paths i (owner_of paths t.scope)) (cell_with t value) 0) p.tables + cost_outside p paths i value =
    sum_both (λ (t : CostTable). cell_with t value) (λ (t : CostTable). cond (is_owner_within paths i (owner_of paths t.scope)) (cell_with t value) 0)
    (λ (t : CostTable). cond (is_owner_within paths i (owner_of paths t.scope)) 0 (cell_with t value)) p.tables
    (λ t. either (is_owner_within paths i (owner_of paths t.scope)) (cell_with t value)) in
    let inside = sum_filter (λ (t : CostTable). cell_with t value) (λ t. is_owner_within paths i (owner_of paths t.scope)) p.tables in
    omega (arith, both, inside)
  where
    either : (b : Bool) (x : ℕ) → x ≡ cond b x 0 + cond b 0 x
    either true x = omega arith
    either false x = omega arith

module _ (p : Dcop) (paths : List (List ℕ)) (problem : IsProblem p) (pseudo : IsPseudotree p paths) where
  -- tables outside the subtree of i read nothing within i
  outside_reads : (i : ℕ) (f g : ℕ → ℕ) → ((v : ℕ) → v < length p.sizes → is_within paths i v ≡ false → f v ≡ g v) → cost_outside p paths i f ≡ cost_outside p paths i g
  outside_reads i f g same =
      sum_same (λ (t : CostTable). cond (is_owner_within paths i (owner_of paths t.scope)) 0 (cell_with t f)) (λ (t : CostTable). cond (is_owner_within paths i (owner_of paths t.scope)) 0 (cell_with t g)) p.tables (λ k d lt.
      let t : CostTable = get_or p.tables k d in
      let owned : IsOwned p paths t = all_owned p paths problem pseudo k d lt in
      let test : is_owner_within paths i (owner_of paths t.scope) ≡ is_within paths i owned.owner = ap (is_owner_within paths i) owned.owns in
      elim (cases_Bool (is_owner_within paths i (owner_of paths t.scope))) [
        | inl inside ↦ cond-true (is_owner_within paths i (owner_of paths t.scope)) 0 (cell_with t f) inside ∙ sym (cond-true (is_owner_within paths i (owner_of paths t.scope)) 0 (cell_with t g) inside)
        | inr outside ↦
            ap (λ (x : ℕ). cond (is_owner_within paths i (owner_of paths t.scope)) 0 x)
            (cell_same t f g (λ v h.
            same v (owned.inside v h) (false_from_ne_true (is_within paths i v) (λ within.
            true≢false (sym (test ∙ within_within paths pseudo.tree i v owned.owner within (owned.others v h)) ∙ outside)))))
      ])

  -- with the values of another assignment within i, where both agree above i, only the subtree's cost changes
  swapped : (i : ℕ) → i < length p.sizes → (xs ys : List ℕ) → IsAssignment p xs → IsAssignment p ys → ((v : ℕ) → is_above paths v i ≡ true → get_or xs v 0 ≡ get_or ys v 0)
      → (zs : List ℕ) × IsAssignment p zs × (cost p zs + cost_with (subtree_tables_of p paths i) (λ v. get_or xs v 0) ≡ cost p xs + cost_with (subtree_tables_of p paths i) (λ v. get_or ys v 0))
  swapped i in_tree xs ys is is' same =
      let value : ℕ → ℕ = λ (v : ℕ). cond (is_within paths i v) (get_or ys v 0) (get_or xs v 0) in
      let zs : List ℕ = listed p value in
      let inside : cost_with (subtree_tables_of p paths i) (λ v. get_or zs v 0) ≡ cost_with (subtree_tables_of p paths i) (λ v. get_or ys v 0) =
      subtree_reads p paths problem pseudo i (λ v. get_or zs v 0) (λ v. get_or ys v 0)
      (λ v h. listed_at p value v (within_in_problem p paths problem pseudo i v in_tree h) ∙ cond-true (is_within paths i v) (get_or ys v 0) (get_or xs v 0) h)
      (λ v h.
      let above = separator_above p paths problem pseudo i v h in
      listed_at p value v (above_in_problem p paths problem pseudo v i above)
      ∙ cond-false (is_within paths i v) (get_or ys v 0) (get_or xs v 0) (false_from_ne_true (is_within paths i v) (not_both paths pseudo.tree i v above))
      ∙ same v above) in
      let outside : cost_outside p paths i (λ v. get_or zs v 0) ≡ cost_outside p paths i (λ v. get_or xs v 0) =
      outside_reads i (λ v. get_or zs v 0) (λ v. get_or xs v 0) (λ v lt h. listed_at p value v lt ∙ cond-false (is_within paths i v) (get_or ys v 0) (get_or xs v 0) h) in (
        zs,
        listed_is p value (λ v lt. cond_both (is_within paths i v) (get_or ys v 0) (get_or xs v 0) (λ x. x < get_or p.sizes v 0) (λ h. value_below p ys is' v lt) (λ h. value_below p xs is v lt)),
        omega (arith, inside, outside, cost_parts p paths i zs, cost_parts p paths i xs),
      )

  module _ (values : List ℕ) (long : length values ≡ length p.sizes) (choices : (i : ℕ) → i < length p.sizes → IsBestChoice p paths values i) where
    chosen_is : IsAssignment p values
    chosen_is = within_from p.sizes values long (λ i lt. (choices i lt).chosen.within)

    -- the variable's own value changes nothing
    own_again : (i v : ℕ) → with_own i (get_or values i 0) (λ v. get_or values v 0) v ≡ get_or values v 0
    own_again i v =
        elim (cases_eq v i) [
          | inl same ↦ own_here i (get_or values i 0) (λ v. get_or values v 0) v same ∙ ap (λ (x : ℕ). get_or values x 0) (sym same)
          | inr ne ↦ own_else i (get_or values i 0) (λ v. get_or values v 0) v ne
        ]

    -- where the subtrees of the children cost their optima, the best cost at the value of i is what the subtree of i costs
    best_is : (i : ℕ) (lt : i < length p.sizes)
        → ((c : ℕ) → parent_of paths c ≡ Some i → IsSubtreeOptimum p paths c (λ v. get_or values v 0) (cost_with (subtree_tables_of p paths c) (λ v. get_or values v 0)))
        → best_cost_at p paths i (λ v. get_or values v 0) (choices i lt).optima (get_or values i 0) ≡ cost_with (subtree_tables_of p paths i) (λ v. get_or values v 0)
    best_is i lt optimal =
        let optima = (choices i lt).optima in
        let d : ℕ = get_or values i 0 in
        let own = own_reads p paths problem pseudo i (with_own i d (λ v. get_or values v 0)) (λ v. get_or values v 0) (λ v h. own_again i v) in
        let children = sum_same (optima d) (λ c. cost_with (subtree_tables_of p paths c) (λ v. get_or values v 0)) (children_of paths i) (λ k e l.
        let c : ℕ = get_or (children_of paths i) k e in
        let parent = children_parent paths i k e l in
        subtree_optimum_same p paths c (λ v. get_or values v 0) (optima d c) (cost_with (subtree_tables_of p paths c) (λ v. get_or values v 0))
        (subtree_optimum_by p paths c (with_own i d (λ v. get_or values v 0)) (λ v. get_or values v 0) (optima d c) (λ v h. own_again i v) ((choices i lt).are_optima d c (choices i lt).chosen.within parent))
        (optimal c parent)) in
        omega (arith, own, children, cost_split p paths problem pseudo i (λ v. get_or values v 0))

    -- each subtree costs its optimum; by how far its variable is from the deepest level
    optimal_to : (n i : ℕ) → length paths ≤ length (path_of paths i) + n → i < length p.sizes
        → IsSubtreeOptimum p paths i (λ v. get_or values v 0) (cost_with (subtree_tables_of p paths i) (λ v. get_or values v 0))
    optimal_to zero i deep lt = let count = pseudo.sized in absurd (omega (arith, deep, count, path_short paths pseudo.tree i (omega (arith, lt, count))))
    optimal_to (suc n) i deep lt =
        let choice = choices i lt in
        let best = best_is i lt (λ c parent.
        let long = longer paths pseudo.tree c i parent in
        let count = pseudo.sized in
        optimal_to n c (omega (arith, deep, long)) (omega (arith, within_tree paths c i parent, count))) in
        ((decomposes p paths problem pseudo).recursion i (λ v. get_or values v 0) choice.optima lt
        (λ v h. value_below p values chosen_is v (above_in_problem p paths problem pseudo v i h)) choice.are_optima
        (cost_with (subtree_tables_of p paths i) (λ v. get_or values v 0))).1
        (record {
          attained = (get_or values i 0, choice.chosen.within, best);
          lowest = λ d inside. omega (arith, choice.chosen.least d inside, best);
        })

    chosen_optimal : (i : ℕ) → i < length p.sizes → IsSubtreeOptimum p paths i (λ v. get_or values v 0) (cost_with (subtree_tables_of p paths i) (λ v. get_or values v 0))
    chosen_optimal i lt = optimal_to (length paths) i (omega arith) lt

    chosen_first : IsFirstOptimumOf p paths values
    chosen_first =
        let root = pseudo.tree.some_root in
        let count = pseudo.sized in
        let whole = chosen_optimal root.0 (omega (arith, root.1.0, count)) in
        let optimum = ((decomposes p paths problem pseudo).at_root root.0 (λ v. get_or values v 0) root.1 (cost_with (subtree_tables_of p paths root.0) (λ v. get_or values v 0))).0 whole in
        let is = root_cost p paths problem pseudo root.0 root.1 values in
        record {
          assignment = chosen_is;
          optimal = record {
            attained = (values, chosen_is, refl);
            lowest = λ xs within. omega (arith, optimum.lowest xs within, is);
          };
          first = λ xs within same before.
              let found = before_preorder paths pseudo.tree xs values before in
              let i : ℕ = found.0 in
              let at : IsLowerAt paths xs values i = found.1 in
              let lt : i < length p.sizes = omega (arith, at.inside, count) in
              let choice = choices i lt in
              let d : ℕ = get_or xs i 0 in
              let best = best_is i lt (λ c parent. chosen_optimal c (omega (arith, within_tree paths c i parent, count))) in
              let dearer = choice.chosen.lowest d at.lower in
              let costs = at_least_best p paths problem pseudo i (λ v. get_or values v 0) choice.optima choice.are_optima xs within at.same d (value_below p xs within i lt) refl in
              let swap = swapped i lt xs values within chosen_is at.same in
              let least = optimum.lowest swap.0 swap.1 in
              absurd (omega (arith, best, dearer, costs, swap.2, least, same, is));
        }

pub best_choices_are_first : BestChoicesAreFirst
best_choices_are_first p paths values problem pseudo long choices = chosen_first p paths problem pseudo values long choices
