-- Assignments joined along the tree: each subtree takes its values from an assignment of its own.
use Rattle.std.proofs.Common.{◌≡◌, ℕ, suc, ◌+◌, ◌<◌, true, eqb, List, [], ◌∷◌, length, map, get_or, Some, refl, sym, ap, subst, ◌∙◌, inl, inr, arith, All}
use Rattle.std.specs.List.{sum_by, range_with_len}
use Rattle.std.proofs.lemmas.Bool.{cases_eq, cond-true, cond-false, eq-eqb, ne_eqb}
use Rattle.std.proofs.lemmas.List.FromFn.{get_or-map-range_with_len, length-map-range_with_len}
use Rattle.std.proofs.lemmas.List.Elements.{filter_passes, AllZip-get_or}
use Rattle.dcop_base.specs.Table.{AreWithin, has}
use Rattle.dcop_base.specs.Problem.{Dcop, IsAssignment}
use Rattle.dcop_base.specs.Whole.{IsProblem}
use Rattle.pseudotree.specs.Tree.{path_of, parent_of, children_of, is_variable, is_above}
use Rattle.pseudotree.specs.Pseudotree.{IsPseudotree, is_within, touches, separator_of}
use Rattle.pseudotree.proofs.CheckLaws.{within_tree}
use Rattle.pseudotree.proofs.GatherLaws.{variable_is}
use Rattle.pseudotree.proofs.SpreadLaws.{above_parent, any_in_range}
use Rattle.pseudotree.proofs.NestLaws.{has_filter, filter_has}
use Rattle.dcop_base.specs.Values.{cost_with, with_own}
use Rattle.dcop_optimum.specs.Subtree.{own_tables_of, subtree_tables_of, AgreesAbove}
use Rattle.dcop_optimum.proofs.SumLaws.{sum_same}
use Rattle.dcop_optimum.proofs.LineLaws.{within_cases, branch, branch_is, below_in_tree, above_in_tree}
use Rattle.dcop_optimum.proofs.OwnerLaws.{own_reads, subtree_reads, cost_split}

-- values that are each below their size are within the sizes
pub within_from : (ss xs : List ℕ) → length xs ≡ length ss → ((k : ℕ) → k < length ss → get_or xs k 0 < get_or ss k 0) → AreWithin ss xs
within_from [] [] long below = tt
within_from [] (x ∷ xs) long below = absurd (omega (arith, long))
within_from (s ∷ ss) [] long below = absurd (omega (arith, long))
within_from (s ∷ ss) (x ∷ xs) long below = (below 0 (omega arith), within_from ss xs (omega (arith, long)) (λ k lt. below (suc k) (omega arith)))

-- each value of an assignment is below its size
pub value_below : (p : Dcop) (values : List ℕ) → IsAssignment p values → (v : ℕ) → v < length p.sizes → get_or values v 0 < get_or p.sizes v 0
value_below p values is v lt = AllZip-get_or (λ s x. x < s) p.sizes values v 0 0 is lt

-- the list of values that a function gives
abbrev pub listed : Dcop → (ℕ → ℕ) → List ℕ
listed p value = map value (range_with_len 0 (length p.sizes))

pub listed_at : (p : Dcop) (value : ℕ → ℕ) (v : ℕ) → v < length p.sizes → get_or (listed p value) v 0 ≡ value v
listed_at p value v lt = get_or-map-range_with_len value 0 (length p.sizes) v v 0 lt (omega arith)

-- it is an assignment where each value is below its size
pub listed_is : (p : Dcop) (value : ℕ → ℕ) → ((v : ℕ) → v < length p.sizes → value v < get_or p.sizes v 0) → IsAssignment p (listed p value)
listed_is p value below =
    within_from p.sizes (listed p value) (length-map-range_with_len value 0 (length p.sizes))
    (λ v lt. subst (λ (x : ℕ). x < get_or p.sizes v 0) (sym (listed_at p value v lt)) (below v lt))

-- a size of a problem is at least 1
pub size_some : (p : Dcop) → IsProblem p → (v : ℕ) → v < length p.sizes → 0 < get_or p.sizes v 0
size_some p problem v lt = let good = problem.sizes v 0 lt in omega (arith, good.0)

-- what the own variable has
pub own_here : (i d : ℕ) (value : ℕ → ℕ) (v : ℕ) → v ≡ i → with_own i d value v ≡ d
own_here i d value v e = cond-true (eqb v i) d (value v) (eq-eqb v i e)

pub own_else : (i d : ℕ) (value : ℕ → ℕ) (v : ℕ) → (v ≡ i → ⊥) → with_own i d value v ≡ value v
own_else i d value v ne = cond-false (eqb v i) d (value v) (ne_eqb v i ne)

-- each child has i as its parent
pub children_parent : (paths : List (List ℕ)) (i : ℕ) → All (λ c. parent_of paths c ≡ Some i) (children_of paths i)
children_parent paths i k d lt =
    variable_is i (parent_of paths (get_or (children_of paths i) k d)) (filter_passes (λ c. is_variable i (parent_of paths c)) (range_with_len 0 (length paths)) k d lt)

-- a child stands among the children
pub child_named : (paths : List (List ℕ)) (i c : ℕ) → parent_of paths c ≡ Some i → has (children_of paths i) c ≡ true
child_named paths i c parent =
    filter_has (λ c. is_variable i (parent_of paths c)) (range_with_len 0 (length paths)) c
    (any_in_range (λ y. eqb y c) (length paths) c (within_tree paths c i parent) (eq-eqb c c refl))
    (ap (is_variable i) parent ∙ eq-eqb i i refl)

-- an assignment with these values of i and of what stands above it
pub record IsPiece (p : Dcop) (paths : List (List ℕ)) (i : ℕ) (value : ℕ → ℕ) (xs : List ℕ) : Type 0 where
  pub assignment : IsAssignment p xs
  pub agrees : (v : ℕ) → is_within paths v i ≡ true → get_or xs v 0 ≡ value v

-- the value of v, by the piece of the branch in which it lies
abbrev pub joined_at : List (List ℕ) → ℕ → (ℕ → List ℕ) → ℕ → ℕ
joined_at paths i pieces v = get_or (pieces (branch paths i v)) v 0

-- the assignment that is joined of one piece for each child of i
abbrev pub joined : Dcop → List (List ℕ) → ℕ → (ℕ → List ℕ) → List ℕ
joined p paths i pieces = listed p (joined_at paths i pieces)

module _ (p : Dcop) (paths : List (List ℕ)) (problem : IsProblem p) (pseudo : IsPseudotree p paths) where
  in_problem : (v : ℕ) → v < length paths → v < length p.sizes
  in_problem v lt = let count = pseudo.sized in omega arith

  pub above_in_problem : (v i : ℕ) → is_above paths v i ≡ true → v < length p.sizes
  above_in_problem v i h = in_problem v (above_in_tree paths pseudo.tree v i h)

  pub within_in_problem : (i v : ℕ) → i < length p.sizes → is_within paths i v ≡ true → v < length p.sizes
  within_in_problem i v lt h =
      elim (within_cases paths i v h) [
        | inl same ↦ omega (arith, same)
        | inr above ↦ in_problem v (below_in_tree paths pseudo.tree i v above)
      ]

  -- the separator stands above
  pub separator_above : (i v : ℕ) → has (separator_of p paths i) v ≡ true → is_above paths v i ≡ true
  separator_above i v h = (has_filter (touches p paths i) (path_of paths i) v h).0

  -- the values of the proper ancestors of a child of i, where i has the value d
  pub child_agrees : (i c d : ℕ) (value : ℕ → ℕ) (xs : List ℕ) → parent_of paths c ≡ Some i → AgreesAbove paths i value xs → get_or xs i 0 ≡ d
      → AgreesAbove paths c (with_own i d value) xs
  child_agrees i c d value xs parent agrees at v above =
      elim (cases_eq v i) [
        | inl same ↦ ap (λ (x : ℕ). get_or xs x 0) same ∙ at ∙ sym (own_here i d value v same)
        | inr ne ↦
            elim (within_cases paths v i (above_parent paths pseudo.tree c i v parent above)) [
              | inl same ↦ absurd (ne (sym same))
              | inr upper ↦ agrees v upper ∙ sym (own_else i d value v ne)
            ]
      ]

  module _ (i : ℕ) (in_tree : i < length p.sizes) (value : ℕ → ℕ) (pieces : ℕ → List ℕ) (are : (c : ℕ) → IsPiece p paths i value (pieces c)) where
    pub joined_is : IsAssignment p (joined p paths i pieces)
    joined_is = listed_is p (joined_at paths i pieces) (λ v lt. value_below p (pieces (branch paths i v)) (are (branch paths i v)).assignment v lt)

    -- i and what stands above it have the values of all pieces
    pub joined_agrees : (v : ℕ) → is_within paths v i ≡ true → get_or (joined p paths i pieces) v 0 ≡ value v
    joined_agrees v h =
        let lt : v < length p.sizes =
        elim (within_cases paths v i h) [ inl same ↦ omega (arith, same) | inr above ↦ above_in_problem v i above ] in
        listed_at p (joined_at paths i pieces) v lt ∙ (are (branch paths i v)).agrees v h

    -- a child's subtree costs what it costs in the child's piece
    pub joined_costs : (c : ℕ) → parent_of paths c ≡ Some i
        → cost_with (subtree_tables_of p paths c) (λ v. get_or (joined p paths i pieces) v 0) ≡ cost_with (subtree_tables_of p paths c) (λ v. get_or (pieces c) v 0)
    joined_costs c parent =
        subtree_reads p paths problem pseudo c (λ v. get_or (joined p paths i pieces) v 0) (λ v. get_or (pieces c) v 0)
        (λ v h.
        let lt : v < length p.sizes = within_in_problem c v (in_problem c (within_tree paths c i parent)) h in
        listed_at p (joined_at paths i pieces) v lt ∙ ap (λ (b : ℕ). get_or (pieces b) v 0) (branch_is paths pseudo.tree i c v parent h))
        (λ v h.
        let upper = above_parent paths pseudo.tree c i v parent (separator_above c v h) in
        joined_agrees v upper ∙ sym ((are c).agrees v upper))

    -- the whole costs what the own tables and the pieces of the children cost
    pub joined_split : cost_with (subtree_tables_of p paths i) (λ v. get_or (joined p paths i pieces) v 0)
        ≡ cost_with (own_tables_of p paths i) value + sum_by (λ c. cost_with (subtree_tables_of p paths c) (λ v. get_or (pieces c) v 0)) (children_of paths i)
    joined_split =
        let split = cost_split p paths problem pseudo i (λ v. get_or (joined p paths i pieces) v 0) in
        let own = own_reads p paths problem pseudo i (λ v. get_or (joined p paths i pieces) v 0) value joined_agrees in
        let children = sum_same (λ c. cost_with (subtree_tables_of p paths c) (λ v. get_or (joined p paths i pieces) v 0)) (λ c. cost_with (subtree_tables_of p paths c) (λ v. get_or (pieces c) v 0)) (children_of paths i)
        (λ k d lt. joined_costs (get_or (children_of paths i) k d) (children_parent paths i k d lt)) in
        omega (arith, split, own, children)
