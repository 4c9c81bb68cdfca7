-- The separator of a variable from those of its children.
use Rattle.std.proofs.Common.{◌≡◌, ℕ, Bool, true, false, ◌&&◌, ◌||◌, eqb, List, [], ◌∷◌, length, get_or, Some, refl, sym, ap, subst, ◌∙◌, inl, inr}
use Rattle.std.specs.List.{list_any}
use Rattle.std.proofs.lemmas.Bool.{and_parts, and_from, or_cases, or_left, or_right, eqb-true, eq-eqb}
use Rattle.std.proofs.lemmas.List.Folds.{Any-from_list_any, list_any_at}
use Rattle.dcop_base.specs.Table.{has}
use Rattle.dcop_base.specs.Graph.{are_neighbours}
use Rattle.pseudotree.specs.Tree.{path_of, parent_of, children_of, is_above}
use Rattle.pseudotree.specs.Pseudotree.{is_within, touches, separator_of}
use Rattle.pseudotree.proofs.SpreadLaws.{any_in_range, range_any, above_child, within_parent, filter_same}
use Rattle.pseudotree.proofs.NestLaws.{has_filter, filter_has}
use Rattle.dcop_optimum.specs.Decomposition.{SeparatorsDecompose}
use Rattle.dcop_optimum.proofs.LineLaws.{within_cases, within_above, within_self, branch, branch_child, below_in_tree}
use Rattle.dcop_optimum.proofs.JoinLaws.{children_parent, child_named}

-- two tests, each of which passes where the other does
both_pass : (a b : Bool) → (a ≡ true → b ≡ true) → (b ≡ true → a ≡ true) → a ≡ b
both_pass true b there back = sym (there refl)
both_pass false true there back = back refl
both_pass false false there back = refl

-- some element passes where one that stands in the list does
any_has : (q : ℕ → Bool) (xs : List ℕ) (c : ℕ) → has xs c ≡ true → q c ≡ true → list_any q xs ≡ true
any_has q [] c h passes = absurd (cc)
any_has q (x ∷ xs) c h passes =
    elim (or_cases (eqb x c) (has xs c) h) [
      | inl same ↦ or_left (q x) (list_any q xs) (ap q (eqb-true x c same) ∙ passes)
      | inr later ↦ or_right (q x) (list_any q xs) (any_has q xs c later passes)
    ]

pub separators_decompose : SeparatorsDecompose
separators_decompose p paths tree i =
    filter_same (touches p paths i) (λ v. are_neighbours p i v || list_any (λ c. has (separator_of p paths c) v) (children_of paths i)) (path_of paths i) (λ k d lt.
    one (get_or (path_of paths i) k d) (list_any_at (λ y. eqb y (get_or (path_of paths i) k d)) (path_of paths i) k d lt (eq-eqb (get_or (path_of paths i) k d) (get_or (path_of paths i) k d) refl)))
  where
    one : (v : ℕ) → is_above paths v i ≡ true → touches p paths i v ≡ (are_neighbours p i v || list_any (λ c. has (separator_of p paths c) v) (children_of paths i))
    one v above =
        both_pass (touches p paths i v) (are_neighbours p i v || list_any (λ c. has (separator_of p paths c) v) (children_of paths i))
        (λ h.
        let some = range_any (λ w. is_within paths i w && are_neighbours p w v) (length paths) h in
        let parts = and_parts (is_within paths i some.0) (are_neighbours p some.0 v) some.2 in
        elim (within_cases paths i some.0 parts.0) [
          | inl same ↦
              or_left (are_neighbours p i v) (list_any (λ c. has (separator_of p paths c) v) (children_of paths i)) (ap (λ (w : ℕ). are_neighbours p w v) (sym same) ∙ parts.1)
          | inr below ↦
              let child = branch_child paths tree i some.0 below in
              let c : ℕ = branch paths i some.0 in
              let touched = any_in_range (λ w. is_within paths c w && are_neighbours p w v) (length paths) some.0 some.1 (and_from (is_within paths c some.0) (are_neighbours p some.0 v) child.1 parts.1) in
              or_right (are_neighbours p i v) (list_any (λ c. has (separator_of p paths c) v) (children_of paths i))
              (any_has (λ c. has (separator_of p paths c) v) (children_of paths i) c (child_named paths i c child.0)
              (filter_has (touches p paths c) (path_of paths c) v (above_child paths tree c i v child.0 (within_above paths v i above)) touched))
        ])
        (λ h.
        elim (or_cases (are_neighbours p i v) (list_any (λ c. has (separator_of p paths c) v) (children_of paths i)) h) [
          | inl near ↦
              any_in_range (λ w. is_within paths i w && are_neighbours p w v) (length paths) i (below_in_tree paths tree v i above)
              (and_from (is_within paths i i) (are_neighbours p i v) (within_self paths i) near)
          | inr child ↦
              let some = Any-from_list_any (λ c. has (separator_of p paths c) v) (children_of paths i) child in
              let c : ℕ = some.1 in
              let parent : parent_of paths c ≡ Some i = subst (λ (x : ℕ). parent_of paths x ≡ Some i) some.3 (children_parent paths i some.0 some.1 some.2) in
              let touched = (has_filter (touches p paths c) (path_of paths c) v some.4).1 in
              let low = range_any (λ w. is_within paths c w && are_neighbours p w v) (length paths) touched in
              let parts = and_parts (is_within paths c low.0) (are_neighbours p low.0 v) low.2 in
              any_in_range (λ w. is_within paths i w && are_neighbours p w v) (length paths) low.0 low.1
              (and_from (is_within paths i low.0) (are_neighbours p low.0 v) (within_parent paths tree c i low.0 parent parts.0) parts.1)
        ])
