-- In preorder stands each variable of a tree once.
use Rattle.std.proofs.Common.{◌≡◌, ℕ, zero, suc, ◌+◌, ◌<◌, ◌≤◌, Bool, true, false, ◌||◌, cond, eqb, List, [], ◌∷◌, length, get_or, refl, sym, ap, ◌∙◌, inl, inr, arith}
use Rattle.std.specs.List.{flat_map, sum_by, count_by, range_with_len}
use Rattle.std.proofs.lemmas.Bool.{cases_eq, cond-true, cond-false, eqb-true, eq-eqb, ne_eqb, or_right, false_from_ne_true}
use Rattle.std.proofs.lemmas.List.{nil_from_length}
use Rattle.std.proofs.lemmas.List.Sums.{sum_by-cons, sum_by-append}
use Rattle.dcop_base.specs.Problem.{Dcop}
use Rattle.dcop_base.specs.Whole.{IsProblem}
use Rattle.pseudotree.specs.Tree.{path_of, children_of, is_above}
use Rattle.pseudotree.specs.Preorder.{subtree, roots_of, preorder_of}
use Rattle.pseudotree.specs.Pseudotree.{IsPseudotree, is_within}
use Rattle.pseudotree.proofs.TreeLaws.{longer}
use Rattle.pseudotree.proofs.NestLaws.{above_shorter}
use Rattle.pseudotree.proofs.SpreadLaws.{within_parent}
use Rattle.dcop_optimum.proofs.SumLaws.{sum_same, sum_filter, range_single}
use Rattle.dcop_optimum.proofs.LineLaws.{within_root, path_short}
use Rattle.dcop_optimum.proofs.JoinLaws.{children_parent}
use Rattle.dcop_optimum.proofs.OwnerLaws.{one_part}

or_first : (a b : Bool) → b ≡ false → (a || b) ≡ a
or_first true b none = refl
or_first false b none = none

eqb_turned : (u v : ℕ) → eqb u v ≡ eqb v u
eqb_turned u v = elim (cases_eq u v) [
  | inl same ↦ eq-eqb u v same ∙ sym (eq-eqb v u (sym same))
  | inr differs ↦ ne_eqb u v differs ∙ sym (ne_eqb v u (λ (e : v ≡ u). differs (sym e)))
]

abbrev one_if : Bool → ℕ
one_if b = cond b 1 0

-- what passes a test in lists joined end to end
count_flat : (test : ℕ → Bool) (f : ℕ → List ℕ) (xs : List ℕ) → count_by test (flat_map f xs) ≡ sum_by (λ x. count_by test (f x)) xs
count_flat test f [] = refl
count_flat test f (x ∷ xs) =
    let both = sum_by-append (λ y. cond (test y) 1 0) (f x) (flat_map f xs) in
    omega (arith, both, count_flat test f xs, sum_by-cons (λ y. count_by test (f y)) x xs)

module _ (p : Dcop) (paths : List (List ℕ)) (problem : IsProblem p) (pseudo : IsPseudotree p paths) where
  -- a subtree names what is within its variable once, so far as it has levels, and nothing else
  count_subtree : (levels v u : ℕ) → (is_within paths v u ≡ true → length (path_of paths u) ≤ length (path_of paths v) + levels)
      → count_by (λ x. eqb x u) (subtree (children_of paths) levels v) ≡ cond (is_within paths v u) 1 0
  count_subtree zero v u deep =
      let none : is_above paths v u ≡ false =
      false_from_ne_true (is_above paths v u) (λ above.
      let few = deep (or_right (eqb u v) (is_above paths v u) above) in
      let more = above_shorter paths pseudo.tree v u above in
      absurd (omega arith)) in
      let step = sum_by-cons (λ x. cond (eqb x u) 1 0) v [] in
      let turned = ap one_if (eqb_turned v u) in
      let whole = ap one_if (or_first (eqb u v) (is_above paths v u) none) in
      omega (arith, step, turned, whole)
  count_subtree (suc levels) v u deep =
      let test : ℕ → Bool = λ (x : ℕ). eqb x u in
      let below = count_flat test (subtree (children_of paths) levels) (children_of paths v) in
      let children = sum_same (λ c. count_by test (subtree (children_of paths) levels c)) (λ c. cond (is_within paths c u) 1 0) (children_of paths v) (λ k d lt.
      let c : ℕ = get_or (children_of paths v) k d in
      let parent = children_parent paths v k d lt in
      let long = longer paths pseudo.tree c v parent in
      count_subtree levels c u (λ within. let few = deep (within_parent paths pseudo.tree c v u parent within) in omega arith)) in
      let whole = one_part p paths problem pseudo v u 1 in
      let own = ap one_if (eqb_turned v u) in
      let step = sum_by-cons (λ x. cond (test x) 1 0) v (flat_map (subtree (children_of paths) levels) (children_of paths v)) in
      omega (arith, below, children, whole, own, step)

  pub preorder_once : (u : ℕ) → u < length paths → count_by (λ x. eqb x u) (preorder_of paths) ≡ 1
  preorder_once u lt =
      let test : ℕ → Bool = λ (x : ℕ). eqb x u in
      let f : ℕ → List ℕ = subtree (children_of paths) (length paths) in
      let is_root : ℕ → Bool = λ (v : ℕ). eqb (length (path_of paths v)) 0 in
      let root : ℕ = pseudo.tree.some_root.0 in
      let is = pseudo.tree.some_root.1 in
      let all = count_flat test f (roots_of paths) in
      let kept = sum_filter (λ v. count_by test (f v)) is_root (range_with_len 0 (length paths)) in
      let one : count_by test (f root) ≡ 1 =
      count_subtree (length paths) root u (λ within. let short = path_short paths pseudo.tree u lt in omega arith)
      ∙ cond-true (is_within paths root u) 1 0 (within_root paths pseudo.tree root u is lt) in
      let single = range_single (λ v. cond (is_root v) (count_by test (f v)) 0) (length paths) root 1 is.0
      (cond-true (is_root root) (count_by test (f root)) 0 (eq-eqb (length (path_of paths root)) 0 (ap length is.1)) ∙ one)
      (λ v inside differs.
      cond-false (is_root v) (count_by test (f v)) 0 (false_from_ne_true (is_root v) (λ none.
      differs (pseudo.tree.one_root v root (inside, nil_from_length (path_of paths v) (eqb-true (length (path_of paths v)) 0 none)) is)))) in
      omega (arith, all, kept, single)
