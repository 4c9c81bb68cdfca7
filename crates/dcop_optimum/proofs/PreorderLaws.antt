-- The preorder of a tree: it names each variable, and where lists of values in it differ first.
use Rattle.std.proofs.Common.{◌≡◌, ℕ, zero, suc, ◌+◌, ◌<◌, ◌≤◌, ◌⊎◌, true, false, ◌||◌, eqb, List, [], ◌∷◌, ◌++◌, length, get_or, refl, sym, ap, subst, ◌∙◌, inl, inr, arith, All}
use Rattle.std.specs.List.{flat_map, range_with_len}
use Rattle.std.proofs.lemmas.Bool.{or_cases, or_left, or_right, eqb-true, eq-eqb}
use Rattle.std.proofs.lemmas.List.{map-append, length-map}
use Rattle.std.proofs.lemmas.List.Folds.{list_any-append}
use Rattle.std.proofs.lemmas.List.Elements.{All-nil, All-cons, All-head, All-tail, All-append, filter_passes}
use Rattle.dcop_base.specs.Table.{has, values_at}
use Rattle.pseudotree.specs.Tree.{path_of, parent_of, children_of, is_variable, is_above, IsTree}
use Rattle.pseudotree.specs.Pseudotree.{is_within}
use Rattle.pseudotree.specs.Preorder.{subtree, roots_of, preorder_of}
use Rattle.pseudotree.proofs.CheckLaws.{within_tree}
use Rattle.pseudotree.proofs.TreeLaws.{longer}
use Rattle.pseudotree.proofs.SpreadLaws.{any_in_range, above_parent}
use Rattle.pseudotree.proofs.OrderLaws.{filter_below}
use Rattle.pseudotree.proofs.NestLaws.{filter_has, above_shorter}
use Rattle.dcop_optimum.specs.Optimum.{IsBefore}
use Rattle.dcop_optimum.specs.TreeOptimum.{in_preorder}
use Rattle.dcop_optimum.proofs.LineLaws.{within_cases, branch, branch_child, within_root, path_short}
use Rattle.dcop_optimum.proofs.JoinLaws.{children_parent, child_named}

-- what stands in the list of one element stands in all lists together
has_flat_map : (f : ℕ → List ℕ) (xs : List ℕ) (c u : ℕ) → has xs c ≡ true → has (f c) u ≡ true → has (flat_map f xs) u ≡ true
has_flat_map f [] c u h k = absurd (cc)
has_flat_map f (x ∷ xs) c u h k =
    list_any-append (λ y. eqb y u) (f x) (flat_map f xs)
    ∙ elim (or_cases (eqb x c) (has xs c) h) as (λ (_ : _). (has (f x) u || has (flat_map f xs) u) ≡ true) [
      | inl same ↦ or_left (has (f x) u) (has (flat_map f xs) u) (ap (λ (y : ℕ). has (f y) u) (eqb-true x c same) ∙ k)
      | inr later ↦ or_right (has (f x) u) (has (flat_map f xs) u) (has_flat_map f xs c u later k)
    ]

-- what holds of the elements of each list holds of all together
All-flat_map : (P : ℕ → Type 0) (f : ℕ → List ℕ) (xs : List ℕ) → All (λ x. All P (f x)) xs → All P (flat_map f xs)
All-flat_map P f [] all = All-nil P
All-flat_map P f (x ∷ xs) all =
    All-append P (f x) (flat_map f xs) (All-head (λ x. All P (f x)) x xs all) (All-flat_map P f xs (All-tail (λ x. All P (f x)) x xs all))

module _ (paths : List (List ℕ)) (tree : IsTree paths) where
  -- a subtree names what is within its variable, so far as it has levels
  has_subtree : (levels v u : ℕ) → is_within paths v u ≡ true → length (path_of paths u) ≤ length (path_of paths v) + levels → has (subtree (children_of paths) levels v) u ≡ true
  has_subtree zero v u within deep =
      elim (within_cases paths v u within) [
        | inl same ↦ or_left (eqb v u) false (eq-eqb v u (sym same))
        | inr above ↦ absurd (omega (arith, deep, above_shorter paths tree v u above))
      ]
  has_subtree (suc levels) v u within deep =
      elim (within_cases paths v u within) [
        | inl same ↦ or_left (eqb v u) (has (flat_map (subtree (children_of paths) levels) (children_of paths v)) u) (eq-eqb v u (sym same))
        | inr above ↦
            let child = branch_child paths tree v u above in
            let c : ℕ = branch paths v u in
            let long = longer paths tree c v child.0 in
            or_right (eqb v u) (has (flat_map (subtree (children_of paths) levels) (children_of paths v)) u)
            (has_flat_map (subtree (children_of paths) levels) (children_of paths v) c u (child_named paths v c child.0) (has_subtree levels c u child.1 (omega (arith, deep, long))))
      ]

  -- the preorder names each variable
  pub has_preorder : (v : ℕ) → v < length paths → has (preorder_of paths) v ≡ true
  has_preorder v lt =
      let root : ℕ = tree.some_root.0 in
      let is = tree.some_root.1 in
      let named : has (roots_of paths) root ≡ true =
      filter_has (λ v. eqb (length (path_of paths v)) 0) (range_with_len 0 (length paths)) root
      (any_in_range (λ y. eqb y root) (length paths) root is.0 (eq-eqb root root refl))
      (eq-eqb (length (path_of paths root)) 0 (ap length is.1)) in
      has_flat_map (subtree (children_of paths) (length paths)) (roots_of paths) root v named
      (has_subtree (length paths) root v (within_root paths tree root v is lt) (omega (arith, path_short paths tree v lt)))

-- a subtree names variables only
subtree_below : (paths : List (List ℕ)) (levels v : ℕ) → v < length paths → All (λ u. u < length paths) (subtree (children_of paths) levels v)
subtree_below paths zero v lt = All-cons (λ u. u < length paths) v [] lt (All-nil (λ u. u < length paths))
subtree_below paths (suc levels) v lt =
    All-cons (λ u. u < length paths) v (flat_map (subtree (children_of paths) levels) (children_of paths v)) lt
    (All-flat_map (λ u. u < length paths) (subtree (children_of paths) levels) (children_of paths v)
    (λ k d l. subtree_below paths levels (get_or (children_of paths v) k d) (filter_below (λ c. is_variable v (parent_of paths c)) (length paths) k d l)))

-- so does the preorder
pub preorder_below : (paths : List (List ℕ)) → All (λ u. u < length paths) (preorder_of paths)
preorder_below paths =
    All-flat_map (λ u. u < length paths) (subtree (children_of paths) (length paths)) (roots_of paths)
    (λ k d l. subtree_below paths (length paths) (get_or (roots_of paths) k d) (filter_below (λ v. eqb (length (path_of paths v)) 0) (length paths) k d l))

-- of two lists in two parts each, the first parts decide or else the second ones
before_parts : (xs ys us vs : List ℕ) → length xs ≡ length ys → IsBefore (xs ++ us) (ys ++ vs) → IsBefore xs ys ⊎ IsBefore us vs
before_parts [] [] us vs long before = inr before
before_parts [] (y ∷ ys) us vs long before = absurd (omega (arith, long))
before_parts (x ∷ xs) [] us vs long before = absurd (omega (arith, long))
before_parts (x ∷ xs) (y ∷ ys) us vs long before =
    elim before [
      | inl lower ↦ inl (inl lower)
      | inr same ↦
          elim (before_parts xs ys us vs (omega (arith, long)) same.1) [
            | inl rest ↦ inl (inr (same.0, rest))
            | inr rest ↦ inr rest
          ]
    ]

-- where values over lists joined end to end stand before others, they do over one of the lists
before_flat_map : (R : Type 0) (f : ℕ → List ℕ) (xs a b : List ℕ) → All (λ x. IsBefore (values_at (f x) a) (values_at (f x) b) → R) xs
    → IsBefore (values_at (flat_map f xs) a) (values_at (flat_map f xs) b) → R
before_flat_map R f [] a b each before = absurd before
before_flat_map R f (x ∷ xs) a b each before =
    let left = map-append (λ v. get_or a v 0) (f x) (flat_map f xs) in
    let right = map-append (λ v. get_or b v 0) (f x) (flat_map f xs) in
    let parts : IsBefore (values_at (f x) a ++ values_at (flat_map f xs) a) (values_at (f x) b ++ values_at (flat_map f xs) b) =
    subst (λ (ys : List ℕ). IsBefore (values_at (f x) a ++ values_at (flat_map f xs) a) ys) right
    (subst (λ (ys : List ℕ). IsBefore ys (values_at (f x ++ flat_map f xs) b)) left before) in
    elim (before_parts (values_at (f x) a) (values_at (f x) b) (values_at (flat_map f xs) a) (values_at (flat_map f xs) b)
    (length-map (f x) (λ v. get_or a v 0) ∙ sym (length-map (f x) (λ v. get_or b v 0))) parts) [
      | inl here ↦ All-head (λ x. IsBefore (values_at (f x) a) (values_at (f x) b) → R) x xs each here
      | inr later ↦ before_flat_map R f xs a b (All-tail (λ x. IsBefore (values_at (f x) a) (values_at (f x) b) → R) x xs each) later
    ]

-- a variable at which one list has the lower value, while both have the same values above it
pub record IsLowerAt (paths : List (List ℕ)) (a b : List ℕ) (i : ℕ) : Type 0 where
  pub inside : i < length paths
  pub lower : get_or a i 0 < get_or b i 0
  pub same : (u : ℕ) → is_above paths u i ≡ true → get_or a u 0 ≡ get_or b u 0

module _ (paths : List (List ℕ)) (tree : IsTree paths) (a b : List ℕ) where
  before_subtree : (levels v : ℕ) → v < length paths → ((u : ℕ) → is_above paths u v ≡ true → get_or a u 0 ≡ get_or b u 0)
      → IsBefore (values_at (subtree (children_of paths) levels v) a) (values_at (subtree (children_of paths) levels v) b) → (i : ℕ) × IsLowerAt paths a b i
  before_subtree zero v lt same before =
      elim before [
        | inl lower ↦ (v, record { inside = lt; lower = lower; same = same })
        | inr rest ↦ absurd rest.1
      ]
  before_subtree (suc levels) v lt same before =
      elim before [
        | inl lower ↦ (v, record { inside = lt; lower = lower; same = same })
        | inr rest ↦
            before_flat_map ((i : ℕ) × IsLowerAt paths a b i) (subtree (children_of paths) levels) (children_of paths v) a b
            (λ k d l.
            let c : ℕ = get_or (children_of paths v) k d in
            let parent = children_parent paths v k d l in
            before_subtree levels c (within_tree paths c v parent) (λ u above.
            elim (within_cases paths u v (above_parent paths tree c v u parent above)) [
              | inl here ↦ subst (λ (x : ℕ). get_or a x 0 ≡ get_or b x 0) here rest.0
              | inr upper ↦ same u upper
            ]))
            rest.1
      ]

  -- values that stand before others in preorder are lower at some variable, and the same above it
  pub before_preorder : IsBefore (in_preorder paths a) (in_preorder paths b) → (i : ℕ) × IsLowerAt paths a b i
  before_preorder before =
      before_flat_map ((i : ℕ) × IsLowerAt paths a b i) (subtree (children_of paths) (length paths)) (roots_of paths) a b
      (λ k d l.
      let root : ℕ = get_or (roots_of paths) k d in
      let none : length (path_of paths root) ≡ 0 = eqb-true (length (path_of paths root)) 0 (filter_passes (λ v. eqb (length (path_of paths v)) 0) (range_with_len 0 (length paths)) k d l) in
      before_subtree (length paths) root (filter_below (λ v. eqb (length (path_of paths v)) 0) (length paths) k d l)
      (λ u above. absurd (omega (arith, none, above_shorter paths tree u root above))))
      before
