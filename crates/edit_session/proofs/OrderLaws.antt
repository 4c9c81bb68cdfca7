-- The preorder of a tree: children stand behind their parent, no ancestor stands behind, and each variable counts once.
use Rattle.std.proofs.Common.{◌≡◌, ℕ, zero, suc, ◌+◌, ◌<◌, ◌≤◌, Bool, true, false, cond, ◌||◌, eqb, List, [], ◌∷◌, ◌++◌, length, drop, get_or, Some, refl, sym, ap, subst, ◌∙◌, inl, inr, arith}
use Rattle.std.specs.List.{flat_map, range_with_len, sum_by}
use Rattle.std.proofs.lemmas.Bool.{cond-true, cond-false, both_ways, or_cases, or_parts, or_left, or_right, eqb-true, eq-eqb, ne_eqb, false_from_ne_true}
use Rattle.std.proofs.lemmas.List.{append-nil, nil_from_length}
use Rattle.std.proofs.lemmas.List.Folds.{list_any-append}
use Rattle.std.proofs.lemmas.List.Sums.{sum_by-cons, sum_by-append}
use Rattle.dcop_base.specs.Table.{has, has_repeat}
use Rattle.dcop_base.specs.Problem.{Dcop}
use Rattle.dcop_base.specs.Whole.{IsProblem}
use Rattle.pseudotree.specs.Tree.{path_of, parent_of, children_of, is_variable, is_above}
use Rattle.pseudotree.specs.Pseudotree.{IsPseudotree, is_within}
use Rattle.pseudotree.specs.Preorder.{subtree, roots_of, preorder_of}
use Rattle.pseudotree.proofs.CheckLaws.{within_tree}
use Rattle.pseudotree.proofs.TreeLaws.{longer}
use Rattle.pseudotree.proofs.SpreadLaws.{any_in_range, range_any}
use Rattle.pseudotree.proofs.OrderLaws.{range_below}
use Rattle.pseudotree.proofs.NestLaws.{has_filter, filter_has, above_shorter}
use Rattle.dcop_optimum.proofs.SumLaws.{sum_same, sum_both, sum_zeros, range_single}
use Rattle.dcop_optimum.proofs.LineLaws.{within_self, within_cases, within_above, within_within, within_root, not_both, branch_is, below_child, path_short}
use Rattle.dcop_optimum.proofs.JoinLaws.{children_parent, child_named}
use Rattle.dcop_optimum.proofs.OwnerLaws.{one_part}
use Rattle.run_laws.proofs.ListLaws.{has_head, has_tail, filter_distinct}
use Rattle.run_laws.proofs.FullLaws.{child_is}

-- what stands in lists joined end to end stands in that of some element
in_flat_map : (f : ℕ → List ℕ) (xs : List ℕ) (u : ℕ) → has (flat_map f xs) u ≡ true → (c : ℕ) × (has xs c ≡ true) × (has (f c) u ≡ true)
in_flat_map f [] u h = absurd (cc)
in_flat_map f (x ∷ xs) u h =
    elim (or_cases (has (f x) u) (has (flat_map f xs) u) (sym (list_any-append (λ y. eqb y u) (f x) (flat_map f xs)) ∙ h)) [
      | inl here ↦ (x, has_head x xs, here)
      | inr later ↦ let rest = in_flat_map f xs u later in (rest.0, has_tail x xs rest.0 rest.1, rest.2)
    ]

-- and what stands in that of an element stands in all of them together
has_flat_map : (f : ℕ → List ℕ) (xs : List ℕ) (c u : ℕ) → has xs c ≡ true → has (f c) u ≡ true → has (flat_map f xs) u ≡ true
has_flat_map f [] c u h k = absurd (cc)
has_flat_map f (x ∷ xs) c u h k =
    list_any-append (λ y. eqb y u) (f x) (flat_map f xs)
    ∙ elim (or_cases (eqb x c) (has xs c) h) as (λ (_ : _). (has (f x) u || has (flat_map f xs) u) ≡ true) [
      | inl same ↦ or_left (has (f x) u) (has (flat_map f xs) u) (ap (λ (y : ℕ). has (f y) u) (eqb-true x c same) ∙ k)
      | inr later ↦ or_right (has (f x) u) (has (flat_map f xs) u) (has_flat_map f xs c u later k)
    ]

-- a list of different numbers that are all one number
only_one : (r : ℕ) (xs : List ℕ) → has_repeat xs ≡ false → has xs r ≡ true → ((x : ℕ) → has xs x ≡ true → x ≡ r) → xs ≡ r ∷ []
only_one r [] apart some all = absurd (cc)
only_one r (x ∷ []) apart some all = ap (λ (y : ℕ). y ∷ []) (all x (has_head x []))
only_one r (x ∷ y ∷ ys) apart some all =
    let first = all x (has_head x (y ∷ ys)) in
    let second = all y (has_tail x (y ∷ ys) y (has_head y ys)) in
    let parts = or_parts (has (y ∷ ys) x) (has_repeat (y ∷ ys)) apart in
    absurd (both_ways (has (y ∷ ys) x) parts.0 (subst (λ (z : ℕ). has (y ∷ ys) z ≡ true) (second ∙ sym first) (has_head y ys)))

-- sums in either order
sum_swap : (h : ℕ → ℕ → ℕ) (us cs : List ℕ) → sum_by (λ u. sum_by (h u) cs) us ≡ sum_by (λ c. sum_by (λ u. h u c) us) cs
sum_swap h us [] = sum_zeros (λ (u : ℕ). 0) us (λ u. refl)
sum_swap h us (c ∷ cs) =
    let both = sum_both (λ u. sum_by (h u) (c ∷ cs)) (λ u. h u c) (λ u. sum_by (h u) cs) us (λ u. sum_by-cons (h u) c cs) in
    let rest = sum_swap h us cs in
    let step = sum_by-cons (λ d. sum_by (λ u. h u d) us) c cs in
    omega (arith, both, rest, step)

sum_flat : (g : ℕ → ℕ) (f : ℕ → List ℕ) (xs : List ℕ) → sum_by g (flat_map f xs) ≡ sum_by (λ x. sum_by g (f x)) xs
sum_flat g f [] = refl
sum_flat g f (x ∷ xs) =
    let both = sum_by-append g (f x) (flat_map f xs) in
    let rest = sum_flat g f xs in
    let step = sum_by-cons (λ y. sum_by g (f y)) x xs in
    omega (arith, both, rest, step)

module _ (p : Dcop) (paths : List (List ℕ)) (problem : IsProblem p) (pseudo : IsPseudotree p paths) where
  -- each variable's children stand behind it
  abbrev AreBehind : List ℕ → Type 0
  AreBehind [] = Unit {0}
  AreBehind (v ∷ vs) = ((c : ℕ) → parent_of paths c ≡ Some v → has vs c ≡ true) × AreBehind vs

  behind_append : (xs ys : List ℕ) → AreBehind xs → AreBehind ys → AreBehind (xs ++ ys)
  behind_append [] ys a b = b
  behind_append (x ∷ xs) ys a b = (λ c parent. list_any-append (λ y. eqb y c) xs ys ∙ or_left (has xs c) (has ys c) (a.0 c parent), behind_append xs ys a.1 b)

  behind_flat : (f : ℕ → List ℕ) (xs : List ℕ) → ((c : ℕ) → has xs c ≡ true → AreBehind (f c)) → AreBehind (flat_map f xs)
  behind_flat f [] each = tt
  behind_flat f (x ∷ xs) each = behind_append (f x) (flat_map f xs) (each x (has_head x xs)) (behind_flat f xs (λ c h. each c (has_tail x xs c h)))

  head_there : (levels v : ℕ) → has (subtree (children_of paths) levels v) v ≡ true
  head_there zero v = has_head v []
  head_there (suc levels) v = has_head v (flat_map (subtree (children_of paths) levels) (children_of paths v))

  behind_subtree : (levels v : ℕ) → length paths ≤ levels + suc (length (path_of paths v)) → AreBehind (subtree (children_of paths) levels v)
  behind_subtree zero v deep =
      let none : (c : ℕ) → parent_of paths c ≡ Some v → has [] c ≡ true = λ c parent.
      let long = longer paths pseudo.tree c v parent in
      let short = path_short paths pseudo.tree c (within_tree paths c v parent) in
      absurd (omega (arith, deep, long, short)) in
      (none, tt)
  behind_subtree (suc levels) v deep = (
    λ c parent. has_flat_map (subtree (children_of paths) levels) (children_of paths v) c c (child_named paths v c parent) (head_there levels c),
    behind_flat (subtree (children_of paths) levels) (children_of paths v) (λ c h.
        let long = longer paths pseudo.tree c v (child_is paths v c h) in
        behind_subtree levels c (omega (arith, deep, long))),
  )

  -- a subtree names what is within its variable
  named_within : (levels v u : ℕ) → has (subtree (children_of paths) levels v) u ≡ true → is_within paths v u ≡ true
  named_within zero v u h = elim (or_cases (eqb v u) false h) [
    | inl same ↦ subst (λ (x : ℕ). is_within paths v x ≡ true) (eqb-true v u same) (within_self paths v)
    | inr none ↦ absurd (cc)
  ]
  named_within (suc levels) v u h = elim (or_cases (eqb v u) (has (flat_map (subtree (children_of paths) levels) (children_of paths v)) u) h) [
    | inl same ↦ subst (λ (x : ℕ). is_within paths v x ≡ true) (eqb-true v u same) (within_self paths v)
    | inr later ↦
        let some = in_flat_map (subtree (children_of paths) levels) (children_of paths v) u later in
        let parent = child_is paths v some.0 some.1 in
        within_above paths v u (below_child paths pseudo.tree v some.0 u parent (named_within levels some.0 u some.2))
  ]

  -- no ancestor stands behind
  abbrev NoneAbove : List ℕ → Type 0
  NoneAbove [] = Unit {0}
  NoneAbove (v ∷ vs) = ((u : ℕ) → has vs u ≡ true → is_above paths u v ≡ false) × NoneAbove vs

  none_append : (xs ys : List ℕ) → NoneAbove xs → NoneAbove ys → ((x y : ℕ) → has xs x ≡ true → has ys y ≡ true → is_above paths y x ≡ false) → NoneAbove (xs ++ ys)
  none_append [] ys a b apart = b
  none_append (x ∷ xs) ys a b apart = (
    λ u h. elim (or_cases (has xs u) (has ys u) (sym (list_any-append (λ y. eqb y u) xs ys) ∙ h)) [
      | inl here ↦ a.0 u here
      | inr later ↦ apart x u (has_head x xs) later
    ],
    none_append xs ys a.1 b (λ z y h k. apart z y (has_tail x xs z h) k),
  )

  -- what is within one child is not above what is within another
  children_apart : (v c d x y : ℕ) → parent_of paths c ≡ Some v → parent_of paths d ≡ Some v → (c ≡ d → ⊥) → is_within paths c x ≡ true → is_within paths d y ≡ true → is_above paths y x ≡ false
  children_apart v c d x y of_c of_d ne in_c in_d =
      false_from_ne_true (is_above paths y x) (λ above.
      let both = within_within paths pseudo.tree d y x in_d (within_above paths y x above) in
      ne (sym (branch_is paths pseudo.tree v c x of_c in_c) ∙ branch_is paths pseudo.tree v d x of_d both))

  none_flat : (levels v : ℕ) (xs : List ℕ) → has_repeat xs ≡ false → ((c : ℕ) → has xs c ≡ true → parent_of paths c ≡ Some v)
      → ((c : ℕ) → has xs c ≡ true → NoneAbove (subtree (children_of paths) levels c)) → NoneAbove (flat_map (subtree (children_of paths) levels) xs)
  none_flat levels v [] apart of each = tt
  none_flat levels v (x ∷ xs) apart of each =
      let parts = or_parts (has xs x) (has_repeat xs) apart in
      none_append (subtree (children_of paths) levels x) (flat_map (subtree (children_of paths) levels) xs) (each x (has_head x xs))
      (none_flat levels v xs parts.1 (λ c h. of c (has_tail x xs c h)) (λ c h. each c (has_tail x xs c h)))
      (λ z y h k.
      let some = in_flat_map (subtree (children_of paths) levels) xs y k in
      children_apart v x some.0 z y (of x (has_head x xs)) (of some.0 (has_tail x xs some.0 some.1))
      (λ (e : x ≡ some.0). both_ways (has xs x) parts.0 (subst (λ (w : ℕ). has xs w ≡ true) (sym e) some.1)) (named_within levels x z h) (named_within levels some.0 y some.2))

  none_subtree : (levels v : ℕ) → NoneAbove (subtree (children_of paths) levels v)
  none_subtree zero v = (λ u h. absurd (cc), tt)
  none_subtree (suc levels) v = (
    λ u h.
        let some = in_flat_map (subtree (children_of paths) levels) (children_of paths v) u h in
        let within = within_above paths v u (below_child paths pseudo.tree v some.0 u (child_is paths v some.0 some.1) (named_within levels some.0 u some.2)) in
        false_from_ne_true (is_above paths u v) (λ above. not_both paths pseudo.tree v u above within),
    none_flat levels v (children_of paths v) (filter_distinct (λ c. is_variable v (parent_of paths c)) (length paths) 0) (λ c h. child_is paths v c h) (λ c h. none_subtree levels c),
  )

  abbrev root : ℕ
  root = pseudo.tree.some_root.0

  -- there is one root
  roots_are : roots_of paths ≡ root ∷ []
  roots_are =
      let is = pseudo.tree.some_root.1 in
      let test : ℕ → Bool = λ (v : ℕ). eqb (length (path_of paths v)) 0 in
      only_one root (roots_of paths) (filter_distinct test (length paths) 0)
      (filter_has test (range_with_len 0 (length paths)) root (any_in_range (λ y. eqb y root) (length paths) root is.0 (eq-eqb root root refl)) (eq-eqb (length (path_of paths root)) 0 (ap length is.1)))
      (λ x h.
      let parts = has_filter test (range_with_len 0 (length paths)) x h in
      let some = range_any (λ y. eqb y x) (length paths) parts.0 in
      let inside : x < length paths = subst (λ (y : ℕ). y < length paths) (eqb-true some.0 x some.2) some.1 in
      pseudo.tree.one_root x root (inside, nil_from_length (path_of paths x) (eqb-true (length (path_of paths x)) 0 parts.1)) is)

  -- so the preorder is the subtree of the root
  preorder_is : preorder_of paths ≡ subtree (children_of paths) (length paths) root
  preorder_is = ap (λ (rs : List ℕ). flat_map (subtree (children_of paths) (length paths)) rs) roots_are ∙ append-nil (subtree (children_of paths) (length paths) root)

  behind_at : (xs : List ℕ) (k c : ℕ) → AreBehind xs → k < length xs → parent_of paths c ≡ Some (get_or xs k 0) → has (drop (suc k) xs) c ≡ true
  behind_at [] k c are lt parent = absurd (omega (arith, lt))
  behind_at (x ∷ xs) zero c are lt parent = are.0 c parent
  behind_at (x ∷ xs) (suc k) c are lt parent = behind_at xs k c are.1 (omega (arith, lt)) parent

  -- the children of a variable stand behind it in preorder
  pub children_behind : (k c : ℕ) → k < length (preorder_of paths) → parent_of paths c ≡ Some (get_or (preorder_of paths) k 0) → has (drop (suc k) (preorder_of paths)) c ≡ true
  children_behind k c lt parent =
      behind_at (preorder_of paths) k c (subst AreBehind (sym preorder_is) (behind_subtree (length paths) root (omega arith))) lt parent

  none_at : (xs : List ℕ) (k m : ℕ) → NoneAbove xs → k < m → m < length xs → is_above paths (get_or xs m 0) (get_or xs k 0) ≡ false
  none_at [] k m are before lt = absurd (omega (arith, lt))
  none_at (x ∷ xs) k zero are before lt = absurd (omega (arith, before))
  none_at (x ∷ xs) zero (suc m) are before lt = are.0 (get_or xs m 0) (stands xs m (omega (arith, lt)))
    where
      stands : (ys : List ℕ) (m : ℕ) → m < length ys → has ys (get_or ys m 0) ≡ true
      stands [] m lt = absurd (omega (arith, lt))
      stands (y ∷ ys) zero lt = has_head y ys
      stands (y ∷ ys) (suc m) lt = has_tail y ys (get_or ys m 0) (stands ys m (omega (arith, lt)))
  none_at (x ∷ xs) (suc k) (suc m) are before lt = none_at xs k m are.1 (omega (arith, before)) (omega (arith, lt))

  -- no ancestor of a variable stands behind it in preorder
  pub none_above_behind : (k m : ℕ) → k < m → m < length (preorder_of paths) → is_above paths (get_or (preorder_of paths) m 0) (get_or (preorder_of paths) k 0) ≡ false
  none_above_behind k m before lt = none_at (preorder_of paths) k m (subst NoneAbove (sym preorder_is) (none_subtree (length paths) root)) before lt

  -- a sum over a subtree counts what is within its variable
  sum_subtree : (g : ℕ → ℕ) (levels v : ℕ) → v < length paths → length paths ≤ levels + suc (length (path_of paths v))
      → sum_by g (subtree (children_of paths) levels v) ≡ sum_by (λ u. cond (is_within paths v u) (g u) 0) (range_with_len 0 (length paths))
  sum_subtree g zero v lt deep =
      let single = range_single (λ u. cond (is_within paths v u) (g u) 0) (length paths) v (g v) lt (cond-true (is_within paths v v) (g v) 0 (within_self paths v))
      (λ u inside ne.
      cond-false (is_within paths v u) (g u) 0 (false_from_ne_true (is_within paths v u) (λ within.
      elim (within_cases paths v u within) [
        | inl same ↦ ne same
        | inr above ↦
            let short = path_short paths pseudo.tree u inside in
            let more = above_shorter paths pseudo.tree v u above in
            absurd (omega (arith, short, more, deep))
      ]))) in
      let step = sum_by-cons g v [] in
      omega (arith, single, step)
  sum_subtree g (suc levels) v lt deep =
      let n : List ℕ = range_with_len 0 (length paths) in
      let xs : List ℕ = children_of paths v in
      let f : ℕ → List ℕ = subtree (children_of paths) levels in
      let flat = sum_flat g f xs in
      let children = sum_same (λ c. sum_by g (f c)) (λ c. sum_by (λ u. cond (is_within paths c u) (g u) 0) n) xs (λ k d l.
      let c : ℕ = get_or xs k d in
      let parent = children_parent paths v k d l in
      let long = longer paths pseudo.tree c v parent in
      sum_subtree g levels c (within_tree paths c v parent) (omega (arith, deep, long))) in
      let both = sum_both (λ u. cond (is_within paths v u) (g u) 0) (λ u. cond (eqb u v) (g u) 0) (λ u. sum_by (λ c. cond (is_within paths c u) (g u) 0) xs) n (λ u. one_part p paths problem pseudo v u (g u)) in
      let own = range_single (λ u. cond (eqb u v) (g u) 0) (length paths) v (g v) lt (cond-true (eqb v v) (g v) 0 (eq-eqb v v refl)) (λ u inside ne. cond-false (eqb u v) (g u) 0 (ne_eqb u v ne)) in
      let swap = sum_swap (λ u c. cond (is_within paths c u) (g u) 0) n xs in
      let step = sum_by-cons g v (flat_map f xs) in
      omega (arith, flat, children, both, own, swap, step)

  -- a sum over the preorder is one over all variables
  pub sum_preorder : (g : ℕ → ℕ) → sum_by g (preorder_of paths) ≡ sum_by g (range_with_len 0 (length paths))
  sum_preorder g =
      let is = pseudo.tree.some_root.1 in
      ap (λ (vs : List ℕ). sum_by g vs) preorder_is
      ∙ sum_subtree g (length paths) root is.0 (omega arith)
      ∙ sum_in_range (λ u. cond (is_within paths root u) (g u) 0) g (length paths) (λ u lt. cond-true (is_within paths root u) (g u) 0 (within_root paths pseudo.tree root u is lt))
    where
      sum_in_range : (f g : ℕ → ℕ) (n : ℕ) → ((u : ℕ) → u < n → f u ≡ g u) → sum_by f (range_with_len 0 n) ≡ sum_by g (range_with_len 0 n)
      sum_in_range f g n same = sum_same f g (range_with_len 0 n) (λ k d lt. same (get_or (range_with_len 0 n) k d) (range_below n k d lt))
