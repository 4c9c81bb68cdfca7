-- Variables of one path: which stands above which, and the child on the way down.
use Rattle.std.proofs.Common.{◌≡◌, ℕ, ◌+◌, ◌-◌, ◌<◌, ◌⊎◌, true, eqb, List, [], ◌∷◌, ◌++◌, length, get_or, take, Some, refl, sym, ap, subst, ◌∙◌, inl, inr, arith}
use Rattle.std.specs.List.{slice_get, list_any}
use Rattle.std.proofs.lemmas.Bool.{cases_lt, cases_order, or_cases, or_left, or_right, eqb-true, eq-eqb, ne_eqb, true≢false}
use Rattle.std.proofs.lemmas.Option.{same_Some, slice_get-get_or, slice_get_within, get_or_from_slice_get}
use Rattle.std.proofs.lemmas.List.{get_or_append_left, get_or_default, get_or_at, get_or-take, get_or_past, length-append, length-take-le, nil_from_length}
use Rattle.std.proofs.lemmas.List.Folds.{Any-from_list_any}
use Rattle.std.proofs.lemmas.Map.Keys.{IsDistinct-from_apart}
use Rattle.std.proofs.lemmas.Map.Steps.{length-le_from_distinct_below}
use Rattle.dcop_base.specs.Table.{has}
use Rattle.pseudotree.specs.Tree.{path_of, parent_of, is_above, IsRoot, IsTree}
use Rattle.pseudotree.specs.Pseudotree.{is_within}
use Rattle.pseudotree.proofs.TreeLaws.{longer, last_there, ancestor, above_at, at_above}
use Rattle.pseudotree.proofs.SpreadLaws.{above_child, above_above}
use Rattle.pseudotree.proofs.NestLaws.{above_shorter}

-- each variable is within itself
pub within_self : (paths : List (List ℕ)) (v : ℕ) → is_within paths v v ≡ true
within_self paths v = or_left (eqb v v) (is_above paths v v) (eq-eqb v v refl)

-- what is within a variable is it or below it
pub within_cases : (paths : List (List ℕ)) (i v : ℕ) → is_within paths i v ≡ true → (v ≡ i) ⊎ (is_above paths i v ≡ true)
within_cases paths i v h = elim (or_cases (eqb v i) (is_above paths i v) h) [ inl same ↦ inl (eqb-true v i same) | inr above ↦ inr above ]

pub within_above : (paths : List (List ℕ)) (i v : ℕ) → is_above paths i v ≡ true → is_within paths i v ≡ true
within_above paths i v h = or_right (eqb v i) (is_above paths i v) h

-- the child of i on the way down to v
abbrev pub branch : List (List ℕ) → ℕ → ℕ → ℕ
branch paths i v = get_or (path_of paths v ++ (v ∷ [])) (length (path_of paths i) + 1) 0

module _ (paths : List (List ℕ)) (tree : IsTree paths) where
  -- what stands above a variable is not within it
  pub not_both : (i v : ℕ) → is_above paths v i ≡ true → is_within paths i v ≡ true → ⊥
  not_both i v h k =
      let less = above_shorter paths tree v i h in
      elim (within_cases paths i v k) [
        | inl same ↦ let long : length (path_of paths v) ≡ length (path_of paths i) = ap (λ (x : ℕ). length (path_of paths x)) same in omega arith
        | inr above ↦ let more = above_shorter paths tree i v above in omega arith
      ]

  -- the path of an ancestor begins the path
  pub front : (a v : ℕ) → is_above paths a v ≡ true → path_of paths a ≡ take (length (path_of paths a)) (path_of paths v)
  front a v h =
      let at = above_at paths tree a v h in
      let inside = slice_get_within (path_of paths v) (length (path_of paths a)) a at in
      let is : get_or (path_of paths v) (length (path_of paths a)) 0 ≡ a = get_or_from_slice_get (path_of paths v) (length (path_of paths a)) a 0 at in
      ap (λ (x : ℕ). path_of paths x) (sym is) ∙ (ancestor paths tree v (length (path_of paths a)) inside).1

  -- of two ancestors the one with the shorter path stands above the other
  higher : (u i o : ℕ) → is_above paths u o ≡ true → is_above paths i o ≡ true → length (path_of paths u) < length (path_of paths i) → is_above paths u i ≡ true
  higher u i o hu hi lt =
      let at = above_at paths tree u o hu in
      let k : ℕ = length (path_of paths u) in
      let is : get_or (path_of paths o) k 0 ≡ u = get_or_from_slice_get (path_of paths o) k u 0 at in
      let here : get_or (path_of paths i) k 0 ≡ u =
      ap (λ (xs : List ℕ). get_or xs k 0) (front i o hi) ∙ get_or-take (length (path_of paths i)) (path_of paths o) k 0 lt ∙ is in
      at_above paths i k u (slice_get-get_or (path_of paths i) k 0 lt ∙ ap (λ (x : ℕ). Some x) here)

  -- two ancestors with paths of one length are one
  same_depth : (u i o : ℕ) → is_above paths u o ≡ true → is_above paths i o ≡ true → length (path_of paths u) ≡ length (path_of paths i) → u ≡ i
  same_depth u i o hu hi e =
      same_Some u i (sym (above_at paths tree u o hu) ∙ ap (λ (k : ℕ). slice_get (path_of paths o) k) e ∙ above_at paths tree i o hi)

  -- of two variables above or at a third one, one is above the other or within it
  pub in_line : (u i o : ℕ) → is_within paths u o ≡ true → is_within paths i o ≡ true → (is_above paths u i ≡ true) ⊎ (is_within paths i u ≡ true)
  in_line u i o hu hi =
      elim (within_cases paths u o hu) [
        | inl last ↦ inr (subst (λ (x : ℕ). is_within paths i x ≡ true) last hi)
        | inr above ↦
            elim (within_cases paths i o hi) [
              | inl last ↦ inl (subst (λ (x : ℕ). is_above paths u x ≡ true) last above)
              | inr above' ↦
                  elim (cases_order (length (path_of paths u)) (length (path_of paths i))) [
                    | inl same ↦ inr (subst (λ (x : ℕ). is_within paths i x ≡ true) (sym (same_depth u i o above above' same)) (within_self paths i))
                    | inr orders ↦
                        elim orders [
                          | inl shorter ↦ inl (higher u i o above above' shorter)
                          | inr longer_one ↦ inr (within_above paths i u (higher i u o above' above longer_one))
                        ]
                  ]
            ]
      ]

  -- what is within a variable that is within another one is within that
  pub within_within : (a u v : ℕ) → is_within paths a u ≡ true → is_within paths u v ≡ true → is_within paths a v ≡ true
  within_within a u v h k =
      elim (within_cases paths u v k) [
        | inl same ↦ subst (λ (x : ℕ). is_within paths a x ≡ true) (sym same) h
        | inr above ↦
            elim (within_cases paths a u h) [
              | inl same ↦ subst (λ (x : ℕ). is_within paths x v ≡ true) same (within_above paths u v above)
              | inr above' ↦ within_above paths a v (above_above paths tree a u v above' above)
            ]
      ]

  -- a variable below i is within a child of i, which is the branch
  pub branch_child : (i v : ℕ) → is_above paths i v ≡ true → (parent_of paths (branch paths i v) ≡ Some i) × (is_within paths (branch paths i v) v ≡ true)
  branch_child i v h =
      let k : ℕ = length (path_of paths i) in
      let at = above_at paths tree i v h in
      let inside : k < length (path_of paths v) = above_shorter paths tree i v h in
      elim (cases_lt (k + 1) (length (path_of paths v))) [
        | inl more ↦
            let here : branch paths i v ≡ get_or (path_of paths v) (k + 1) 0 = get_or_append_left (path_of paths v) (v ∷ []) 0 (k + 1) more in
            let path : path_of paths (branch paths i v) ≡ take (k + 1) (path_of paths v) = ap (λ (x : ℕ). path_of paths x) here ∙ (ancestor paths tree v (k + 1) more).1 in
            let long : length (path_of paths (branch paths i v)) ≡ k + 1 = ap length path ∙ length-take-le (k + 1) (path_of paths v) (omega arith) in
            let last : get_or (path_of paths (branch paths i v)) k 0 ≡ i =
            ap (λ (xs : List ℕ). get_or xs k 0) path ∙ get_or-take (k + 1) (path_of paths v) k 0 (omega arith)
            ∙ get_or_from_slice_get (path_of paths v) k i 0 at in
            let place : length (path_of paths (branch paths i v)) - 1 ≡ k = omega (arith, long) in (
              last_there (path_of paths (branch paths i v)) (omega (arith, long))
                  ∙ ap (λ (j : ℕ). Some (get_or (path_of paths (branch paths i v)) j 0)) place ∙ ap (λ (x : ℕ). Some x) last,
              within_above paths (branch paths i v) v
                  (at_above paths v (k + 1) (branch paths i v) (slice_get-get_or (path_of paths v) (k + 1) 0 more ∙ ap (λ (x : ℕ). Some x) (sym here))),
            )
        | inr end ↦
            let here : branch paths i v ≡ v = get_or_at (path_of paths v) v [] 0 (k + 1) (omega arith) in
            let place : length (path_of paths v) - 1 ≡ k = omega arith in (
              ap (λ (x : ℕ). parent_of paths x) here ∙ ap (λ (j : ℕ). slice_get (path_of paths v) j) place ∙ at,
              subst (λ (x : ℕ). is_within paths x v ≡ true) (sym here) (within_self paths v),
            )
      ]

  -- a child of i within which v stands is the branch
  pub branch_is : (i c v : ℕ) → parent_of paths c ≡ Some i → is_within paths c v ≡ true → branch paths i v ≡ c
  branch_is i c v parent h =
      let long = longer paths tree c i parent in
      let place : length (path_of paths i) + 1 ≡ length (path_of paths c) = omega (arith, long) in
      ap (λ (k : ℕ). get_or (path_of paths v ++ (v ∷ [])) k 0) place
      ∙ elim (within_cases paths c v h) as (λ (_ : _). get_or (path_of paths v ++ (v ∷ [])) (length (path_of paths c)) 0 ≡ c) [
        | inl same ↦ get_or_at (path_of paths v) v [] 0 (length (path_of paths c)) (ap (λ (x : ℕ). length (path_of paths x)) same) ∙ same
        | inr above ↦
            get_or_append_left (path_of paths v) (v ∷ []) 0 (length (path_of paths c)) (above_shorter paths tree c v above)
            ∙ get_or_from_slice_get (path_of paths v) (length (path_of paths c)) c 0 (above_at paths tree c v above)
      ]

  -- what is within a child of i is below i
  pub below_child : (i c v : ℕ) → parent_of paths c ≡ Some i → is_within paths c v ≡ true → is_above paths i v ≡ true
  below_child i c v parent h =
      let up = above_child paths tree c i i parent (within_self paths i) in
      elim (within_cases paths c v h) [
        | inl same ↦ subst (λ (x : ℕ). is_above paths i x ≡ true) (sym same) up
        | inr above ↦ above_above paths tree i c v up above
      ]

  -- every variable of the tree is within the root
  pub within_root : (root v : ℕ) → IsRoot paths root → v < length paths → is_within paths root v ≡ true
  within_root root v is lt =
      elim (cases_lt 0 (length (path_of paths v))) [
        | inl some ↦
            let top = ancestor paths tree v 0 some in
            let first : get_or (path_of paths v) 0 0 ≡ root = tree.one_root (get_or (path_of paths v) 0 0) root (top.0, top.1) is in
            within_above paths root v (at_above paths v 0 root (slice_get-get_or (path_of paths v) 0 0 some ∙ ap (λ (x : ℕ). Some x) first))
        | inr none ↦
            let same : v ≡ root = tree.one_root v root (lt, nil_from_length (path_of paths v) (omega arith)) is in
            subst (λ (x : ℕ). is_within paths root x ≡ true) (sym same) (within_self paths root)
      ]

  -- only a variable of the tree stands below another one
  pub below_in_tree : (i v : ℕ) → is_above paths i v ≡ true → v < length paths
  below_in_tree i v h =
      elim (cases_lt v (length paths)) [
        | inl lt ↦ lt
        | inr past ↦
            let none : path_of paths v ≡ [] = get_or_past paths v [] past in
            let nowhere : has [] i ≡ true = sym (ap (λ (xs : List ℕ). has xs i) none) ∙ h in
            absurd (true≢false (sym nowhere))
      ]

  -- what stands above a variable is a variable of the tree
  pub above_in_tree : (a v : ℕ) → is_above paths a v ≡ true → a < length paths
  above_in_tree a v h =
      let at = above_at paths tree a v h in
      let k : ℕ = length (path_of paths a) in
      let inside = slice_get_within (path_of paths v) k a at in
      let is : get_or (path_of paths v) k 0 ≡ a = get_or_from_slice_get (path_of paths v) k a 0 at in
      subst (λ (x : ℕ). x < length paths) is (ancestor paths tree v k inside).0

  -- on the way from the root to a variable, and at it, each one's depth is its place
  line_at : (v k d : ℕ) → v < length paths → k < length (path_of paths v) + 1
      → (length (path_of paths (get_or (path_of paths v ++ (v ∷ [])) k d)) ≡ k) × (get_or (path_of paths v ++ (v ∷ [])) k d < length paths)
  line_at v k d lt inside =
      elim (cases_lt k (length (path_of paths v))) [
        | inl before ↦
            let is : get_or (path_of paths v ++ (v ∷ [])) k d ≡ get_or (path_of paths v) k 0 =
            get_or_append_left (path_of paths v) (v ∷ []) d k before ∙ get_or_default (path_of paths v) k d 0 before in
            let up = ancestor paths tree v k before in (
              ap (λ (x : ℕ). length (path_of paths x)) is ∙ ap length up.1 ∙ length-take-le k (path_of paths v) (omega arith),
              subst (λ (x : ℕ). x < length paths) (sym is) up.0,
            )
        | inr last ↦
            let here : length (path_of paths v) ≡ k = omega arith in
            let is : get_or (path_of paths v ++ (v ∷ [])) k d ≡ v = get_or_at (path_of paths v) v [] d k here in (
              ap (λ (x : ℕ). length (path_of paths x)) is ∙ here,
              subst (λ (x : ℕ). x < length paths) (sym is) lt,
            )
      ]

  -- a path is shorter than the list of variables
  pub path_short : (v : ℕ) → v < length paths → length (path_of paths v) < length paths
  path_short v lt =
      let line : List ℕ = path_of paths v ++ (v ∷ []) in
      let long : length line ≡ length (path_of paths v) + 1 = length-append (path_of paths v) (v ∷ []) in
      let distinct = IsDistinct-from_apart eqb line (λ i j d before inside.
      ne_eqb (get_or line i d) (get_or line j d) (λ (e : get_or line i d ≡ get_or line j d).
      let at_i = line_at v i d lt (omega (arith, before, inside, long)) in
      let at_j = line_at v j d lt (omega (arith, inside, long)) in
      let same : length (path_of paths (get_or line i d)) ≡ length (path_of paths (get_or line j d)) = ap (λ (x : ℕ). length (path_of paths x)) e in
      absurd (omega (arith, before, at_i.0, at_j.0, same)))) in
      let below : (q : ℕ) → list_any (eqb q) line ≡ true → q < length paths = λ q h.
      let some = Any-from_list_any (eqb q) line h in
      let at = line_at v some.0 some.1 lt (omega (arith, some.2, long)) in
      subst (λ (x : ℕ). x < length paths) (sym (eqb-true q some.1 some.4 ∙ sym some.3)) at.1 in
      omega (arith, long, length-le_from_distinct_below line (length paths) distinct below)
