-- Paths that lead along parents with one root make a tree.
use Rattle.std.proofs.Common.{◌≡◌, ℕ, zero, suc, ◌+◌, ◌-◌, ◌<◌, Bool, true, false, not, cond, ◌&&◌, ◌||◌, eqb, List, [], ◌∷◌, ◌++◌, length, get_or, reverse, Option, Some, None, Result, Ok, Err, IfErr, refl, sym, ap, subst, ◌∙◌, inl, inr, arith}
use Rattle.std.specs.List.{slice_get, list_any, count_by}
use Rattle.std.specs.Option.{is_none}
use Rattle.std.proofs.lemmas.Bool.{cases_Bool, cases_lt, cases_order, and_parts, and_from, eq-eqb, ne_eqb, true≢false}
use Rattle.std.proofs.lemmas.Option.{same_Some, none-some}
use Rattle.std.proofs.lemmas.List.{reverse-append, reverse-reverse, length-reverse, get_or_past}
use Rattle.std.proofs.lemmas.List.FromFn.{fill_by_all}
use Rattle.std.proofs.lemmas.List.Sums.{sum_by-cons}
use Rattle.dcop_base.specs.Table.{CostTable, has}
use Rattle.dcop_base.specs.Problem.{Dcop}
use Rattle.dcop_base.specs.Graph.{share_table, are_joined, are_neighbours}
use Rattle.pseudotree.specs.Tree.{path_of, parent_of, is_above, IsTree}
use Rattle.pseudotree.specs.Pseudotree.{are_in_line}
use Rattle.pseudotree.specs.Fault.{parent_at, parents_of, root_count, IsClimb, AreParents, IsFirstFault, IsSplit, IsLeastSplit}
use Rattle.pseudotree.specs.Climb.{AreKnown, ArePaths, IsSplitFault}
use Rattle.pseudotree.specs.Marks.{AreShort, MarkTogether, mark_at, are_together}
use Rattle.pseudotree.specs.Splits.{AreApart, NoneApart, IsFirstApart}
use Rattle.pseudotree.specs.declared.fault.TreeFault.{TreeFault}
use Rattle.pseudotree.specs.declared.fault.TreeFault.TheVariants.{Roots, Loop, Pair, NoMemory}
use Rattle.pseudotree.proofs.ClimbLaws.{IsClimb-same, climb_short}
use Rattle.pseudotree.proofs.TreeLaws.{last_push}

pub known_from : (p : Dcop) (parents : List (Option ℕ)) → AreParents p parents → AreKnown parents
known_from p parents are v u h = let known = are.known v u h in let sized = are.sized in omega arith

-- a path whose way back is these variables
path_back : (path us : List ℕ) → us ≡ reverse path → path ≡ reverse us
path_back path us e = sym (reverse-reverse path) ∙ sym (ap (λ (xs : List ℕ). reverse xs) e)

back_more : (u : ℕ) (us : List ℕ) → reverse (u ∷ us) ≡ reverse us ++ (u ∷ [])
back_more u us = reverse-append (u ∷ []) us

-- the last of a path is the parent
climb_parent : (parents : List (Option ℕ)) (v : ℕ) (path us : List ℕ) → us ≡ reverse path → IsClimb parents v us → slice_get path (length path - 1) ≡ parent_at parents v
climb_parent parents v path [] e h = ap (λ (xs : List ℕ). slice_get xs (length xs - 1)) (path_back path [] e) ∙ sym h
climb_parent parents v path (u ∷ us) e h =
    ap (λ (xs : List ℕ). slice_get xs (length xs - 1)) (path_back path (u ∷ us) e ∙ back_more u us) ∙ last_push (reverse us) u ∙ sym h.0

climb_nested : (parents : List (Option ℕ)) (v w : ℕ) (path up us : List ℕ) → us ≡ reverse path → IsClimb parents v us → parent_at parents v ≡ Some w → IsClimb parents w (reverse up)
    → path ≡ up ++ (w ∷ [])
climb_nested parents v w path up [] e h parent k = absurd (none-some w (sym h ∙ parent))
climb_nested parents v w path up (u ∷ us) e h parent k =
    let same : u ≡ w = same_Some u w (sym h.0 ∙ parent) in
    let rest : us ≡ reverse up = IsClimb-same parents w us (reverse up) (subst (λ (x : ℕ). IsClimb parents x us) same h.1) k in
    path_back path (u ∷ us) e ∙ back_more u us ∙ ap (λ (xs : List ℕ). xs ++ (u ∷ [])) (sym (path_back up us rest)) ∙ ap (λ (x : ℕ). up ++ (x ∷ [])) same

climb_root : (parents : List (Option ℕ)) (v : ℕ) (path us : List ℕ) → us ≡ reverse path → IsClimb parents v us → parent_at parents v ≡ None → path ≡ []
climb_root parents v path [] e h none = path_back path [] e
climb_root parents v path (u ∷ us) e h none = absurd (none-some u (sym none ∙ h.0))

-- only a variable of the tree has a parent
pub within_tree : (paths : List (List ℕ)) (v u : ℕ) → parent_of paths v ≡ Some u → v < length paths
within_tree paths v u h =
    elim (cases_lt v (length paths)) [
      | inl lt ↦ lt
      | inr le ↦ absurd (none-some u (sym (ap (λ (xs : List ℕ). slice_get xs (length xs - 1)) (get_or_past paths v [] le)) ∙ h))
    ]

count_none : {X : Type 0} (test : X → Bool) (xs : List X) (k : ℕ) (d : X) → count_by test xs ≡ 0 → k < length xs → test (get_or xs k d) ≡ true → ⊥
count_none test [] k d e lt h = omega arith
count_none test (x ∷ xs) zero d e lt h =
    let one : count_by test (x ∷ xs) ≡ 1 + count_by test xs = sum_by-cons (λ y. cond (test y) 1 0) x xs ∙ ap (λ (b : Bool). cond b 1 0 + count_by test xs) h in omega arith
count_none test (x ∷ xs) (suc k) d e lt h =
    elim (cases_Bool (test x)) [
      | inl passes ↦ let one : count_by test (x ∷ xs) ≡ 1 + count_by test xs = sum_by-cons (λ y. cond (test y) 1 0) x xs ∙ ap (λ (b : Bool). cond b 1 0 + count_by test xs) passes in omega arith
      | inr fails ↦
          let same : count_by test (x ∷ xs) ≡ 0 + count_by test xs = sum_by-cons (λ y. cond (test y) 1 0) x xs ∙ ap (λ (b : Bool). cond b 1 0 + count_by test xs) fails in
          count_none test xs k d (omega arith) (omega arith) h
    ]

-- one element passes
count_some : {X : Type 0} (test : X → Bool) (xs : List X) (d : X) → count_by test xs ≡ 1 → (k : ℕ) × (k < length xs) × (test (get_or xs k d) ≡ true)
count_some test [] d e = absurd (omega arith)
count_some test (x ∷ xs) d e =
    elim (cases_Bool (test x)) [
      | inl passes ↦ (0, omega arith, passes)
      | inr fails ↦
          let same : count_by test (x ∷ xs) ≡ 0 + count_by test xs = sum_by-cons (λ y. cond (test y) 1 0) x xs ∙ ap (λ (b : Bool). cond b 1 0 + count_by test xs) fails in
          let rest = count_some test xs d (omega arith) in
          (suc rest.0, omega (arith, rest.1), rest.2)
    ]

count_only : {X : Type 0} (test : X → Bool) (xs : List X) (d : X) (j k : ℕ) → count_by test xs ≡ 1 → j < length xs → k < length xs → test (get_or xs j d) ≡ true → test (get_or xs k d) ≡ true → j ≡ k
count_only test [] d j k e lj lk hj hk = absurd (omega arith)
count_only test (x ∷ xs) d zero zero e lj lk hj hk = refl
count_only test (x ∷ xs) d zero (suc k) e lj lk hj hk =
    let one : count_by test (x ∷ xs) ≡ 1 + count_by test xs = sum_by-cons (λ y. cond (test y) 1 0) x xs ∙ ap (λ (b : Bool). cond b 1 0 + count_by test xs) hj in
    absurd (count_none test xs k d (omega arith) (omega arith) hk)
count_only test (x ∷ xs) d (suc j) zero e lj lk hj hk =
    let one : count_by test (x ∷ xs) ≡ 1 + count_by test xs = sum_by-cons (λ y. cond (test y) 1 0) x xs ∙ ap (λ (b : Bool). cond b 1 0 + count_by test xs) hk in
    absurd (count_none test xs j d (omega arith) (omega arith) hj)
count_only test (x ∷ xs) d (suc j) (suc k) e lj lk hj hk =
    elim (cases_Bool (test x)) [
      | inl passes ↦
          let one : count_by test (x ∷ xs) ≡ 1 + count_by test xs = sum_by-cons (λ y. cond (test y) 1 0) x xs ∙ ap (λ (b : Bool). cond b 1 0 + count_by test xs) passes in
          absurd (count_none test xs j d (omega arith) (omega arith) hj)
      | inr fails ↦
          let same : count_by test (x ∷ xs) ≡ 0 + count_by test xs = sum_by-cons (λ y. cond (test y) 1 0) x xs ∙ ap (λ (b : Bool). cond b 1 0 + count_by test xs) fails in
          ap suc (count_only test xs d j k (omega arith) (omega arith) (omega arith) hj hk)
    ]

is_none_from : {X : Type 0} (o : Option X) → is_none o ≡ true → o ≡ None
is_none_from None h = refl
is_none_from (Some x) h = absurd (true≢false (sym h))

module _ (parents : List (Option ℕ)) (known : AreKnown parents) (paths : List (List ℕ)) (are : ArePaths parents paths) where
  pub parent_is : (v : ℕ) → v < length parents → parent_of paths v ≡ parent_at parents v
  parent_is v lt = climb_parent parents v (path_of paths v) (reverse (path_of paths v)) refl (are.lead v lt)

  pub parents_are : parents ≡ parents_of paths
  parents_are =
      fill_by_all (parent_of paths) parents (length paths) None (sym are.counted)
      (λ k lt. let counted = are.counted in sym (parent_is k (omega arith)))

  pub short_from : AreShort paths
  short_from v lt =
      let counted = are.counted in
      let less : length (reverse (path_of paths v)) < length parents = climb_short parents known v (reverse (path_of paths v)) (omega arith) (are.lead v (omega arith)) in
      omega (arith, length-reverse (path_of paths v))

  pub tree_from : root_count parents ≡ 1 → IsTree paths
  tree_from one = record {
    some_root =
        let some = count_some is_none parents None one in
        let counted = are.counted in (
          some.0,
          (
            omega (arith, some.1),
            climb_root parents some.0 (path_of paths some.0) (reverse (path_of paths some.0)) refl (are.lead some.0 some.1) (is_none_from (parent_at parents some.0) some.2),
          ),
        );
    one_root = λ u v hu hv.
        let counted = are.counted in
        let lu = hu.0 in
        let lv = hv.0 in
        count_only is_none parents None u v one (omega arith) (omega arith) (root_none u (omega arith) hu.1) (root_none v (omega arith) hv.1);
    nested = λ v u h.
        let lt : v < length parents = let within = within_tree paths v u h in let counted = are.counted in omega arith in
        let parent : parent_at parents v ≡ Some u = sym (parent_is v lt) ∙ h in
        let lu : u < length parents = known v u parent in
        let counted = are.counted in (
          omega arith,
          climb_nested parents v u (path_of paths v) (path_of paths u) (reverse (path_of paths v)) refl (are.lead v lt) parent (are.lead u lu),
        );
  } where
    root_none : (v : ℕ) → v < length parents → path_of paths v ≡ [] → is_none (parent_at parents v) ≡ true
    root_none v lt e = ap is_none (sym (parent_is v lt) ∙ ap (λ (xs : List ℕ). slice_get xs (length xs - 1)) e)

any_alike : {X : Type 0} (f g : X → Bool) (xs : List X) → ((x : X) → f x ≡ g x) → list_any f xs ≡ list_any g xs
any_alike f g [] same = refl
any_alike f g (x ∷ xs) same = ap (λ (b : Bool). b || list_any f xs) (same x) ∙ ap (λ (b : Bool). g x || b) (any_alike f g xs same)

and_turned : (a b : Bool) → (a && b) ≡ (b && a)
and_turned true true = refl
and_turned true false = refl
and_turned false true = refl
and_turned false false = refl

pub or_turned : (a b : Bool) → (a || b) ≡ (b || a)
or_turned true true = refl
or_turned true false = refl
or_turned false true = refl
or_turned false false = refl

pub together_turned : (p : Dcop) (u v : ℕ) → are_together p u v ≡ are_together p v u
together_turned p u v =
    ap (λ (b : Bool). b || are_joined p.joints u v)
    (any_alike (λ (t : CostTable). has t.scope u && has t.scope v) (λ (t : CostTable). has t.scope v && has t.scope u) p.tables (λ t. and_turned (has t.scope u) (has t.scope v)))
    ∙ ap (λ (b : Bool). share_table p.tables v u || b)
    (any_alike (λ (j : ℕ × ℕ). eqb j.0 u && eqb j.1 v || eqb j.0 v && eqb j.1 u) (λ (j : ℕ × ℕ). eqb j.0 v && eqb j.1 u || eqb j.0 u && eqb j.1 v) p.joints
    (λ j. or_turned (eqb j.0 u && eqb j.1 v) (eqb j.0 v && eqb j.1 u)))

-- where no marked pair is apart, all neighbours are ancestor and descendant
pub in_line_from : (p : Dcop) (paths : List (List ℕ)) (marks : List ℕ) → length paths ≡ length p.sizes → MarkTogether p marks → NoneApart paths marks
    → (u v : ℕ) → u < length p.sizes → v < length p.sizes → are_neighbours p u v ≡ true → are_in_line paths u v ≡ true
in_line_from p paths marks count m none u v lu lv h =
    let parts = and_parts (not (eqb u v)) (are_together p u v) h in
    elim (cases_order u v) [
      | inl same ↦ absurd (true≢false (sym parts.0 ∙ ap not (eq-eqb u v same)))
      | inr differ ↦
          elim differ [
            | inl less ↦ ordered u v less lv parts.1
            | inr more ↦ or_turned (is_above paths u v) (is_above paths v u) ∙ ordered v u more lu (together_turned p v u ∙ parts.1)
          ]
    ] where
      ordered : (a b : ℕ) → a < b → b < length p.sizes → are_together p a b ≡ true → are_in_line paths a b ≡ true
      ordered a b less lb together =
          elim (cases_Bool (are_in_line paths a b)) [
            | inl line ↦ line
            | inr apart ↦
                absurd (none a b (record {
                  ordered = less;
                  within = omega arith;
                  marked = ap (λ (n : ℕ). mark_at n marks a b) count ∙ m.marked a b (omega arith) lb ∙ together;
                  apart = apart;
                }))
          ]

-- the least marked pair that is apart is the least split
pub least_split : (p : Dcop) (paths : List (List ℕ)) (marks : List ℕ) → length paths ≡ length p.sizes → MarkTogether p marks
    → (pair : ℕ × ℕ) → IsFirstApart paths marks pair → IsLeastSplit p paths pair.0 pair.1
least_split p paths marks count m pair first = record {
  split = split_of pair.0 pair.1 first.second.apart;
  lower = λ u v s. first.first u v (apart_of u v s);
  higher = λ v s. first.second.first v (apart_of pair.0 v s);
} where
  same_mark : (u v : ℕ) → u < length paths → v < length paths → mark_at (length paths) marks u v ≡ are_together p u v
  same_mark u v lu lv = ap (λ (n : ℕ). mark_at n marks u v) count ∙ m.marked u v (omega arith) (omega arith)

  split_of : (u v : ℕ) → AreApart paths marks u v → IsSplit p paths u v
  split_of u v a =
      let ordered = a.ordered in
      let within = a.within in record {
        ordered = ordered;
        within = omega arith;
        neighbours = and_from (not (eqb u v)) (are_together p u v) (ap not (ne_eqb u v (λ (e : u ≡ v). omega arith))) (sym (same_mark u v (omega arith) within) ∙ a.marked);
        apart = a.apart;
      }

  apart_of : (u v : ℕ) → IsSplit p paths u v → AreApart paths marks u v
  apart_of u v s =
      let ordered = s.ordered in
      let within = s.within in
      let parts = and_parts (not (eqb u v)) (are_together p u v) s.neighbours in record {
        ordered = ordered;
        within = omega arith;
        marked = same_mark u v (omega arith) (omega arith) ∙ parts.1;
        apart = s.apart;
      }

-- a split of the paths of a tree with these parents is the first fault
pub split_fault : (p : Dcop) (parents : List (Option ℕ)) (paths : List (List ℕ)) → IsTree paths → parents ≡ parents_of paths → (e : TreeFault) → IsSplitFault p paths e → IsFirstFault p parents e
split_fault p parents paths tree are (Roots count) h = absurd h
split_fault p parents paths tree are (Loop var) h = absurd h
split_fault p parents paths tree are (Pair one other) h = record { paths = paths; tree = tree; parents_are = are; least = h }
split_fault p parents paths tree are NoMemory h = tt

pub err_then : {T E : Type 0} (r : Result T E) (P Q : E → Type 0) → IfErr r P → ((e : E) → P e → Q e) → IfErr r Q
err_then (Ok x) P Q h f = tt
err_then (Err e) P Q h f = f e h
