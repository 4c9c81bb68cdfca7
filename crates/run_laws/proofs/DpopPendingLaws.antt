-- In a run of DPOP a message is pending until all agents have ended.
use Rattle.std.proofs.Common.{◌≡◌, ℕ, zero, suc, ◌+◌, ◌-◌, ◌*◌, ◌<◌, ◌≤◌, Bool, true, false, ◌&&◌, ◌⊎◌, if◌then◌else◌, List, [], ◌∷◌, length, Option, Some, None, refl, sym, ap, ◌∙◌, inl, inr, arith}
use Rattle.std.specs.List.{list_all, slice_get}
use Rattle.std.proofs.lemmas.Bool.{cases_Bool, cases_eq, both_ways, and_from, eq-eqb, false_from_ne_true}
use Rattle.std.proofs.lemmas.Option.{none-some}
use Rattle.dcop_base.specs.Table.{has}
use Rattle.dcop_base.specs.Problem.{Dcop}
use Rattle.dcop_base.specs.Whole.{IsProblem}
use Rattle.pseudotree.specs.Tree.{path_of, parent_of, children_of, is_variable}
use Rattle.pseudotree.specs.Pseudotree.{IsPseudotree, IsLinked}
use Rattle.pseudotree.specs.Width.{IsNarrow}
use Rattle.pseudotree.proofs.CheckLaws.{within_tree}
use Rattle.pseudotree.proofs.GatherLaws.{variable_is}
use Rattle.protocol_steps.specs.declared.message.Message.{Message}
use Rattle.protocol_steps.specs.View.{View, DpopKind, ended_of}
use Rattle.protocol_steps.specs.Network.{Network, waiting}
use Rattle.protocol_steps.specs.Effect.{pending_at, pending, SomePending, has_ended, deliveries}
use Rattle.protocol_steps.proofs.DeliveredLaws.{all_pass, one_passes}
use Rattle.dcop_optimum.proofs.JoinLaws.{child_named}
use Rattle.run_laws.specs.DpopRun.{utils, values}
use Rattle.run_laws.proofs.ListLaws.{has_head, has_tail, all_at, from_leaves, from_root}
use Rattle.run_laws.proofs.Plan.{Plan, util_of_plan, values_for_child}
use Rattle.run_laws.proofs.FullLaws.{child_is}
use Rattle.run_laws.proofs.DpopAgentLaws.{none_above}
use Rattle.run_laws.proofs.Marks.{Marks, ended_by, joined, ended, view, waits}
use Rattle.run_laws.proofs.LetterLaws.{not_both, up_waits, down_waits}
use Rattle.run_laws.proofs.DpopRunSteps.{IsAt, waits_for}
use Rattle.run_laws.proofs.DpopCountLaws.{tally_miss, tally_miss_two, tally_all, utils_are, values_are}

-- some element fails
any_fails : (q : ℕ → Bool) (xs : List ℕ) → list_all q xs ≡ false → (c : ℕ) × (has xs c ≡ true) × (q c ≡ false)
any_fails q [] h = absurd (cc)
any_fails q (x ∷ xs) h = elim (cases_Bool (q x)) [
  | inr here ↦ (x, has_head x xs, here)
  | inl passes ↦
      let some = any_fails q xs (sym (ap (λ (b : Bool). b && list_all q xs) passes) ∙ h) in
      (some.0, has_tail x xs some.0 some.1, some.2)
]

-- all numbers below m, or one that does not
all_or_one : (q : ℕ → Bool) (m : ℕ) → ((i : ℕ) → i < m → q i ≡ true) ⊎ ((i : ℕ) × (i < m) × (q i ≡ false))
all_or_one q zero = inl (λ i lt. absurd (omega (arith, lt)))
all_or_one q (suc m) = elim (all_or_one q m) [
  | inr some ↦ let lt = some.1 in inr (some.0, omega (arith, lt), some.2)
  | inl all ↦ elim (cases_Bool (q m)) [
    | inr fails ↦ inr (m, omega arith, fails)
    | inl passes ↦
        inl (λ i lt. elim (cases_eq i m) [
          | inl same ↦ ap q same ∙ passes
          | inr other ↦ all i (omega (arith, lt, other))
        ])
  ]
]

module _ (p : Dcop) (paths : List (List ℕ)) (problem : IsProblem p) (pseudo : IsPseudotree p paths) (linked : IsLinked p paths) (narrow : IsNarrow p paths) (plan : Plan p paths) where
  module _ (net : Network) (s : Marks) (is : IsAt p paths problem pseudo linked narrow plan net s) where
    abbrev n : ℕ
    n = length paths

    abbrev Pending : Type 0
    Pending = SomePending net

    -- what waits for an agent that has not ended is pending
    is_pending : (i j : ℕ) (m : Message) → i < length paths → j < length paths → ended plan s i ≡ false → waits plan s i j ≡ m ∷ [] → Pending
    is_pending i j m lt known awake one = record {
      to = i;
      from = j;
      to_agent = let size = is.count in omega (arith, lt, size);
      from_agent = let size = is.count in omega (arith, known, size);
      some = λ none. nothing (sym here ∙ none);
    } where
      here : pending net i j ≡ m ∷ []
      here =
          ap (λ (o : Option View). pending_at net i j o) (is.views i lt)
          ∙ ap (λ (b : Bool). if b then [] else waiting net.desks i j) awake
          ∙ waits_for p paths problem pseudo linked narrow plan net s is i j lt known ∙ one

      nothing : m ∷ [] ≡ [] → ⊥
      nothing e = cc

    -- a child that has joined: its UTIL was taken, or is pending
    taken_or : (i c : ℕ) → i < length paths → parent_of paths c ≡ Some i → joined plan s c ≡ true → Pending ⊎ (s.up c ≡ true)
    taken_or i c lt parent ready = elim (cases_Bool (s.up c)) [
      | inl old ↦ inr old
      | inr fresh ↦
          let asleep : ended plan s i ≡ false =
          false_from_ne_true (ended plan s i) (λ h. both_ways (s.up c) fresh (all_at s.up (children_of paths i) c (is.fit.ended_joined i h) (child_named paths i c parent))) in
          inl (is_pending i c (util_of_plan plan c) lt (within_tree paths c i parent) asleep
          (up_waits (is_variable i (parent_of paths c)) (is_variable c (parent_of paths i)) (s.up c) (s.down i) (joined plan s c) (ended plan s c) (util_of_plan plan c) (values_for_child p paths plan.value i)
          (ap (is_variable i) parent ∙ eq-eqb i i refl)
          (false_from_ne_true (is_variable c (parent_of paths i)) (λ h. not_both p paths problem pseudo linked narrow plan c i parent (variable_is c (parent_of paths i) h)))
          fresh ready))
    ]

    all_or : (xs : List ℕ) → ((c : ℕ) → has xs c ≡ true → Pending ⊎ (s.up c ≡ true)) → Pending ⊎ (list_all s.up xs ≡ true)
    all_or [] each = inr refl
    all_or (x ∷ xs) each = elim (each x (has_head x xs)) [
      | inl some ↦ inl some
      | inr here ↦ elim (all_or xs (λ c h. each c (has_tail x xs c h))) [
        | inl some ↦ inl some
        | inr rest ↦ inr (and_from (s.up x) (list_all s.up xs) here rest)
      ]
    ]

    joined_or : (i : ℕ) → i < length paths → Pending ⊎ (joined plan s i ≡ true)
    joined_or =
        from_leaves paths pseudo.tree (λ i. Pending ⊎ (joined plan s i ≡ true))
        (λ i lt below. all_or (children_of paths i) (λ c h.
        let parent = child_is paths i c h in
        elim (below c parent) [ inl some ↦ inl some | inr ready ↦ taken_or i c lt parent ready ]))

    -- an agent whose parent has ended: it took its VALUE, or this is pending
    told_or : (i w : ℕ) → i < length paths → parent_of paths i ≡ Some w → ended plan s w ≡ true → Pending ⊎ (ended plan s i ≡ true)
    told_or i w lt parent ready =
        let by : ended plan s i ≡ s.down i = ap (λ (o : Option ℕ). ended_by o (joined plan s i) (s.down i)) parent in
        elim (cases_Bool (s.down i)) [
          | inl old ↦ inr (by ∙ old)
          | inr fresh ↦
              inl (is_pending i w (values_for_child p paths plan.value i) lt (pseudo.tree.nested i w parent).0 (by ∙ fresh)
              (down_waits (is_variable i (parent_of paths w)) (is_variable w (parent_of paths i)) (s.up w) (s.down i) (joined plan s w) (ended plan s w) (util_of_plan plan w) (values_for_child p paths plan.value i)
              (false_from_ne_true (is_variable i (parent_of paths w)) (λ h. not_both p paths problem pseudo linked narrow plan i w parent (variable_is i (parent_of paths w) h)))
              (ap (is_variable w) parent ∙ eq-eqb w w refl)
              fresh ready))
        ]

    ended_or : (i : ℕ) → i < length paths → Pending ⊎ (ended plan s i ≡ true)
    ended_or =
        from_root paths pseudo.tree (λ i. Pending ⊎ (ended plan s i ≡ true))
        (λ i lt above. by i lt above (parent_of paths i) refl)
      where
        by : (i : ℕ) → i < length paths → ((u : ℕ) → parent_of paths i ≡ Some u → Pending ⊎ (ended plan s u ≡ true)) → (o : Option ℕ) → parent_of paths i ≡ o → Pending ⊎ (ended plan s i ≡ true)
        by i lt above None e = elim (joined_or i lt) [
          | inl some ↦ inl some
          | inr ready ↦ inr (ap (λ (o : Option ℕ). ended_by o (joined plan s i) (s.down i)) e ∙ ready)
        ]
        by i lt above (Some w) e = elim (above w e) [ inl some ↦ inl some | inr ready ↦ told_or i w lt e ready ]

    -- whether all have ended
    pub all_ended : ((i : ℕ) → i < length paths → ended plan s i ≡ true) → has_ended net ≡ true
    all_ended all = all_pass ended_of net.views (λ i lt.
        let size = is.count in
        let inside : i < length paths = omega (arith, lt, size) in
        (DpopKind (view plan s i), is.views i inside, all i inside))

    pub each_ended : has_ended net ≡ true → (i : ℕ) → i < length paths → ended plan s i ≡ true
    each_ended h i lt = one_passes ended_of net.views i (DpopKind (view plan s i)) h (is.views i lt)

    pub some_awake : has_ended net ≡ false → (i : ℕ) × (i < length paths) × (ended plan s i ≡ false)
    some_awake h = elim (all_or_one (ended plan s) (length paths)) [
      | inr some ↦ some
      | inl all ↦ absurd (both_ways (has_ended net) h (all_ended all))
    ]

    pub not_yet : has_ended net ≡ false → SomePending net
    not_yet h =
        let some = some_awake h in
        elim (ended_or some.0 some.1) [
          | inl is_some ↦ is_some
          | inr done ↦ absurd (both_ways (ended plan s some.0) some.2 done)
        ]

    -- the root sends no UTIL and gets no VALUE
    abbrev root : ℕ
    root = pseudo.tree.some_root.0

    no_parent : (u : ℕ) → parent_of paths root ≡ Some u → ⊥
    no_parent u e = none-some u (sym (ap none_of pseudo.tree.some_root.1.1) ∙ e)
      where
        none_of : List ℕ → Option ℕ
        none_of xs = slice_get xs (length xs - 1)

    root_up : s.up root ≡ false
    root_up = false_from_ne_true (s.up root) (λ h. let known = is.fit.up_known root h in no_parent known.0 known.1)

    root_down : s.down root ≡ false
    root_down = false_from_ne_true (s.down root) (λ h. let known = is.fit.down_known root h in no_parent known.0 known.1)

    pub few_utils : utils net + 1 ≤ length paths
    few_utils =
        let low = tally_miss s.up (length paths) root pseudo.tree.some_root.1.0 root_up in
        omega (arith, low, utils_are p paths problem pseudo linked narrow plan net s is)

    pub few_values : values net + 1 ≤ length paths
    few_values =
        let low = tally_miss s.down (length paths) root pseudo.tree.some_root.1.0 root_down in
        omega (arith, low, values_are p paths problem pseudo linked narrow plan net s is)

    pub nothing_else : deliveries net ≡ utils net + values net
    nothing_else =
        let up = utils_are p paths problem pseudo linked narrow plan net s is in
        let down = values_are p paths problem pseudo linked narrow plan net s is in
        omega (arith, up, down, is.delivered)

    -- where an agent has not ended, a message was not taken yet
    one_left : (i : ℕ) → i < length paths → ended plan s i ≡ false → (o : Option ℕ) → parent_of paths i ≡ o → (utils net + 2 ≤ length paths) ⊎ (values net + 2 ≤ length paths)
    one_left i lt awake None e =
        let some = any_fails s.up (children_of paths i) (sym (ap (λ (o : Option ℕ). ended_by o (joined plan s i) (s.down i)) e) ∙ awake) in
        let c : ℕ = some.0 in
        let parent = child_is paths i c some.1 in
        let ne : root ≡ c → ⊥ = λ q. no_parent i (ap (parent_of paths) q ∙ parent) in
        let low = tally_miss_two s.up (length paths) root c pseudo.tree.some_root.1.0 (within_tree paths c i parent) ne root_up some.2 in
        inl (omega (arith, low, utils_are p paths problem pseudo linked narrow plan net s is))
    one_left i lt awake (Some w) e =
        let fresh : s.down i ≡ false = sym (ap (λ (o : Option ℕ). ended_by o (joined plan s i) (s.down i)) e) ∙ awake in
        let ne : root ≡ i → ⊥ = λ q. no_parent w (ap (parent_of paths) q ∙ e) in
        let low = tally_miss_two s.down (length paths) root i pseudo.tree.some_root.1.0 lt ne root_down fresh in
        inr (omega (arith, low, values_are p paths problem pseudo linked narrow plan net s is))

    pub too_early : has_ended net ≡ false → deliveries net < 2 * (length paths - 1)
    too_early h =
        let some = some_awake h in
        let up = few_utils in
        let down = few_values in
        let both = nothing_else in
        elim (one_left some.0 some.1 some.2 (parent_of paths some.0) refl) [
          | inl less ↦ omega (arith, up, down, both, less)
          | inr less ↦ omega (arith, up, down, both, less)
        ]

    -- where all have ended, all messages were taken
    every_up : has_ended net ≡ true → (c : ℕ) → c < length paths → (c ≡ root → ⊥) → s.up c ≡ true
    every_up h c lt ne = by (parent_of paths c) refl
      where
        by : (o : Option ℕ) → parent_of paths c ≡ o → s.up c ≡ true
        by None e = absurd (ne (pseudo.tree.one_root c root (lt, none_above (path_of paths c) e) pseudo.tree.some_root.1))
        by (Some w) e = all_at s.up (children_of paths w) c (is.fit.ended_joined w (each_ended h w (pseudo.tree.nested c w e).0)) (child_named paths w c e)

    every_down : has_ended net ≡ true → (c : ℕ) → c < length paths → (c ≡ root → ⊥) → s.down c ≡ true
    every_down h c lt ne = by (parent_of paths c) refl
      where
        by : (o : Option ℕ) → parent_of paths c ≡ o → s.down c ≡ true
        by None e = absurd (ne (pseudo.tree.one_root c root (lt, none_above (path_of paths c) e) pseudo.tree.some_root.1))
        by (Some w) e = sym (ap (λ (o : Option ℕ). ended_by o (joined plan s c) (s.down c)) e) ∙ each_ended h c lt

    pub all_utils : has_ended net ≡ true → utils net + 1 ≡ length paths
    all_utils h =
        let all = tally_all s.up (length paths) root pseudo.tree.some_root.1.0 root_up (every_up h) in
        omega (arith, all, utils_are p paths problem pseudo linked narrow plan net s is)

    pub all_values : has_ended net ≡ true → values net + 1 ≡ length paths
    all_values h =
        let all = tally_all s.down (length paths) root pseudo.tree.some_root.1.0 root_down (every_down h) in
        omega (arith, all, values_are p paths problem pseudo linked narrow plan net s is)
