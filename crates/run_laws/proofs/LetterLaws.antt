-- One message of a run of DPOP: what it changes.
use Rattle.std.proofs.Common.{◌≡◌, ℕ, ◌+◌, ◌<◌, Bool, true, false, cond, ◌&&◌, ◌||◌, ◌⊎◌, eqb, List, [], ◌∷◌, ◌++◌, map, length, drop, Option, Some, None, refl, sym, ap, ap₂, subst, ◌∙◌, inl, inr, arith}
use Rattle.std.proofs.lemmas.Bool.{cases_Bool, cases_eq, both_ways, eqb-true, eq-eqb, ne_eqb, and_right, or_parts, false_from_ne_true}
use Rattle.std.proofs.lemmas.Option.{same_Some}
use Rattle.std.proofs.lemmas.List.{append-nil, length-append}
use Rattle.dcop_base.specs.Table.{CostTable, has, has_repeat}
use Rattle.dcop_base.specs.Problem.{Dcop}
use Rattle.dcop_base.specs.Whole.{IsProblem}
use Rattle.pseudotree.specs.Tree.{parent_of, children_of, is_variable}
use Rattle.pseudotree.specs.Pseudotree.{IsPseudotree, IsLinked}
use Rattle.pseudotree.specs.Width.{IsNarrow}
use Rattle.pseudotree.proofs.TreeLaws.{longer}
use Rattle.pseudotree.proofs.CheckLaws.{within_tree}
use Rattle.pseudotree.proofs.GatherLaws.{variable_is}
use Rattle.protocol_steps.specs.declared.message.Message.{Message}
use Rattle.protocol_steps.specs.Agent.{Stepped, quiet}
use Rattle.protocol_steps.specs.Dpop.{DpopView}
use Rattle.protocol_steps.specs.DpopStep.{dpop_message}
use Rattle.protocol_steps.specs.Network.{messages_to}
use Rattle.protocol_steps.proofs.TallyLaws.{tally, tally_more}
use Rattle.dcop_optimum.proofs.JoinLaws.{child_named}
use Rattle.run_laws.proofs.ListLaws.{same_truth, map_alike, filter_distinct, all_at, all_alike, all_from, mark, mark_here, mark_else, mark_kept}
use Rattle.run_laws.proofs.Plan.{view_with, kept_if, Plan, util_of_plan, values_for_child, decided, joins}
use Rattle.run_laws.proofs.FullLaws.{child_is}
use Rattle.run_laws.proofs.DpopAgentLaws.{kept_full, join_is, util_taken, value_taken}
use Rattle.run_laws.proofs.Marks.{Marks, told, ended_by, one_if, joined, ended, view_by, view, messages, sent, past, waits, IsFit, taken}

-- the messages to one receiver, where each receiver has one
to_each : (g : ℕ → Message) (xs : List ℕ) (u : ℕ) → has_repeat xs ≡ false → messages_to u (map (λ c. (c, g c)) xs) ≡ told (has xs u) (g u)
to_each g [] u apart = refl
to_each g (x ∷ xs) u apart =
    let parts = or_parts (has xs x) (has_repeat xs) apart in
    elim (cases_Bool (eqb x u)) [
      | inl same ↦
          let here : x ≡ u = eqb-true x u same in
          let none : has xs u ≡ false = subst (λ (w : ℕ). has xs w ≡ false) here parts.0 in
          ap (λ (b : Bool). cond b (g x ∷ []) [] ++ messages_to u (map (λ c. (c, g c)) xs)) same
          ∙ ap (λ (ms : List Message). g x ∷ ms) (to_each g xs u parts.1 ∙ ap (λ (b : Bool). told b (g u)) none)
          ∙ ap (λ (w : ℕ). g w ∷ []) here
          ∙ sym (ap (λ (b : Bool). told (b || has xs u) (g u)) same)
      | inr other ↦
          ap (λ (b : Bool). cond b (g x ∷ []) [] ++ messages_to u (map (λ c. (c, g c)) xs)) other
          ∙ to_each g xs u parts.1
          ∙ sym (ap (λ (b : Bool). told (b || has xs u) (g u)) other)
    ]

and_true : (a : Bool) → (a && true) ≡ a
and_true true = refl
and_true false = refl

pub told_none : (a b : Bool) (m : Message) → b ≡ false → told (a && b) m ≡ []
told_none a b m h = ap (λ (c : Bool). told c m) (and_right a b h)

-- what waits, by whether one is the other's child, and what was taken and sent
abbrev waits_at : Bool → Bool → Bool → Bool → Bool → Bool → Message → Message → List Message
waits_at a b u d J E U V = drop (length (told (a && u) U ++ told (b && d) V)) (told (a && J) U ++ told (b && E) V)

up_taken : (a b u d J E : Bool) (U V : Message) → a ≡ true → b ≡ false → u ≡ true → J ≡ true → waits_at a b u d J E U V ≡ []
up_taken a b u d J E U V ha hb hu hJ = rw (ha, hb, hu, hJ) refl

pub up_waits : (a b u d J E : Bool) (U V : Message) → a ≡ true → b ≡ false → u ≡ false → J ≡ true → waits_at a b u d J E U V ≡ U ∷ []
up_waits a b u d J E U V ha hb hu hJ = rw (ha, hb, hu, hJ) refl

up_none : (a b u d J E : Bool) (U V : Message) → a ≡ true → b ≡ false → u ≡ false → J ≡ false → waits_at a b u d J E U V ≡ []
up_none a b u d J E U V ha hb hu hJ = rw (ha, hb, hu, hJ) refl

down_taken : (a b u d J E : Bool) (U V : Message) → a ≡ false → b ≡ true → d ≡ true → E ≡ true → waits_at a b u d J E U V ≡ []
down_taken a b u d J E U V ha hb hd hE = rw (ha, hb, hd, hE) refl

pub down_waits : (a b u d J E : Bool) (U V : Message) → a ≡ false → b ≡ true → d ≡ false → E ≡ true → waits_at a b u d J E U V ≡ V ∷ []
down_waits a b u d J E U V ha hb hd hE = rw (ha, hb, hd, hE) refl

down_none : (a b u d J E : Bool) (U V : Message) → a ≡ false → b ≡ true → d ≡ false → E ≡ false → waits_at a b u d J E U V ≡ []
down_none a b u d J E U V ha hb hd hE = rw (ha, hb, hd, hE) refl

pub no_link : (a b u d J E : Bool) (U V : Message) → a ≡ false → b ≡ false → waits_at a b u d J E U V ≡ []
no_link a b u d J E U V ha hb = rw (ha, hb) refl

mark_cases : (f : ℕ → Bool) (c x : ℕ) → mark f c x ≡ true → (x ≡ c) ⊎ (f x ≡ true)
mark_cases f c x h = elim (cases_eq x c) [
  | inl same ↦ inl same
  | inr ne ↦ inr (sym (mark_else f c x ne) ∙ h)
]

pub one_more : (f : ℕ → Bool) (n c : ℕ) → c < n → f c ≡ false → tally (λ x. one_if (mark f c x)) n ≡ tally (λ x. one_if (f x)) n + 1
one_more f n c lt fresh =
    tally_more (λ x. one_if (f x)) (λ x. one_if (mark f c x)) n c 1 lt
    (ap one_if (mark_here f c) ∙ ap (λ (b : Bool). one_if b + 1) (sym fresh)) (λ x ne. ap one_if (mark_else f c x ne))

module _ (p : Dcop) (paths : List (List ℕ)) (problem : IsProblem p) (pseudo : IsPseudotree p paths) (linked : IsLinked p paths) (narrow : IsNarrow p paths) (plan : Plan p paths) where
  abbrev n : ℕ
  n = length paths

  pub not_both : (i j : ℕ) → parent_of paths i ≡ Some j → parent_of paths j ≡ Some i → ⊥
  not_both i j up down = let a = longer paths pseudo.tree i j up in let b = longer paths pseudo.tree j i down in omega (arith, a, b)

  parent_has : (i u : ℕ) → has (children_of paths i) u ≡ is_variable i (parent_of paths u)
  parent_has i u =
      same_truth (has (children_of paths i) u) (is_variable i (parent_of paths u))
      (λ h. ap (is_variable i) (child_is paths i u h) ∙ eq-eqb i i refl)
      (λ h. child_named paths i u (variable_is i (parent_of paths u) h))

  values_told : (i u : ℕ) → messages_to u (decided plan i).sends ≡ told (is_variable i (parent_of paths u)) (values_for_child p paths plan.value u)
  values_told i u =
      to_each (values_for_child p paths plan.value) (children_of paths i) u (filter_distinct (λ d. is_variable i (parent_of paths d)) (length paths) 0)
      ∙ ap (λ (b : Bool). told b (values_for_child p paths plan.value u)) (parent_has i u)

  -- what an agent without its values has done
  abbrev after_join : ℕ → Bool → Option ℕ → List (Option CostTable) → Stepped DpopView
  after_join i b o kept = cond b (joins plan i o) (quiet (view_with p paths i false kept None 0))

  view_shown : (i : ℕ) (b : Bool) (o : Option ℕ) (kept : List (Option CostTable)) → (b ≡ true → kept ≡ map (λ c. Some (plan.table c)) (children_of paths i))
      → (after_join i b o kept).view ≡ view_by plan i b (ended_by o b false) kept
  view_shown i false None kept full = refl
  view_shown i false (Some u) kept full = refl
  view_shown i true None kept full = ap (λ (ys : List (Option CostTable)). view_by plan i true true ys) (sym (full refl))
  view_shown i true (Some u) kept full = ap (λ (ys : List (Option CostTable)). view_by plan i true false ys) (sym (full refl))

  sent_shown : (i : ℕ) (b : Bool) (o : Option ℕ) (kept : List (Option CostTable)) (u : ℕ)
      → messages_to u (after_join i b o kept).sends ≡ told (is_variable u o && b) (util_of_plan plan i) ++ told (is_variable i (parent_of paths u) && ended_by o b false) (values_for_child p paths plan.value u)
  sent_shown i false None kept u = sym (told_none (is_variable i (parent_of paths u)) false (values_for_child p paths plan.value u) refl)
  sent_shown i false (Some w) kept u =
      sym (ap₂ (λ (xs : List Message) (ys : List Message). xs ++ ys) (told_none (eqb w u) false (util_of_plan plan i) refl) (told_none (is_variable i (parent_of paths u)) false (values_for_child p paths plan.value u) refl))
  sent_shown i true None kept u =
      values_told i u ∙ ap (λ (b : Bool). told b (values_for_child p paths plan.value u)) (sym (and_true (is_variable i (parent_of paths u))))
  sent_shown i true (Some w) kept u =
      sym (ap₂ (λ (xs : List Message) (ys : List Message). xs ++ ys) (ap (λ (b : Bool). told b (util_of_plan plan i)) (and_true (eqb w u)))
      (told_none (is_variable i (parent_of paths u)) false (values_for_child p paths plan.value u) refl))

  -- an agent after its join shows the marks
  pub record IsShown (s : Marks) (i : ℕ) (x : Stepped DpopView) : Type 0 where
    pub view_is : x.view ≡ view plan s i
    pub sent_is : (u : ℕ) → messages_to u x.sends ≡ sent plan s i u

  pub shown : (s : Marks) (i : ℕ) → s.down i ≡ false → IsShown s i (after_join i (joined plan s i) (parent_of paths i) (map (kept_if plan.table s.up) (children_of paths i)))
  shown s i fresh =
      let kept : List (Option CostTable) = map (kept_if plan.table s.up) (children_of paths i) in
      let b : Bool = joined plan s i in
      let o : Option ℕ = parent_of paths i in
      record {
        view_is =
            view_shown i b o kept (kept_full plan.table s.up (children_of paths i))
            ∙ ap (λ (d : Bool). view_by plan i b (ended_by o b d) kept) (sym fresh);
        sent_is = λ u. sent_shown i b o kept u ∙ ap (λ (d : Bool). messages plan i u b (ended_by o b d)) (sym fresh);
      }

  -- what one message changes: agent i has taken the next message of agent j
  pub record IsTaken (s : Marks) (i j : ℕ) (x : Stepped DpopView) : Type 0 where
    pub next : Marks
    pub fit : IsFit plan next
    pub view_is : x.view ≡ view plan next i
    pub sent_is : (u : ℕ) → sent plan next i u ≡ sent plan s i u ++ messages_to u x.sends
    pub other_view : (k : ℕ) → (k ≡ i → ⊥) → view plan next k ≡ view plan s k
    pub other_sent : (k u : ℕ) → (k ≡ i → ⊥) → sent plan next k u ≡ sent plan s k u
    pub here : length (past plan next i j) ≡ length (past plan s i j) + 1
    pub elsewhere : (k l : ℕ) → ((k ≡ i) × (l ≡ j) → ⊥) → past plan next k l ≡ past plan s k l
    pub count : taken plan n next ≡ taken plan n s + 1

  -- UTIL of child c
  module _ (s : Marks) (fit : IsFit plan s) (i c : ℕ) (lt : i < length paths) (parent : parent_of paths c ≡ Some i) (ready : joined plan s c ≡ true) (fresh : s.up c ≡ false) where
    abbrev upper : Marks
    upper = record { up = mark s.up c; down = s.down }

    not_joined : joined plan s i ≡ false
    not_joined = false_from_ne_true (joined plan s i) (λ h. both_ways (s.up c) fresh (all_at s.up (children_of paths i) c h (child_named paths i c parent)))

    not_ended : ended plan s i ≡ false
    not_ended = false_from_ne_true (ended plan s i) (λ h. both_ways (joined plan s i) not_joined (fit.ended_joined i h))

    not_down : s.down i ≡ false
    not_down = false_from_ne_true (s.down i) (λ h.
        let known = fit.down_known i h in
        both_ways (ended plan s i) not_ended (ap (λ (o : Option ℕ). ended_by o (joined plan s i) (s.down i)) known.1 ∙ h))

    abbrev util_step : Stepped DpopView
    util_step = dpop_message (view plan s i) c (util_of_plan plan c)

    step_is : util_step ≡ after_join i (joined plan upper i) (parent_of paths i) (map (kept_if plan.table upper.up) (children_of paths i))
    step_is =
        ap₂ (λ (b : Bool) (e : Bool). dpop_message (view_by plan i b e (map (kept_if plan.table s.up) (children_of paths i))) c (util_of_plan plan c)) not_joined not_ended
        ∙ util_taken p paths problem pseudo linked narrow plan i c lt parent s.up fresh
        ∙ join_is p paths problem pseudo linked narrow plan i lt (mark s.up c)

    only_here : (k x : ℕ) → (k ≡ i → ⊥) → has (children_of paths k) x ≡ true → x ≡ c → ⊥
    only_here k x ne h same = ne (same_Some k i (sym (child_is paths k x h) ∙ ap (parent_of paths) same ∙ parent))

    joined_else : (k : ℕ) → (k ≡ i → ⊥) → joined plan upper k ≡ joined plan s k
    joined_else k ne = all_alike (mark s.up c) s.up (children_of paths k) (λ x h. mark_else s.up c x (only_here k x ne h))

    joined_more : (k : ℕ) → joined plan s k ≡ true → joined plan upper k ≡ true
    joined_more k h = all_from (mark s.up c) (children_of paths k) (λ x inside. mark_kept s.up c x (all_at s.up (children_of paths k) x h inside))

    ended_more : (k : ℕ) → ended plan s k ≡ true → ended plan upper k ≡ true
    ended_more k h = by (parent_of paths k) h
      where
        by : (o : Option ℕ) → ended_by o (joined plan s k) (s.down k) ≡ true → ended_by o (joined plan upper k) (s.down k) ≡ true
        by None h = joined_more k h
        by (Some u) h = h

    ended_back : (k : ℕ) → ended plan upper k ≡ true → joined plan upper k ≡ true
    ended_back k h = by (parent_of paths k) refl h
      where
        by : (o : Option ℕ) → parent_of paths k ≡ o → ended_by o (joined plan upper k) (s.down k) ≡ true → joined plan upper k ≡ true
        by None e h = h
        by (Some u) e h = joined_more k (fit.ended_joined k (ap (λ (o : Option ℕ). ended_by o (joined plan s k) (s.down k)) e ∙ h))

    upper_fit : IsFit plan upper
    upper_fit = record {
      up_joined = λ d h. elim (mark_cases s.up c d h) [
        | inl same ↦ joined_more d (ap (joined plan s) same ∙ ready)
        | inr old ↦ joined_more d (fit.up_joined d old)
      ];
      up_known = λ d h. elim (mark_cases s.up c d h) [
        | inl same ↦ (i, ap (parent_of paths) same ∙ parent)
        | inr old ↦ fit.up_known d old
      ];
      down_ended = λ d u h is. ended_more u (fit.down_ended d u h is);
      down_known = fit.down_known;
      ended_joined = ended_back;
    }

    past_after : past plan upper i c ≡ util_of_plan plan c ∷ []
    past_after =
        ap₂ (λ (xs : List Message) (ys : List Message). xs ++ ys)
        (ap₂ (λ (a : Bool) (b : Bool). told (a && b) (util_of_plan plan c)) (ap (is_variable i) parent ∙ eq-eqb i i refl) (mark_here s.up c))
        (told_none (is_variable c (parent_of paths i)) (s.down i) (values_for_child p paths plan.value i) not_down)

    past_before : past plan s i c ≡ []
    past_before =
        ap₂ (λ (xs : List Message) (ys : List Message). xs ++ ys)
        (told_none (is_variable i (parent_of paths c)) (s.up c) (util_of_plan plan c) fresh)
        (told_none (is_variable c (parent_of paths i)) (s.down i) (values_for_child p paths plan.value i) not_down)

    past_else : (k l : ℕ) → ((k ≡ i) × (l ≡ c) → ⊥) → past plan upper k l ≡ past plan s k l
    past_else k l ne = ap (λ (xs : List Message). xs ++ told (is_variable l (parent_of paths k) && s.down k) (values_for_child p paths plan.value k)) (elim (cases_eq l c) [
      | inr other ↦ ap (λ (b : Bool). told (is_variable k (parent_of paths l) && b) (util_of_plan plan l)) (mark_else s.up c l other)
      | inl same ↦
          let none : is_variable k (parent_of paths l) ≡ false = ap (λ (x : ℕ). is_variable k (parent_of paths x)) same ∙ ap (is_variable k) parent ∙ ne_eqb i k (λ e. ne (sym e, same)) in
          ap (λ (a : Bool). told (a && mark s.up c l) (util_of_plan plan l)) none ∙ sym (ap (λ (a : Bool). told (a && s.up l) (util_of_plan plan l)) none)
    ])

    pub util_letter : IsTaken s i c util_step
    util_letter =
        let is = shown upper i not_down in
        record {
          next = upper;
          fit = upper_fit;
          view_is = ap (λ (x : Stepped DpopView). x.view) step_is ∙ is.view_is;
          sent_is = λ u.
              sym (is.sent_is u) ∙ ap (λ (x : Stepped DpopView). messages_to u x.sends) (sym step_is)
              ∙ ap (λ (ms : List Message). ms ++ messages_to u util_step.sends)
              (sym (ap₂ (λ (xs : List Message) (ys : List Message). xs ++ ys)
              (told_none (is_variable u (parent_of paths i)) (joined plan s i) (util_of_plan plan i) not_joined)
              (told_none (is_variable i (parent_of paths u)) (ended plan s i) (values_for_child p paths plan.value u) not_ended)));
          other_view = λ k ne.
              ap (λ (b : Bool). view_by plan k b (ended_by (parent_of paths k) b (s.down k)) (map (kept_if plan.table (mark s.up c)) (children_of paths k))) (joined_else k ne)
              ∙ ap (λ (ys : List (Option CostTable)). view_by plan k (joined plan s k) (ended plan s k) ys)
              (map_alike (kept_if plan.table (mark s.up c)) (kept_if plan.table s.up) (children_of paths k) (λ x h. ap (λ (b : Bool). cond b (Some (plan.table x)) None) (mark_else s.up c x (only_here k x ne h))));
          other_sent = λ k u ne. ap (λ (b : Bool). messages plan k u b (ended_by (parent_of paths k) b (s.down k))) (joined_else k ne);
          here = ap (λ (ms : List Message). length ms) past_after ∙ sym (ap (λ (ms : List Message). length ms + 1) past_before);
          elsewhere = past_else;
          count = let more = one_more s.up n c (within_tree paths c i parent) fresh in omega (arith, more);
        }

  -- VALUE of parent w
  module _ (s : Marks) (fit : IsFit plan s) (i w : ℕ) (lt : i < length paths) (parent : parent_of paths i ≡ Some w) (ready : ended plan s w ≡ true) (fresh : s.down i ≡ false) where
    abbrev lower : Marks
    lower = record { up = s.up; down = mark s.down i }

    has_joined : joined plan s i ≡ true
    has_joined = fit.up_joined i (all_at s.up (children_of paths w) i (fit.ended_joined w ready) (child_named paths w i parent))

    awake : ended plan s i ≡ false
    awake = ap (λ (o : Option ℕ). ended_by o (joined plan s i) (s.down i)) parent ∙ fresh

    now_ended : ended plan lower i ≡ true
    now_ended = ap (λ (o : Option ℕ). ended_by o (joined plan s i) (mark s.down i i)) parent ∙ mark_here s.down i

    kept_is : map (kept_if plan.table s.up) (children_of paths i) ≡ map (λ c. Some (plan.table c)) (children_of paths i)
    kept_is = kept_full plan.table s.up (children_of paths i) has_joined

    abbrev value_step : Stepped DpopView
    value_step = dpop_message (view plan s i) w (values_for_child p paths plan.value i)

    value_step_is : value_step ≡ decided plan i
    value_step_is =
        ap₂ (λ (b : Bool) (e : Bool). dpop_message (view_by plan i b e (map (kept_if plan.table s.up) (children_of paths i))) w (values_for_child p paths plan.value i)) has_joined awake
        ∙ ap (λ (ys : List (Option CostTable)). dpop_message (view_by plan i true false ys) w (values_for_child p paths plan.value i)) kept_is
        ∙ value_taken p paths problem pseudo linked narrow plan i w lt parent

    ended_else : (k : ℕ) → (k ≡ i → ⊥) → ended plan lower k ≡ ended plan s k
    ended_else k ne = ap (λ (d : Bool). ended_by (parent_of paths k) (joined plan s k) d) (mark_else s.down i k ne)

    still_ended : (k : ℕ) → ended plan s k ≡ true → ended plan lower k ≡ true
    still_ended k h = elim (cases_eq k i) [
      | inl same ↦ ap (ended plan lower) same ∙ now_ended
      | inr ne ↦ ended_else k ne ∙ h
    ]

    lower_fit : IsFit plan lower
    lower_fit = record {
      up_joined = fit.up_joined;
      up_known = fit.up_known;
      down_ended = λ d u h is. elim (mark_cases s.down i d h) [
        | inl same ↦
            let here : u ≡ w = same_Some u w (sym is ∙ ap (parent_of paths) same ∙ parent) in
            still_ended u (ap (ended plan s) here ∙ ready)
        | inr old ↦ still_ended u (fit.down_ended d u old is)
      ];
      down_known = λ d h. elim (mark_cases s.down i d h) [
        | inl same ↦ (w, ap (parent_of paths) same ∙ parent)
        | inr old ↦ fit.down_known d old
      ];
      ended_joined = λ k h. elim (cases_eq k i) [
        | inl same ↦ ap (joined plan s) same ∙ has_joined
        | inr ne ↦ fit.ended_joined k (sym (ended_else k ne) ∙ h)
      ];
    }

    below_else : (k l : ℕ) → ((k ≡ i) × (l ≡ w) → ⊥) → past plan lower k l ≡ past plan s k l
    below_else k l ne = ap (λ (ys : List Message). told (is_variable k (parent_of paths l) && s.up l) (util_of_plan plan l) ++ ys) (elim (cases_eq k i) [
      | inr other ↦ ap (λ (b : Bool). told (is_variable l (parent_of paths k) && b) (values_for_child p paths plan.value k)) (mark_else s.down i k other)
      | inl same ↦
          let none : is_variable l (parent_of paths k) ≡ false = ap (λ (x : ℕ). is_variable l (parent_of paths x)) same ∙ ap (is_variable l) parent ∙ ne_eqb w l (λ e. ne (same, sym e)) in
          ap (λ (a : Bool). told (a && mark s.down i k) (values_for_child p paths plan.value k)) none ∙ sym (ap (λ (a : Bool). told (a && s.down k) (values_for_child p paths plan.value k)) none)
    ])

    pub value_letter : IsTaken s i w value_step
    value_letter =
        let U : ℕ → List Message = λ u. told (is_variable u (parent_of paths i) && joined plan s i) (util_of_plan plan i) in
        let first : List Message = told (is_variable i (parent_of paths w) && s.up w) (util_of_plan plan w) in
        let V : Message = values_for_child p paths plan.value i in
        let linked_up : is_variable w (parent_of paths i) ≡ true = ap (is_variable w) parent ∙ eq-eqb w w refl in
        let old : past plan s i w ≡ first = ap (λ (ys : List Message). first ++ ys) (told_none (is_variable w (parent_of paths i)) (s.down i) V fresh) ∙ append-nil first in
        let new : past plan lower i w ≡ first ++ (V ∷ []) = ap₂ (λ (a : Bool) (b : Bool). first ++ told (a && b) V) linked_up (mark_here s.down i) in
        record {
          next = lower;
          fit = lower_fit;
          view_is =
              ap (λ (x : Stepped DpopView). x.view) value_step_is
              ∙ sym (ap₂ (λ (b : Bool) (e : Bool). view_by plan i b e (map (kept_if plan.table s.up) (children_of paths i))) has_joined now_ended
              ∙ ap (λ (ys : List (Option CostTable)). view_by plan i true true ys) kept_is);
          sent_is = λ u.
              let test : Bool = is_variable i (parent_of paths u) in
              let W : Message = values_for_child p paths plan.value u in
              let before : sent plan s i u ≡ U u = ap (λ (ys : List Message). U u ++ ys) (told_none test (ended plan s i) W awake) ∙ append-nil (U u) in
              let after : sent plan lower i u ≡ U u ++ told test W = ap (λ (e : Bool). U u ++ told (test && e) W) now_ended ∙ ap (λ (b : Bool). U u ++ told b W) (and_true test) in
              after ∙ ap (λ (ys : List Message). U u ++ ys) (sym (ap (λ (x : Stepped DpopView). messages_to u x.sends) value_step_is ∙ values_told i u))
              ∙ ap (λ (xs : List Message). xs ++ messages_to u value_step.sends) (sym before);
          other_view = λ k ne. ap (λ (e : Bool). view_by plan k (joined plan s k) e (map (kept_if plan.table s.up) (children_of paths k))) (ended_else k ne);
          other_sent = λ k u ne. ap (λ (e : Bool). messages plan k u (joined plan s k) e) (ended_else k ne);
          here =
              ap (λ (ms : List Message). length ms) new ∙ length-append first (V ∷ [])
              ∙ sym (ap (λ (ms : List Message). length ms + 1) old);
          elsewhere = below_else;
          count = let more = one_more s.down n i lt fresh in omega (arith, more);
        }

  -- what waits for an agent is nothing, or one message that it takes
  pub record IsNext (s : Marks) (i j : ℕ) : Type 0 where
    pub message : Message
    pub is : waits plan s i j ≡ message ∷ []
    pub taken_is : IsTaken s i j (dpop_message (view plan s i) j message)

  pub next_one : (s : Marks) → IsFit plan s → (i j : ℕ) → i < length paths → (waits plan s i j ≡ []) ⊎ IsNext s i j
  next_one s fit i j lt =
      let a : Bool = is_variable i (parent_of paths j) in
      let b : Bool = is_variable j (parent_of paths i) in
      let U : Message = util_of_plan plan j in
      let V : Message = values_for_child p paths plan.value i in
      elim (cases_Bool a) [
        | inl child ↦
            let parent = variable_is i (parent_of paths j) child in
            let other : b ≡ false = false_from_ne_true b (λ h. not_both j i parent (variable_is j (parent_of paths i) h)) in
            elim (cases_Bool (s.up j)) [
              | inl old ↦ inl (up_taken a b (s.up j) (s.down i) (joined plan s j) (ended plan s j) U V child other old (fit.up_joined j old))
              | inr fresh ↦ elim (cases_Bool (joined plan s j)) [
                | inl ready ↦
                    inr (record {
                      message = U;
                      is = up_waits a b (s.up j) (s.down i) (joined plan s j) (ended plan s j) U V child other fresh ready;
                      taken_is = util_letter s fit i j lt parent ready fresh;
                    })
                | inr early ↦ inl (up_none a b (s.up j) (s.down i) (joined plan s j) (ended plan s j) U V child other fresh early)
              ]
            ]
        | inr other ↦ elim (cases_Bool b) [
          | inl child ↦
              let parent = variable_is j (parent_of paths i) child in
              elim (cases_Bool (s.down i)) [
                | inl old ↦ inl (down_taken a b (s.up j) (s.down i) (joined plan s j) (ended plan s j) U V other child old (fit.down_ended i j old parent))
                | inr fresh ↦ elim (cases_Bool (ended plan s j)) [
                  | inl ready ↦
                      inr (record {
                        message = V;
                        is = down_waits a b (s.up j) (s.down i) (joined plan s j) (ended plan s j) U V other child fresh ready;
                        taken_is = value_letter s fit i j lt parent ready fresh;
                      })
                  | inr early ↦ inl (down_none a b (s.up j) (s.down i) (joined plan s j) (ended plan s j) U V other child fresh early)
                ]
              ]
          | inr none ↦ inl (no_link a b (s.up j) (s.down i) (joined plan s j) (ended plan s j) U V other none)
        ]
      ]
