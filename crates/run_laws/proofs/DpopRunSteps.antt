-- Each event of a run of DPOP keeps the network as the marks tell it.
use Rattle.std.proofs.Common.{◌≡◌, ℕ, ◌+◌, ◌<◌, Bool, true, false, cond, ◌==◌, nat_le, List, [], ◌∷◌, ◌++◌, length, drop, Some, None, refl, sym, ap, ap₂, subst, ◌∙◌, inl, inr, arith}
use Rattle.std.specs.List.{list_any, sum_by, fold, slice_get}
use Rattle.std.proofs.lemmas.Bool.{cases_eq, or_parts, eq-eqb, ne_eqb}
use Rattle.std.proofs.lemmas.Option.{same_Some, slice_get_within}
use Rattle.std.proofs.lemmas.List.{append-nil, length-set}
use Rattle.std.proofs.lemmas.List.Sums.{sum_by-append}
use Rattle.dcop_base.specs.Problem.{Dcop}
use Rattle.dcop_base.specs.Whole.{IsProblem}
use Rattle.pseudotree.specs.Pseudotree.{IsPseudotree, IsLinked}
use Rattle.pseudotree.specs.Width.{IsNarrow}
use Rattle.protocol_steps.specs.declared.message.Message.{Message}
use Rattle.protocol_steps.specs.declared.event.Take.{Take}
use Rattle.protocol_steps.specs.declared.event.Event.{Event}
use Rattle.protocol_steps.specs.Agent.{Stepped, quiet, next_letter}
use Rattle.protocol_steps.specs.Dpop.{DpopView}
use Rattle.protocol_steps.specs.DpopStep.{dpop_message, dpop_step}
use Rattle.protocol_steps.specs.View.{View, DpopKind, ended_of}
use Rattle.protocol_steps.specs.Step.{as_kind, step_of}
use Rattle.protocol_steps.specs.Network.{Desk, Network, messages_to, taken_from, link, waiting, batch}
use Rattle.protocol_steps.specs.Effect.{desk_after, deliveries}
use Rattle.protocol_steps.specs.Run.{form_fault, has_nothing, ascends_from, too_many, run}
use Rattle.protocol_steps.specs.Links.{taken_at, step_in, IsEffect}
use Rattle.protocol_steps.proofs.EventLaws.{Happens, happens_to, begins}
use Rattle.protocol_steps.proofs.LinkLaws.{links_grow}
use Rattle.protocol_steps.proofs.TallyLaws.{sum-set}
use Rattle.run_laws.proofs.Plan.{Plan}
use Rattle.run_laws.proofs.Marks.{Marks, view, sent, past, waits, IsFit, taken}
use Rattle.run_laws.proofs.BatchLaws.{both_fine, form_all, IsBatched, batched}

one_step : (v : DpopView) (ls : List (ℕ × Message)) → step_of (DpopKind v) ls ≡ as_kind DpopKind (dpop_step v ls)
unfolding step_of
one_step v ls = refl

module _ (p : Dcop) (paths : List (List ℕ)) (problem : IsProblem p) (pseudo : IsPseudotree p paths) (linked : IsLinked p paths) (narrow : IsNarrow p paths) (plan : Plan p paths) where
  -- a network of DPOP agents as the marks tell it
  pub record IsAt (net : Network) (s : Marks) : Type 0 where
    pub size : length net.desks ≡ length paths
    pub count : length net.views ≡ length paths
    pub views : (i : ℕ) → i < length paths → slice_get net.views i ≡ Some (DpopKind (view plan s i))
    pub sent_is : (i j : ℕ) → j < length paths → link net.desks j i ≡ sent plan s j i
    pub taken_is : (i j : ℕ) → i < length paths → taken_at net.desks i j ≡ length (past plan s i j)
    pub delivered : deliveries net ≡ taken plan (length paths) s
    pub fit : IsFit plan s

  -- what waits for an agent
  pub waits_for : (net : Network) (s : Marks) → IsAt net s → (i j : ℕ) → i < length paths → j < length paths → waiting net.desks i j ≡ waits plan s i j
  waits_for net s is i j lt known = ap₂ (λ (k : ℕ) (ms : List Message). drop k ms) (is.taken_is i j lt) (is.sent_is i j known)

  module _ (net after : Network) (e : Event) (s : Marks) (is : IsAt net s) (h : Happens net e after) where
    effect : IsEffect net e after
    effect = links_grow.happens net after e (happens_to net after e h)

    inside : e.agent < length paths
    inside = let within = slice_get_within net.views e.agent h.view h.views in omega (arith, within, is.count)

    fine : (form_fault (length net.desks) (ended_of h.view) e.takes ≡ None) × (too_many net.desks e.agent e.takes ≡ None)
    fine = both_fine (form_fault (length net.desks) (ended_of h.view) e.takes) (too_many net.desks e.agent e.takes) h.fine

    form : (list_any (λ t. nat_le (length net.desks) t.from) e.takes ≡ false) × (has_nothing e.takes ≡ false) × (ascends_from 0 e.takes ≡ true)
    form = form_all (length net.desks) (ended_of h.view) e.takes fine.0

    it : IsBatched p paths problem pseudo linked narrow plan s e.agent (quiet (view plan s e.agent)) (batch net.desks e.agent e.takes) e.takes
    it =
        batched p paths problem pseudo linked narrow plan net.desks e.agent inside e.takes 0 s (quiet (view plan s e.agent)) is.fit refl
        (λ j low known. waits_for net s is e.agent j inside known)
        (subst (λ (m : ℕ). list_any (λ t. nat_le m t.from) e.takes ≡ false) is.size form.0)
        (or_parts (length e.takes == 0) (list_any (λ t. t.count == 0) e.takes) form.1).1
        form.2 fine.1

    abbrev x : Stepped DpopView
    x = fold (next_letter dpop_message) (quiet (view plan s e.agent)) (batch net.desks e.agent e.takes)

    step_is : step_in net e effect.view ≡ as_kind DpopKind x
    step_is =
        ap (λ (v : View). step_of v (batch net.desks e.agent e.takes)) (same_Some effect.view (DpopKind (view plan s e.agent)) (sym effect.before ∙ is.views e.agent inside))
        ∙ one_step (view plan s e.agent) (batch net.desks e.agent e.takes)

    sends_are : (step_in net e effect.view).sends ≡ it.more
    sends_are = ap (λ (z : Stepped View). z.sends) step_is ∙ it.sends_are

    views_now : (i : ℕ) → i < length paths → slice_get after.views i ≡ Some (DpopKind (view plan it.next i))
    views_now i lt = elim (cases_eq i e.agent) [
      | inl same ↦
          ap (slice_get after.views) same ∙ effect.stepped
          ∙ ap (λ (z : Stepped View). Some z.view) step_is
          ∙ ap (λ (v : DpopView). Some (DpopKind v)) it.view_is
          ∙ ap (λ (k : ℕ). Some (DpopKind (view plan it.next k))) (sym same)
      | inr other ↦
          effect.others i (λ q. other (sym q)) ∙ is.views i lt ∙ ap (λ (v : DpopView). Some (DpopKind v)) (sym (it.other_view i other))
    ]

    sent_now : (i j : ℕ) → j < length paths → link after.desks j i ≡ sent plan it.next j i
    sent_now i j known = elim (cases_eq j e.agent) [
      | inl same ↦
          effect.sent i j
          ∙ ap₂ (λ (ms : List Message) (b : Bool). ms ++ cond b (messages_to i (step_in net e effect.view).sends) []) (is.sent_is i j known) (eq-eqb e.agent j (sym same))
          ∙ ap (λ (xs : List (ℕ × Message)). sent plan s j i ++ messages_to i xs) sends_are
          ∙ ap (λ (k : ℕ). sent plan s k i ++ messages_to i it.more) same
          ∙ sym (it.sent_is i)
          ∙ ap (λ (k : ℕ). sent plan it.next k i) (sym same)
      | inr other ↦
          effect.sent i j
          ∙ ap₂ (λ (ms : List Message) (b : Bool). ms ++ cond b (messages_to i (step_in net e effect.view).sends) []) (is.sent_is i j known) (ne_eqb e.agent j (λ q. other (sym q)))
          ∙ append-nil (sent plan s j i)
          ∙ sym (it.other_sent j i other)
    ]

    taken_now : (i j : ℕ) → i < length paths → taken_at after.desks i j ≡ length (past plan it.next i j)
    taken_now i j lt = elim (cases_eq i e.agent) [
      | inl same ↦
          effect.taken i j
          ∙ ap₂ (λ (k : ℕ) (b : Bool). k + cond b (taken_from j e.takes) 0) (is.taken_is i j lt) (eq-eqb e.agent i (sym same))
          ∙ ap (λ (k : ℕ). length (past plan s k j) + taken_from j e.takes) same
          ∙ sym (it.here j)
          ∙ ap (λ (k : ℕ). length (past plan it.next k j)) (sym same)
      | inr other ↦
          effect.taken i j
          ∙ ap₂ (λ (k : ℕ) (b : Bool). k + cond b (taken_from j e.takes) 0) (is.taken_is i j lt) (ne_eqb e.agent i (λ q. other (sym q)))
          ∙ plus_none (length (past plan s i j))
          ∙ ap (λ (ms : List Message). length ms) (sym (it.other_past i j other))
    ]
      where
        plus_none : (k : ℕ) → k + 0 ≡ k
        plus_none k = omega arith

    delivered_now : deliveries after ≡ taken plan (length paths) it.next
    delivered_now =
        let total : Desk → ℕ = λ d. sum_by (λ (t : Take). t.count) d.takes in
        let more : deliveries after ≡ deliveries net + sum_by (λ (t : Take). t.count) e.takes =
        subst (λ (z : Network). deliveries z ≡ deliveries net + sum_by (λ (t : Take). t.count) e.takes) h.after
        (sum-set total net.desks e.agent (sum_by (λ (t : Take). t.count) e.takes) h.desk
        (desk_after h.desk (step_of h.view (batch net.desks e.agent e.takes)).sends e.takes) h.desks
        (sum_by-append (λ (t : Take). t.count) h.desk.takes e.takes)) in
        omega (arith, more, is.delivered, it.count)

    advances : IsAt after it.next
    advances = record {
      size =
          subst (λ (z : Network). length z.desks ≡ length net.desks) h.after (length-set net.desks e.agent (desk_after h.desk (step_of h.view (batch net.desks e.agent e.takes)).sends e.takes))
          ∙ is.size;
      count =
          subst (λ (z : Network). length z.views ≡ length net.views) h.after (length-set net.views e.agent (step_of h.view (batch net.desks e.agent e.takes)).view)
          ∙ is.count;
      views = views_now;
      sent_is = sent_now;
      taken_is = taken_now;
      delivered = delivered_now;
      fit = it.fit;
    }

  -- so does a run
  pub runs_on : (net end : Network) (s : Marks) (es : List Event) → IsAt net s → run net es ≡ Some end → (now : Marks) × IsAt end now
  runs_on net end s [] is r = (s, subst (λ (z : Network). IsAt z s) (same_Some net end r) is)
  runs_on net end s (e ∷ es) is r =
      let b = begins net end e es r in
      runs_on b.next end (it net b.next e s is b.first).next es (advances net b.next e s is b.first) b.rest
