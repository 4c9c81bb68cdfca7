-- One event of a run of ADOPT, for every parent and child.
use Rattle.std.proofs.Common.{◌≡◌, ℕ, ◌+◌, ◌-◌, ◌≤◌, ◌<◌, Bool, true, false, cond, take, List, [], ◌∷◌, ◌++◌, length, get_or, Option, Some, None, refl, sym, ap, subst, ◌∙◌, inl, inr, arith}
use Rattle.std.specs.List.{slice_get, fold}
use Rattle.std.proofs.lemmas.Bool.{cases_eq, eq-eqb, ne_eqb}
use Rattle.std.proofs.lemmas.Option.{none-some, same_Some, slice_get-get_or}
use Rattle.std.proofs.lemmas.List.{append-nil, length-drop}
use Rattle.dcop_base.specs.Problem.{Dcop}
use Rattle.dcop_base.specs.Whole.{IsProblem}
use Rattle.dcop_base.specs.declared.knowledge.Private.{Private}
use Rattle.pseudotree.specs.Tree.{path_of, parent_of}
use Rattle.pseudotree.specs.Pseudotree.{IsPseudotree, IsLinked}
use Rattle.adopt_context.specs.Context.{names_all}
use Rattle.protocol_steps.specs.declared.message.Message.{Message}
use Rattle.protocol_steps.specs.declared.event.Event.{Event}
use Rattle.protocol_steps.specs.Agent.{Stepped, Phase}
use Rattle.protocol_steps.specs.Adopt.{AdoptView}
use Rattle.protocol_steps.specs.AdoptStep.{may_end, adopt_sends, adopt_step}
use Rattle.protocol_steps.specs.View.{View, AdoptKind, ended_of}
use Rattle.protocol_steps.specs.Network.{Network, messages_to, link, waiting, taken_from, batch}
use Rattle.protocol_steps.specs.Run.{form_fault, ascends_from, too_many, run}
use Rattle.protocol_steps.specs.Links.{taken_at, step_in, IsEffect}
use Rattle.protocol_steps.proofs.EventLaws.{Happens, begins}
use Rattle.protocol_steps.specs.TreeAgents.{place_at}
use Rattle.run_laws.proofs.DigestLaws.{digest, digest_step, handled, batch_still, batch_digest, closed_digest, batch_from}
use Rattle.run_laws.proofs.SendLaws.{closed_ended}
use Rattle.run_laws.proofs.PairLaws.{parent_moves, child_moves}
use Rattle.run_laws.proofs.AdoptRunSteps.{IsGood, advances, effect, inside, step_is, own_at}
use Rattle.run_laws.proofs.PairRuns.{both_none, form_parts, taken_waits, same_view, IsEnder, PairOf, IsRun, IsPlaced, placed_at, parent_in, apart, parent_words, child_words, child_told, pair_same, told_names}

module _ (p : Dcop) (paths : List (List ℕ)) (problem : IsProblem p) (pseudo : IsPseudotree p paths) (linked : IsLinked p paths) (error : ℕ) where
  module _ (net after : Network) (e : Event) (is : IsRun p paths problem pseudo linked error net) (h : Happens net e after) where
    abbrev k : ℕ
    k = e.agent

    abbrev acts : IsEffect net e after
    acts = effect p paths problem pseudo error net after e is.good h

    there : k < length p.sizes
    there = inside p paths problem pseudo error net after e is.good h

    good_now : IsGood p paths problem pseudo error after
    good_now = advances p paths problem pseudo error net after e is.good h

    abbrev ls : List (ℕ × Message)
    ls = batch net.desks e.agent e.takes

    abbrev old : AdoptView
    old = (is.good.agents e.agent there).view

    abbrev new : AdoptView
    new = (adopt_step old ls).view

    old_at : slice_get net.views k ≡ Some (AdoptKind old)
    old_at = (is.good.agents e.agent there).at

    new_at : slice_get after.views k ≡ Some (AdoptKind new)
    new_at = own_at p paths problem pseudo error net after e is.good h there

    fine : (form_fault (length net.desks) (ended_of h.view) e.takes ≡ None) × (too_many net.desks e.agent e.takes ≡ None)
    fine = both_none (form_fault (length net.desks) (ended_of h.view) e.takes) (too_many net.desks e.agent e.takes) h.fine

    form : (ended_of h.view ≡ false) × (ascends_from 0 e.takes ≡ true)
    form = form_parts (length net.desks) (ended_of h.view) e.takes fine.0

    going : old.phase.ended ≡ false
    going = sym (ap (λ (v : View). ended_of v) (same_Some h.view (AdoptKind old) (sym h.views ∙ old_at))) ∙ form.0

    sends_are : (step_in net e acts.view).sends ≡ adopt_sends new
    sends_are = ap (λ (s : Stepped View). s.sends) (step_is p paths problem pseudo error net after e is.good h there)

    sent_here : (i : ℕ) → link after.desks k i ≡ link net.desks k i ++ messages_to i (adopt_sends new)
    sent_here i =
        acts.sent i k ∙ ap (λ (b : Bool). link net.desks k i ++ cond b (messages_to i (step_in net e acts.view).sends) []) (eq-eqb k k refl)
        ∙ ap (λ (xs : List (ℕ × Message)). link net.desks k i ++ messages_to i xs) sends_are

    sent_else : (i j : ℕ) → (k ≡ j → ⊥) → link after.desks j i ≡ link net.desks j i
    sent_else i j ne =
        acts.sent i j ∙ ap (λ (b : Bool). link net.desks j i ++ cond b (messages_to i (step_in net e acts.view).sends) []) (ne_eqb k j ne) ∙ append-nil (link net.desks j i)

    taken_here : (j : ℕ) → taken_at after.desks k j ≡ taken_at net.desks k j + taken_from j e.takes
    taken_here j = acts.taken k j ∙ ap (λ (b : Bool). taken_at net.desks k j + cond b (taken_from j e.takes) 0) (eq-eqb k k refl)

    taken_else : (i j : ℕ) → (k ≡ i → ⊥) → taken_at after.desks i j ≡ taken_at net.desks i j
    taken_else i j ne = acts.taken i j ∙ ap (λ (b : Bool). taken_at net.desks i j + cond b (taken_from j e.takes) 0) (ne_eqb k i ne) ∙ plus_none (taken_at net.desks i j)
      where
        plus_none : (n : ℕ) → n + 0 ≡ n
        plus_none n = omega arith

    bound : (q : ℕ) → taken_at net.desks k q ≤ length (link net.desks q k) → taken_at net.desks k q + taken_from q e.takes ≤ length (link net.desks q k)
    bound q le =
        let waits = taken_waits net.desks k 0 q e.takes form.1 fine.1 in
        let long : length (waiting net.desks k q) ≡ length (link net.desks q k) - taken_at net.desks k q = length-drop (taken_at net.desks k q) (link net.desks q k) in
        omega (arith, le, waits, long)

    view_else : (i : ℕ) (x : AdoptView) → (k ≡ i → ⊥) → slice_get after.views i ≡ Some (AdoptKind x) → slice_get net.views i ≡ Some (AdoptKind x)
    view_else i x ne at = sym (acts.others i ne) ∙ at

    placed_new : IsPlaced p paths problem pseudo linked error k new
    placed_new = placed_at p paths problem pseudo linked error after good_now k new new_at

    placed_old : IsPlaced p paths problem pseudo linked error k old
    placed_old = placed_at p paths problem pseudo linked error net is.good k old old_at

    ended_is : new.phase.ended ≡ may_end new
    ended_is = closed_ended (handled old ls) (ap (λ (f : Phase). f.ended) (batch_still ls old).phase ∙ going)

    -- the agent and its child
    pair_parent : (c : ℕ) (y : AdoptView) → parent_of paths c ≡ Some k → slice_get after.views c ≡ Some (AdoptKind y) → PairOf p paths problem pseudo linked error after k c new y
    pair_parent c y parent at =
        let ne : k ≡ c → ⊥ = λ (q : k ≡ c). apart p paths problem pseudo linked error k c parent (sym q) in
        let before = is.pairs k c old y parent old_at (view_else c y ne at) in
        let words = parent_words p paths problem pseudo linked error k c new placed_new parent in
        let moved =
        parent_moves p paths k c old new y (link net.desks k c) (link net.desks c k) (messages_to c (adopt_sends new)) (taken_at net.desks c k) (taken_at net.desks k c) (taken_at net.desks k c + taken_from c e.takes)
        before going (bound c before.within_up) (ap (λ (o : Private). o.me) placed_new.own_is) words.0 words.1 in
        pair_same p paths problem pseudo linked error k c new y (link net.desks k c ++ messages_to c (adopt_sends new)) (link after.desks k c) (link net.desks c k) (link after.desks c k)
        (taken_at net.desks c k) (taken_at after.desks c k) (taken_at net.desks k c + taken_from c e.takes) (taken_at after.desks k c)
        (sent_here c) (sent_else k c ne) (taken_else c k ne) (taken_here c) moved

    -- the agent and its parent
    pair_child : (i : ℕ) (x : AdoptView) → parent_of paths k ≡ Some i → slice_get after.views i ≡ Some (AdoptKind x) → PairOf p paths problem pseudo linked error after i k x new
    pair_child i x parent at =
        let ne : k ≡ i → ⊥ = apart p paths problem pseudo linked error i k parent in
        let before = is.pairs i k x old parent (view_else i x ne at) old_at in
        let n : ℕ = taken_from i e.takes in
        let digested : digest new ≡ fold (digest_step (place_at p paths k)) (digest old) (take n (waiting net.desks k i)) =
        closed_digest (handled old ls) ∙ batch_digest (place_at p paths k) i parent ls old placed_old.place_is
        ∙ ap (λ (ms : List Message). fold (digest_step (place_at p paths k)) (digest old) ms) (batch_from net.desks k 0 i e.takes form.1) in
        let moved =
        child_moves p paths i k x old new (link net.desks i k) (link net.desks k i) (messages_to i (adopt_sends new)) (taken_at net.desks k i) (taken_at net.desks i k) n
        before (bound i before.within) digested (child_told p paths problem pseudo linked error i k new placed_new parent ended_is) (child_words p paths problem pseudo linked error i k new placed_new parent) in
        pair_same p paths problem pseudo linked error i k x new (link net.desks i k) (link after.desks i k) (link net.desks k i ++ messages_to i (adopt_sends new)) (link after.desks k i)
        (taken_at net.desks k i + n) (taken_at after.desks k i) (taken_at net.desks i k) (taken_at after.desks i k)
        (sent_else k i ne) (sent_here i) (taken_here i) (taken_else i k ne) moved

    pairs_now : (i c : ℕ) (x y : AdoptView) → parent_of paths c ≡ Some i → slice_get after.views i ≡ Some (AdoptKind x) → slice_get after.views c ≡ Some (AdoptKind y) → PairOf p paths problem pseudo linked error after i c x y
    pairs_now i c x y parent ax ay =
        elim (cases_eq k i) [
          | inl same ↦
              let view : new ≡ x = same_view (slice_get after.views k) new x new_at (ap (slice_get after.views) same ∙ ax) in
              subst (λ (z : AdoptView). PairOf p paths problem pseudo linked error after i c z y) view
              (subst (λ (z : ℕ). PairOf p paths problem pseudo linked error after z c new y) same (pair_parent c y (parent ∙ ap (λ (z : ℕ). Some z) (sym same)) ay))
          | inr not_parent ↦
              elim (cases_eq k c) [
                | inl same ↦
                    let view : new ≡ y = same_view (slice_get after.views k) new y new_at (ap (slice_get after.views) same ∙ ay) in
                    subst (λ (z : AdoptView). PairOf p paths problem pseudo linked error after i c x z) view
                    (subst (λ (z : ℕ). PairOf p paths problem pseudo linked error after i z x new) same (pair_child i x (ap (parent_of paths) same ∙ parent) ax))
                | inr not_child ↦
                    pair_same p paths problem pseudo linked error i c x y (link net.desks i c) (link after.desks i c) (link net.desks c i) (link after.desks c i)
                    (taken_at net.desks c i) (taken_at after.desks c i) (taken_at net.desks i c) (taken_at after.desks i c)
                    (sent_else c i not_parent) (sent_else i c not_child) (taken_else c i not_child) (taken_else i c not_parent)
                    (is.pairs i c x y parent (view_else i x not_parent ax) (view_else c y not_child ay))
              ]
        ]

    no_parent : (xs : List ℕ) → slice_get xs (length xs - 1) ≡ None → xs ≡ []
    no_parent [] q = refl
    no_parent (x ∷ xs) q = absurd (none-some (get_or (x ∷ xs) (length (x ∷ xs) - 1) 0) (sym q ∙ slice_get-get_or (x ∷ xs) (length (x ∷ xs) - 1) 0 (omega arith)))

    names_new : (o : Option ℕ) → parent_of paths k ≡ o → new.told ≡ true → names_all new.known (path_of paths k) ≡ true
    names_new None none told = ap (λ (xs : List ℕ). names_all new.known xs) (no_parent (path_of paths k) none)
    names_new (Some q) parent told =
        let other = is.good.agents q (parent_in p paths problem pseudo linked error q k parent) in
        let at : slice_get after.views q ≡ Some (AdoptKind other.view) = acts.others q (apart p paths problem pseudo linked error q k parent) ∙ other.at in
        told_names p paths problem pseudo linked error q k other.view new (link after.desks q k) (link after.desks k q) (taken_at after.desks k q) (taken_at after.desks q k) parent
        (placed_at p paths problem pseudo linked error net is.good q other.view other.at) (is.enders q other.view other.at) (pair_child q other.view parent at) told

    enders_now : (i : ℕ) (v : AdoptView) → slice_get after.views i ≡ Some (AdoptKind v) → IsEnder p paths problem pseudo linked error i v
    enders_now i v at =
        elim (cases_eq k i) [
          | inl same ↦
              let view : new ≡ v = same_view (slice_get after.views k) new v new_at (ap (slice_get after.views) same ∙ at) in
              subst (λ (z : AdoptView). IsEnder p paths problem pseudo linked error i z) view
              (subst (λ (z : ℕ). IsEnder p paths problem pseudo linked error z new) same (record { ended_is = ended_is; names = names_new (parent_of paths k) refl }))
          | inr other ↦ is.enders i v (view_else i v other at)
        ]

    pub run_advances : IsRun p paths problem pseudo linked error after
    run_advances = record { good = good_now; enders = enders_now; pairs = pairs_now }

  -- so does a run
  pub run_goes : (net end : Network) (es : List Event) → IsRun p paths problem pseudo linked error net → run net es ≡ Some end → IsRun p paths problem pseudo linked error end
  run_goes net end [] is r = subst (λ (z : Network). IsRun p paths problem pseudo linked error z) (same_Some net end r) is
  run_goes net end (e ∷ es) is r =
      let b = begins net end e es r in
      run_goes b.next end es (run_advances net b.next e is b.first) b.rest
