-- The journal law: events of different agents may change places, so a run is decided by its journals.
use Rattle.std.proofs.Common.{◌≡◌, ◌≢◌, ℕ, Bool, false, ◌==◌, if◌then◌else◌, List, [], ◌∷◌, ◌++◌, Option, Some, refl, sym, ap, subst, ◌∙◌, inl, inr}
use Rattle.std.specs.List.{slice_get, slice_set, fold}
use Rattle.std.proofs.lemmas.Bool.{cases_eq, ne_eqb, eq-eqb}
use Rattle.std.proofs.lemmas.Option.{same_Some}
use Rattle.std.proofs.lemmas.List.{append_cancel_left, set_comm}
use Rattle.protocol_steps.specs.declared.message.Message.{Message}
use Rattle.protocol_steps.specs.declared.event.Take.{Take}
use Rattle.protocol_steps.specs.declared.event.Event.{Event}
use Rattle.protocol_steps.specs.View.{View, ended_of}
use Rattle.protocol_steps.specs.Step.{step_of}
use Rattle.protocol_steps.specs.Network.{Desk, Network, batch}
use Rattle.protocol_steps.specs.Effect.{desk_after, network_after}
use Rattle.protocol_steps.specs.Run.{happen, run, journal}
use Rattle.protocol_steps.specs.Laws.{JournalsDecide}
use Rattle.protocol_steps.proofs.EventLaws.{Happens, happens_to, begins, get_other, grows, fine_still}

-- an event of another agent, where this one has not happened, may happen after it
later_on : (net a : Network) (e f : Event) → e.agent ≢ f.agent → Happens net e a → (b : Network) → (hf : Happens net f b)
    → Happens a f (network_after a f hf.view hf.desk (batch net.desks f.agent f.takes))
later_on net a e f ne he b hf =
    let still = fine_still net.desks a.desks f.agent (ended_of hf.view) f.takes (grows net a e f.agent he ne) hf.fine in
    record {
      view = hf.view;
      desk = hf.desk;
      views = subst (λ (z : Network). slice_get z.views f.agent ≡ slice_get net.views f.agent) he.after (get_other net.views e.agent f.agent _ ne) ∙ hf.views;
      desks = (grows net a e f.agent he ne).own ∙ hf.desks;
      fine = still.0;
      after = ap (λ (ls : List (ℕ × Message)). network_after a f hf.view hf.desk ls) still.1;
    }

-- two events of different agents lead to one network in either order
swapped : (net : Network) (e f : Event) (v w : View) (x y : Desk) (ls ms : List (ℕ × Message)) → e.agent ≢ f.agent
    → network_after (network_after net e v x ls) f w y ms ≡ network_after (network_after net f w y ms) e v x ls
swapped net e f v w x y ls ms ne =
    ap (λ (views : List View). record { views = views; desks = slice_set (slice_set net.desks e.agent (desk_after x (step_of v ls).sends e.takes)) f.agent (desk_after y (step_of w ms).sends f.takes) })
    (set_comm net.views e.agent f.agent (step_of v ls).view (step_of w ms).view ne)
    ∙ ap (λ (desks : List Desk). record { views = slice_set (slice_set net.views f.agent (step_of w ms).view) e.agent (step_of v ls).view; desks = desks })
    (set_comm net.desks e.agent f.agent (desk_after x (step_of v ls).sends e.takes) (desk_after y (step_of w ms).sends f.takes) ne)

record Either (a b : Network) (e f : Event) : Type 0 where
  both : Network
  then_f : Happens a f both
  then_e : Happens b e both

either_order : (net a b : Network) (e f : Event) → e.agent ≢ f.agent → Happens net e a → Happens net f b → Either a b e f
either_order net a b e f ne he hf =
    let ls : List (ℕ × Message) = batch net.desks e.agent e.takes in
    let ms : List (ℕ × Message) = batch net.desks f.agent f.takes in
    let same : network_after a f hf.view hf.desk ms ≡ network_after b e he.view he.desk ls =
    subst (λ (z : Network). network_after z f hf.view hf.desk ms ≡ network_after b e he.view he.desk ls) he.after
    (subst (λ (z : Network). network_after (network_after net e he.view he.desk ls) f hf.view hf.desk ms ≡ network_after z e he.view he.desk ls) hf.after
    (swapped net e f he.view hf.view he.desk hf.desk ls ms ne)) in
    record {
      both = network_after b e he.view he.desk ls;
      then_f = subst (λ (z : Network). Happens a f z) same (later_on net a e f ne he b hf);
      then_e = later_on net b f e (λ p. ne (sym p)) hf a he;
    }

-- an event of the journal of agent i
abbrev pub own_takes : ℕ → Event → List (List Take)
own_takes i e = if e.agent == i then e.takes ∷ [] else []

-- a run with an event taken to its front
record Pulled (next end : Network) (e : Event) (fs : List Event) : Type 0 where
  others : List Event
  leads : run next others ≡ Some end
  same : (i : ℕ) → journal i (e ∷ others) ≡ journal i fs

same_event : (e f : Event) → f.agent ≡ e.agent → f.takes ≡ e.takes → f ≡ e
same_event e f p q = ap (λ (k : ℕ). let g : Event = record { agent = k; takes = f.takes } in g) p ∙ ap (λ (ts : List Take). let g : Event = record { agent = e.agent; takes = ts } in g) q

first_of : {A : Type 0} (x y : A) (xs ys : List A) → x ∷ xs ≡ y ∷ ys → x ≡ y
first_of x y xs ys h = same_Some x y (ap (λ (zs : List _). slice_get zs 0) h)

not_empty : {A : Type 0} (x : A) (xs : List A) → [] ≡ x ∷ xs → ⊥
not_empty x xs h = cc

-- journals with e in front, past an event f of another agent
past_other : (i : ℕ) (e f : Event) (os fs : List Event) → e.agent ≢ f.agent → journal i (e ∷ os) ≡ journal i fs → journal i (e ∷ f ∷ os) ≡ journal i (f ∷ fs)
past_other i e f os fs ne h = elim (cases_eq f.agent i) [
  | inl mine ↦
      let not_e : (e.agent == i) ≡ false = ne_eqb e.agent i (λ p. ne (p ∙ sym mine)) in
      let rest : journal i os ≡ journal i fs = subst (λ (b : Bool). (if b then e.takes ∷ [] else []) ++ journal i os ≡ journal i fs) not_e h in
      subst (λ (b : Bool). (if b then e.takes ∷ [] else []) ++ (own_takes i f ++ journal i os) ≡ own_takes i f ++ journal i fs) (sym not_e) (ap (λ (js : List (List Take)). own_takes i f ++ js) rest)
  | inr other ↦
      subst (λ (b : Bool). own_takes i e ++ ((if b then f.takes ∷ [] else []) ++ journal i os) ≡ (if b then f.takes ∷ [] else []) ++ journal i fs) (sym (ne_eqb f.agent i other)) h
]

pull : (fs : List Event) (net next end : Network) (e : Event) (rest : List (List Take)) → Happens net e next → run net fs ≡ Some end → journal e.agent fs ≡ e.takes ∷ rest → Pulled next end e fs
pull [] net next end e rest he r j = absurd (not_empty e.takes rest j)
pull (f ∷ fs) net next end e rest he r j = elim (cases_eq f.agent e.agent) [
  | inl mine ↦
      let b = begins net end f fs r in
      let mine_first : f.takes ∷ journal e.agent fs ≡ e.takes ∷ rest = subst (λ (b : Bool). (if b then f.takes ∷ [] else []) ++ journal e.agent fs ≡ e.takes ∷ rest) (eq-eqb f.agent e.agent mine) j in
      let it : f ≡ e = same_event e f mine (first_of f.takes e.takes (journal e.agent fs) rest mine_first) in
      let there : b.next ≡ next = same_Some b.next next (sym (happens_to net b.next f b.first) ∙ ap (λ (g : Event). happen (Some net) g) it ∙ happens_to net next e he) in
      record {
        others = fs;
        leads = subst (λ (z : Network). run z fs ≡ Some end) there b.rest;
        same = λ i. ap (λ (g : Event). journal i (g ∷ fs)) (sym it);
      }
  | inr other ↦
      let b = begins net end f fs r in
      let apart : e.agent ≢ f.agent = λ p. other (sym p) in
      let swap = either_order net next b.next e f apart he b.first in
      let later : journal e.agent fs ≡ e.takes ∷ rest = subst (λ (b : Bool). (if b then f.takes ∷ [] else []) ++ journal e.agent fs ≡ e.takes ∷ rest) (ne_eqb f.agent e.agent other) j in
      let pulled = pull fs b.next swap.both end e rest swap.then_e b.rest later in
      record {
        others = f ∷ pulled.others;
        leads = subst (λ (o : Option Network). fold happen o pulled.others ≡ Some end) (sym (happens_to next swap.both f swap.then_f)) pulled.leads;
        same = λ i. past_other i e f pulled.others fs apart (pulled.same i);
      }
]

own_first : (e : Event) (es : List Event) → journal e.agent (e ∷ es) ≡ e.takes ∷ journal e.agent es
own_first e es = ap (λ (b : Bool). (if b then e.takes ∷ [] else []) ++ journal e.agent es) (eq-eqb e.agent e.agent refl)

pub journals_decide : JournalsDecide
journals_decide net one other [] [] r q same = same_Some one other (sym r ∙ q)
journals_decide net one other [] (f ∷ fs) r q same = absurd (not_empty f.takes (journal f.agent fs) (same f.agent ∙ own_first f fs))
journals_decide net one other (e ∷ es) fs r q same =
    let b = begins net one e es r in
    let pulled = pull fs net b.next other e (journal e.agent es) b.first q (sym (same e.agent) ∙ own_first e es) in
    journals_decide b.next one other es pulled.others b.rest pulled.leads
    (λ i. append_cancel_left (own_takes i e) (journal i es) (journal i pulled.others) (same i ∙ sym (pulled.same i)))
