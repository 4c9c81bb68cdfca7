-- Notes of a run that are kept turn by turn.
use Rattle.std.proofs.Common.{◌≡◌, ℕ, ◌+◌, ◌≤◌, Bool, true, false, ◌==◌, if◌then◌else◌, List, [], ◌∷◌, ◌++◌, length, Option, Some, None, refl, sym, ap, subst, ◌∙◌, arith}
use Rattle.std.proofs.lemmas.Option.{same_Some}
use Rattle.std.proofs.lemmas.List.{append-nil, append_assoc, length-append}
use Rattle.std.proofs.lemmas.List.Sums.{fold-append}
use Rattle.dcop_base.specs.Problem.{Dcop}
use Rattle.protocol_steps.specs.declared.event.Event.{Event}
use Rattle.protocol_steps.specs.declared.event.Take.{Take}
use Rattle.protocol_steps.specs.Network.{Network}
use Rattle.protocol_steps.specs.Effect.{effect}
use Rattle.protocol_steps.specs.Run.{event_fault, run}
use Rattle.protocol_steps.proofs.EventLaws.{Happens, happens_from, begins}
use Rattle.delivery_core.specs.State.{CoreView}
use Rattle.delivery_core.specs.Shown.{IsCore}
use Rattle.log_replay.specs.Notes.{NotesView, MayBeNotes, KeepNotes, HasHappened, NotesEvent}
use Rattle.delivery_turns.specs.Turns.{event_with, turn, after}
use Rattle.delivery_turns.specs.CoreTurns.{LeadsCore, TakesTurn}
use Rattle.delivery_turns.specs.Sprints.{IsSomeNoted, NotesTurn}

-- where a lawful event leads
effect_is : (net one : Network) (e : Event) → Happens net e one → effect net e ≡ one
effect_is net one e h = rw (h.views, h.desks) h.after

-- where a run leads
pub ran_after : (net end : Network) (es : List Event) → run net es ≡ Some end → after net es ≡ end
ran_after net end [] h = same_Some net end h
ran_after net end (e ∷ es) h =
    let b = begins net end e es h in
    ap (λ (m : Network). after m es) (effect_is net b.next e b.first) ∙ ran_after b.next end es b.rest

-- the one event of a run is lawful
one_lawful : (net mid : Network) (e : Event) → run net (e ∷ []) ≡ Some mid → event_fault net e ≡ None
one_lawful net mid e h = let b = happens_from net mid e h in rw (b.views, b.desks) b.fine

module _ (p : Dcop) where
  pub keep_none : (net : Network) (a : Option NotesView) → KeepNotes p net [] a a
  keep_none net a = (refl, λ made before h. subst (λ (es : List Event). MayBeNotes p made es net a) (sym (append-nil before)) h)

  pub keep_same : (net : Network) (es fs : List Event) (a b : Option NotesView) → es ≡ fs → KeepNotes p net es a b → KeepNotes p net fs a b
  keep_same net es fs a b same k = subst (λ (gs : List Event). KeepNotes p net gs a b) same k

  keep_join : (net : Network) (es fs : List Event) (a b c : Option NotesView) → KeepNotes p net es a b → KeepNotes p (after net es) fs b c → KeepNotes p net (es ++ fs) a c
  keep_join net es fs a b c k j = (
    j.0 ∙ k.0,
    λ made before h.
        subst (λ (gs : List Event). MayBeNotes p made gs (after net (es ++ fs)) c) (append_assoc before es fs)
        (subst (λ (m : Network). MayBeNotes p made ((before ++ es) ++ fs) m c) (sym (fold-append effect net es fs)) (j.1 made (before ++ es) (k.1 made before h))),
  )

  -- events, and then more of them
  pub keep_then : (net mid : Network) (es fs : List Event) (a b c : Option NotesView) → after net es ≡ mid → KeepNotes p net es a b → KeepNotes p mid fs b c → KeepNotes p net (es ++ fs) a c
  keep_then net mid es fs a b c is k j = keep_join net es fs a b c k (subst (λ (m : Network). KeepNotes p m fs b c) (sym is) j)

-- the notes after some events
pub still_noted : (more left : ℕ) (s t : CoreView) (a b : Option NotesView) (n : IsSomeNoted more s a) (es : List Event) (mid : Network) → after n.1 es ≡ mid → IsCore n.0 mid t → KeepNotes n.0 n.1 es a b
    → length es + left ≤ more → IsSomeNoted left t b
still_noted more left s t a b n es mid is core k fits =
    let size = length-append n.3 es in
    let old = n.6 in
    (n.0, mid, n.2, n.3 ++ es, core, subst (λ (m : Network). MayBeNotes n.0 n.2 (n.3 ++ es) m b) is (k.1 n.2 n.3 n.5), omega (arith, size, old, fits))

-- the event of a turn
module _ (k : ℕ) (s t : CoreView) (ts : List Take) (takes : TakesTurn k s t ts) where
  abbrev e : Event
  e = record { agent = k; takes = ts }

  -- without an event nothing is noted
  pub turn_unnoted : (a : Option NotesView) → (length ts == 0) ≡ true → NotesTurn k s a t a ts
  turn_unnoted a none = λ p net core.
      let one = takes p net core in
      let no_event : [] ≡ turn net k = sym (one.2 ∙ ap (λ (b : Bool). if b then [] else e ∷ []) none) in
      (one.0, one.1, one.2, keep_same p net [] (turn net k) a a no_event (keep_none p net a))

  module _ (some : (length ts == 0) ≡ false) where
    event_is : (net : Network) → turn net k ≡ event_with k ts → turn net k ≡ e ∷ []
    event_is net with = with ∙ ap (λ (b : Bool). if b then [] else e ∷ []) some

    fine : (p : Dcop) (net mid : Network) → LeadsCore p net (turn net k) mid t → turn net k ≡ event_with k ts → (event_fault net e ≡ None) × IsCore p (effect net e) t
    fine p net mid leads with =
        let one : LeadsCore p net (e ∷ []) mid t = subst (λ (es : List Event). LeadsCore p net es mid t) (event_is net with) leads in
        (one_lawful net mid e one.ran, subst (λ (m : Network). IsCore p m t) (sym one.is) one.core)

    pub turn_happened : (a : Option NotesView) → IsSomeNoted 1 s a → HasHappened k ts t a
    turn_happened a n =
        let one = takes n.0 n.1 n.4 in
        let both = fine n.0 n.1 one.0 one.1 one.2 in
        (n.0, n.1, n.2, n.3, both.0, both.1, n.5, let few = n.6 in omega (arith, few))

    pub turn_noted : (a b : Option NotesView) → NotesEvent k ts t a b → NotesTurn k s a t b ts
    turn_noted a b noted = λ p net core.
        let one = takes p net core in
        let both = fine p net one.0 one.1 one.2 in
        (one.0, one.1, one.2, keep_same p net (e ∷ []) (turn net k) a b (sym (event_is net one.2)) (noted p net both.0 both.1))
