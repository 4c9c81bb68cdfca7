-- Activations of one agent: what they send and take, and that an account allows them.
use Rattle.std.proofs.Common.{◌≡◌, ℕ, ◌<◌, Bool, true, false, nat_le, ◌==◌, not, if◌then◌else◌, List, [], ◌∷◌, ◌++◌, Option, None, refl, sym, ap, ap₂, subst, ◌∙◌, inl, inr, arith}
use Rattle.std.specs.List.{All, Contains, fold, list_any}
use Rattle.std.proofs.lemmas.Bool.{cases_Bool, eqb-true, or_from, leb-true, false_from_ne_true, true≢false}
use Rattle.std.proofs.lemmas.List.{append_assoc}
use Rattle.std.proofs.lemmas.List.Elements.{All-head, All-tail}
use Rattle.std.proofs.lemmas.List.Concat.{flat_map-append}
use Rattle.dcop_base.specs.Table.{has}
use Rattle.protocol_steps.specs.declared.message.Message.{Message}
use Rattle.protocol_steps.specs.declared.event.EventFault.{EventFault}
use Rattle.protocol_steps.specs.View.{ended_of}
use Rattle.protocol_steps.specs.Step.{step_of}
use Rattle.protocol_steps.specs.Run.{ascends_from, has_nothing}
use Rattle.protocol_steps.specs.Stamps.{Gain, Deed, Posted, Account, post, letters_of, do_one}
use Rattle.protocol_steps.specs.Deeds.{takes_of, IsDeed, AreDeeds, envelope_to, posted_to, gain_from, gained_from}
use Rattle.worker_laws.specs.Visits.{IsFrom, IsTo}
use Rattle.worker_laws.specs.Acts.{IsAct, AreActs}
use Rattle.worker_laws.proofs.LaneLaws.{has_from_contains}

-- an account behind what was sent and taken before
abbrev pub behind : List Posted → List Gain → Account → Account
behind p g x = record { view = x.view; stamp = x.stamp; posted = p ++ x.posted; gains = g ++ x.gains }

pub behind_one : (p : List Posted) (g : List Gain) (x : Account) (d : Deed) → do_one (behind p g x) d ≡ behind p g (do_one x d)
behind_one p g x d =
    ap₂ (λ (ps : List Posted) (gs : List Gain). let y : Account = record { view = (step_of x.view (letters_of d.gains)).view; stamp = d.stamp; posted = ps; gains = gs } in y)
    (append_assoc p x.posted (post d.stamp (step_of x.view (letters_of d.gains)).sends)) (append_assoc g x.gains d.gains)

pub behind_all : (p : List Posted) (g : List Gain) (x : Account) (ds : List Deed) → fold do_one (behind p g x) ds ≡ behind p g (fold do_one x ds)
behind_all p g x [] = refl
behind_all p g x (d ∷ ds) = ap (λ (y : Account). fold do_one y ds) (behind_one p g x d) ∙ behind_all p g (do_one x d) ds

-- what was before changes nothing of what is allowed
pub acts_behind : (me : ℕ) (among : List ℕ) (p : List Posted) (g : List Gain) (x : Account) (ds : List Deed) → AreActs me among x ds → AreActs me among (behind p g x) ds
acts_behind me among p g x [] h = tt
acts_behind me among p g x (d ∷ ds) h = (
  record { own = h.0.own; live = h.0.live; some = h.0.some; ascend = h.0.ascend; senders = h.0.senders; receivers = h.0.receivers; right = h.0.right },
  subst (λ (y : Account). AreActs me among y ds) (sym (behind_one p g x d)) (acts_behind me among p g (do_one x d) ds h.1),
)

pub acts_append : (me : ℕ) (among : List ℕ) (x : Account) (ds es : List Deed) → AreActs me among x ds → AreActs me among (fold do_one x ds) es → AreActs me among x (ds ++ es)
acts_append me among x [] es h k = k
acts_append me among x (d ∷ ds) es h k = (h.0, acts_append me among (do_one x d) ds es h.1 k)

pub deeds_append : (n : ℕ) (x : Account) (ds es : List Deed) → AreDeeds n x ds → AreDeeds n (fold do_one x ds) es → AreDeeds n x (ds ++ es)
deeds_append n x [] es h k = k
deeds_append n x (d ∷ ds) es h k = (h.0, deeds_append n (do_one x d) ds es h.1 k)

-- of who is no peer nothing is taken, and nothing is sent to it
gained_none : (j : ℕ) (among : List ℕ) (gs : List Gain) → All (IsFrom among) gs → has among j ≡ false → gained_from j gs ≡ []
gained_none j among [] all out = refl
gained_none j among (g ∷ gs) all out = elim (cases_Bool (g.from == j)) [
  | inl here ↦
      let inside : has among j ≡ true = subst (λ (k : ℕ). has among k ≡ true) (eqb-true g.from j here) (has_from_contains among g.from (All-head (IsFrom among) g gs all)) in
      absurd (true≢false (sym inside ∙ out))
  | inr other ↦ ap (λ (b : Bool). (if b then g.envelopes else []) ++ gained_from j gs) other ∙ gained_none j among gs (All-tail (IsFrom among) g gs all) out
]

pub sent_none : (j : ℕ) (among : List ℕ) (stamp : ℕ) (ps : List (ℕ × Message)) → All (IsTo among) ps → has among j ≡ false → posted_to j (post stamp ps) ≡ []
sent_none j among stamp [] all out = refl
sent_none j among stamp (p ∷ ps) all out = elim (cases_Bool (p.0 == j)) [
  | inl here ↦
      let inside : has among j ≡ true = subst (λ (k : ℕ). has among k ≡ true) (eqb-true p.0 j here) (has_from_contains among p.0 (All-head (IsTo among) p ps all)) in
      absurd (true≢false (sym inside ∙ out))
  | inr other ↦
      ap (λ (b : Bool). (if b then (stamp, p.1) ∷ [] else []) ++ posted_to j (post stamp ps)) other ∙ sent_none j among stamp ps (All-tail (IsTo among) p ps all) out
]

pub acts_take_none : (me j : ℕ) (among : List ℕ) (x : Account) (ds : List Deed) → AreActs me among x ds → has among j ≡ false → gained_from j x.gains ≡ [] → gained_from j (fold do_one x ds).gains ≡ []
acts_take_none me j among x [] h out none = none
acts_take_none me j among x (d ∷ ds) h out none =
    acts_take_none me j among (do_one x d) ds h.1 out
    (flat_map-append (gain_from j) x.gains d.gains ∙ ap₂ (λ (es : List (ℕ × Message)) (fs : List (ℕ × Message)). es ++ fs) none (gained_none j among d.gains h.0.senders out))

pub acts_send_none : (me j : ℕ) (among : List ℕ) (x : Account) (ds : List Deed) → AreActs me among x ds → has among j ≡ false → posted_to j x.posted ≡ [] → posted_to j (fold do_one x ds).posted ≡ []
acts_send_none me j among x [] h out none = none
acts_send_none me j among x (d ∷ ds) h out none =
    acts_send_none me j among (do_one x d) ds h.1 out
    (flat_map-append (envelope_to j) x.posted (post d.stamp (step_of x.view (letters_of d.gains)).sends)
    ∙ ap₂ (λ (es : List (ℕ × Message)) (fs : List (ℕ × Message)). es ++ fs) none (sent_none j among d.stamp (step_of x.view (letters_of d.gains)).sends h.0.receivers out))

-- senders among agents are agents
below_agents : (n : ℕ) (among : List ℕ) (gs : List Gain) → All (λ j. j < n) among → All (IsFrom among) gs → list_any (λ t. nat_le n t.from) (takes_of gs) ≡ false
below_agents n among [] below all = refl
below_agents n among (g ∷ gs) below all =
    let from : Contains among g.from = All-head (IsFrom among) g gs all in
    let low : g.from < n = subst (λ (k : ℕ). k < n) from.2 (below from.0 g.from from.1) in
    or_from (nat_le n g.from) (list_any (λ t. nat_le n t.from) (takes_of gs))
    (false_from_ne_true (nat_le n g.from) (λ h. let high = leb-true n g.from h in omega (arith, high, low))) (below_agents n among gs below (All-tail (IsFrom among) g gs all))

no_form_fault : (a b c e : Bool) (x y z w : Option EventFault) → a ≡ false → b ≡ false → c ≡ false → e ≡ true → (if a then x else (if b then y else (if c then z else (if not e then w else None)))) ≡ None
no_form_fault a b c e x y z w p q r s = rw (p, q, r, s) refl

-- an activation among agents is one that the account allows
act_deed : (n me : ℕ) (among : List ℕ) (x : Account) (d : Deed) → me < n → All (λ j. j < n) among → IsAct me among x d → IsDeed n x d
act_deed n me among x d lt below h = record {
  known = subst (λ (k : ℕ). k < n) (sym h.own) lt;
  form =
      no_form_fault (list_any (λ t. nat_le n t.from) (takes_of d.gains)) (ended_of x.view) (has_nothing (takes_of d.gains)) (ascends_from 0 (takes_of d.gains)) _ _ _ _
      (below_agents n among d.gains below h.senders) h.live h.some h.ascend;
  right = h.right;
}

pub acts_deeds : (n me : ℕ) (among : List ℕ) (x : Account) (ds : List Deed) → me < n → All (λ j. j < n) among → AreActs me among x ds → AreDeeds n x ds
acts_deeds n me among x [] lt below h = tt
acts_deeds n me among x (d ∷ ds) lt below h = (act_deed n me among x d lt below h.0, acts_deeds n me among (do_one x d) ds lt below h.1)
