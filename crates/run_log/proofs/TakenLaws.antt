-- The activations that a log tells, by the lists of messages that each agent took.
use Rattle.std.proofs.Common.{◌≡◌, ℕ, ◌+◌, ◌≤◌, ◌<◌, Bool, true, false, nat_le, ◌==◌, if◌then◌else◌, List, [], ◌∷◌, ◌++◌, map, length, take, refl, sym, ap, ap₂, subst, ◌∙◌, inl, inr, arith}
use Rattle.std.specs.List.{flat_map, list_any}
use Rattle.std.proofs.Math.Seq.{take-append_seam}
use Rattle.std.proofs.lemmas.Bool.{cases_eq, eq-eqb, ne_eqb, eqb-true, leb-true, leb-false, or_parts}
use Rattle.std.proofs.lemmas.List.{append-nil, append_assoc, take-append-drop, length-take-le, length-drop}
use Rattle.std.proofs.lemmas.List.Concat.{flat_map-append}
use Rattle.std.proofs.lemmas.List.Sums.{sum_by-cons, sum_by-append}
use Rattle.protocol_steps.specs.declared.message.Message.{Message}
use Rattle.protocol_steps.specs.declared.event.Take.{Take}
use Rattle.protocol_steps.specs.declared.event.Entry.{Entry}
use Rattle.protocol_steps.specs.Network.{taken_from}
use Rattle.protocol_steps.specs.Run.{ascends_from}
use Rattle.protocol_steps.specs.Stamps.{Gain, Deed, Account, do_one}
use Rattle.protocol_steps.specs.Deeds.{takes_of, AreDeeds, deeds_of, gain_from, gained_from}
use Rattle.protocol_steps.specs.StampLaw.{IsPrefix, ByStampFrom}
use Rattle.protocol_steps.specs.JournalStamps.{cut_off, left_of, deeds_from, AreEnough}
use Rattle.protocol_steps.proofs.AccountLaws.{none_below, form_parts}
use Rattle.worker_laws.specs.Merges.{ComesFirst, IsOrdered, entries_in}
use Rattle.worker_laws.proofs.TakeLaws.{gains_in}
use Rattle.run_log.specs.declared.log.LogEvent.{LogEvent}
use Rattle.run_log.specs.Logs.{entry_of, entries_of}

-- the messages that are left to each agent after an event
abbrev pub after_taking : (ℕ → ℕ → List (ℕ × Message)) → LogEvent → ℕ → ℕ → List (ℕ × Message)
after_taking lists e i = if e.agent == i then left_of (lists i) e.takes else lists i

-- the activation of an event
abbrev pub deed_in : (ℕ → ℕ → List (ℕ × Message)) → LogEvent → Deed
deed_in lists e = record { agent = e.agent; stamp = e.stamp; gains = map (cut_off (lists e.agent)) e.takes }

-- the activations of a log
abbrev pub deeds_in : (ℕ → ℕ → List (ℕ × Message)) → List LogEvent → List Deed
deeds_in lists [] = []
deeds_in lists (e ∷ log) = deed_in lists e ∷ deeds_in (after_taking lists e) log

-- an activation as an event of a log
abbrev pub logged : Deed → LogEvent
logged d = record { agent = d.agent; stamp = d.stamp; takes = takes_of d.gains }

own_step : (i : ℕ) (b : Bool) (lists : ℕ → ℕ → List (ℕ × Message)) (e : LogEvent) (ds : List Deed) (es : List Entry) → (e.agent == i) ≡ b
    → ds ≡ deeds_from i (after_taking lists e i) es
    → (if b then deed_in lists e ∷ [] else []) ++ ds ≡ deeds_from i (lists i) ((if b then (entry_of e).1 ∷ [] else []) ++ es)
own_step i true lists e ds es mine h =
    ap (λ (rest : List Deed). deed_in lists e ∷ rest) (h ∙ ap (λ (b : Bool). deeds_from i (if b then left_of (lists i) e.takes else lists i) es) mine)
    ∙ ap (λ (k : ℕ). let d : Deed = record { agent = k; stamp = e.stamp; gains = map (cut_off (lists k)) e.takes } in d ∷ deeds_from i (left_of (lists i) e.takes) es) (eqb-true e.agent i mine)
own_step i false lists e ds es other h = h ∙ ap (λ (b : Bool). deeds_from i (if b then left_of (lists i) e.takes else lists i) es) other

-- those of one agent are those of its entries
pub deeds_own : (i : ℕ) (lists : ℕ → ℕ → List (ℕ × Message)) (log : List LogEvent) → deeds_of i (deeds_in lists log) ≡ deeds_from i (lists i) (entries_in i (entries_of log))
deeds_own i lists [] = refl
deeds_own i lists (e ∷ log) =
    own_step i (e.agent == i) lists e (deeds_of i (deeds_in (after_taking lists e) log)) (entries_in i (entries_of log)) refl (deeds_own i (after_taking lists e) log)

-- takes of lists that are long enough are told again by what they cut off
pub takes_again : (lists : ℕ → List (ℕ × Message)) (ts : List Take) → ((j : ℕ) → taken_from j ts ≤ length (lists j)) → takes_of (map (cut_off lists) ts) ≡ ts
takes_again lists [] enough = refl
takes_again lists (t ∷ ts) enough =
    let own : taken_from t.from (t ∷ ts) ≡ t.count + taken_from t.from ts =
    sum_by-cons (λ (u : Take). if u.from == t.from then u.count else 0) t ts ∙ ap (λ (b : Bool). (if b then t.count else 0) + taken_from t.from ts) (eq-eqb t.from t.from refl) in
    let fits = enough t.from in
    let count : length (take t.count (lists t.from)) ≡ t.count = length-take-le t.count (lists t.from) (omega (arith, own, fits)) in
    let later : (j : ℕ) → taken_from j ts ≤ length (lists j) = λ j.
    let sum = sum_by-cons (λ (u : Take). if u.from == j then u.count else 0) t ts in
    let all = enough j in omega (arith, sum, all) in
    ap (λ (k : ℕ). let u : Take = record { from = t.from; count = k } in u ∷ takes_of (map (cut_off lists) ts)) count ∙ ap (λ (us : List Take). t ∷ us) (takes_again lists ts later)

-- lists that are enough for entries are enough for the first one and then for the others
taken_sum : (j : ℕ) (e : Entry) (es : List Entry) → taken_from j (flat_map (λ f. f.takes) (e ∷ es)) ≡ taken_from j e.takes + taken_from j (flat_map (λ f. f.takes) es)
taken_sum j e es = sum_by-append (λ (u : Take). if u.from == j then u.count else 0) e.takes (flat_map (λ f. f.takes) es)

pub enough_now : (lists : ℕ → List (ℕ × Message)) (e : Entry) (es : List Entry) → AreEnough lists (e ∷ es) → (j : ℕ) → taken_from j e.takes ≤ length (lists j)
enough_now lists e es enough j = let both = taken_sum j e es in let all = enough j in omega (arith, both, all)

pub enough_later : (lists : ℕ → List (ℕ × Message)) (e : Entry) (es : List Entry) → AreEnough lists (e ∷ es) → AreEnough (left_of lists e.takes) es
enough_later lists e es enough j =
    let both = taken_sum j e es in let all = enough j in let left = length-drop (taken_from j e.takes) (lists j) in omega (arith, both, all, left)

-- a log is told again by its activations
enough_after : (i : ℕ) (b : Bool) (lists : ℕ → List (ℕ × Message)) (e : Entry) (es : List Entry) → AreEnough lists ((if b then e ∷ [] else []) ++ es) → AreEnough (if b then left_of lists e.takes else lists) es
enough_after i true lists e es h = enough_later lists e es h
enough_after i false lists e es h = h

pub told_again : (lists : ℕ → ℕ → List (ℕ × Message)) (log : List LogEvent) → ((i : ℕ) → AreEnough (lists i) (entries_in i (entries_of log))) → map logged (deeds_in lists log) ≡ log
told_again lists [] enough = refl
told_again lists (e ∷ log) enough =
    let own : AreEnough (lists e.agent) ((entry_of e).1 ∷ entries_in e.agent (entries_of log)) =
    subst (λ (b : Bool). AreEnough (lists e.agent) ((if b then (entry_of e).1 ∷ [] else []) ++ entries_in e.agent (entries_of log))) (eq-eqb e.agent e.agent refl) (enough e.agent) in
    let takes = takes_again (lists e.agent) e.takes (enough_now (lists e.agent) (entry_of e).1 (entries_in e.agent (entries_of log)) own) in
    ap (λ (ts : List Take). let f : LogEvent = record { agent = e.agent; stamp = e.stamp; takes = ts } in f ∷ map logged (deeds_in (after_taking lists e) log)) takes
    ∙ ap (λ (rest : List LogEvent). e ∷ rest) (told_again (after_taking lists e) log (λ i. enough_after i (e.agent == i) (lists i) (entry_of e).1 (entries_in i (entries_of log)) (enough i)))

-- the activations of an ordered log are by stamp
stamped_behind : (lists : ℕ → ℕ → List (ℕ × Message)) (e : LogEvent) (log : List LogEvent) → ComesFirst (entry_of e) (entries_of log) → IsOrdered (entries_of log) → ByStampFrom e.stamp (deeds_in lists log)
stamped_behind lists e [] first h = tt
stamped_behind lists e (f ∷ log) first h = (
  elim first.0 [ inl less ↦ omega (arith, less) | inr tie ↦ let same = tie.0 in omega (arith, same) ],
  stamped_behind (after_taking lists f) f log h.0 h.1,
)

pub deeds_by_stamp : (lists : ℕ → ℕ → List (ℕ × Message)) (log : List LogEvent) → IsOrdered (entries_of log) → ByStampFrom 0 (deeds_in lists log)
deeds_by_stamp lists [] h = tt
deeds_by_stamp lists (e ∷ log) h = (omega arith, stamped_behind (after_taking lists e) e log h.0 h.1)

then_both : (b x : Bool) → (if b then x else false) ≡ true → (b ≡ true) × (x ≡ true)
then_both true x h = (refl, h)
then_both false x h = absurd (cc)

-- what ascending takes cut off one list is its first part
none_taken : (ts : List Take) (b j : ℕ) → ascends_from b ts ≡ true → j < b → taken_from j ts ≡ 0
none_taken [] b j h lt = refl
none_taken (t ∷ ts) b j h lt =
    let parts = then_both (nat_le b t.from) (ascends_from (t.from + 1) ts) h in
    let le : b ≤ t.from = leb-true b t.from parts.0 in
    let sum = sum_by-cons (λ (u : Take). if u.from == j then u.count else 0) t ts in
    let other : (if t.from == j then t.count else 0) ≡ 0 = ap (λ (x : Bool). if x then t.count else 0) (ne_eqb t.from j (λ e. omega (arith, e, le, lt))) in
    let rest = none_taken ts (t.from + 1) j parts.1 (omega (arith, le, lt)) in
    omega (arith, sum, other, rest)

cut_first : (lists : ℕ → List (ℕ × Message)) (ts : List Take) (b j : ℕ) → ascends_from b ts ≡ true → gained_from j (map (cut_off lists) ts) ≡ take (taken_from j ts) (lists j)
cut_first lists [] b j h = refl
cut_first lists (t ∷ ts) b j h =
    let parts = then_both (nat_le b t.from) (ascends_from (t.from + 1) ts) h in
    let sum = sum_by-cons (λ (u : Take). if u.from == j then u.count else 0) t ts in
    let rest = cut_first lists ts (t.from + 1) j parts.1 in
    elim (cases_eq t.from j) [
      | inl same ↦
          let none : taken_from j ts ≡ 0 = none_taken ts (t.from + 1) j parts.1 (omega (arith, same)) in
          let here : (if t.from == j then t.count else 0) ≡ t.count = ap (λ (x : Bool). if x then t.count else 0) (eq-eqb t.from j same) in
          let all : t.count ≡ taken_from j (t ∷ ts) = omega (arith, sum, none, here) in
          ap (λ (x : Bool). (if x then take t.count (lists t.from) else []) ++ gained_from j (map (cut_off lists) ts)) (eq-eqb t.from j same)
          ∙ ap (λ (es : List (ℕ × Message)). take t.count (lists t.from) ++ es) (rest ∙ ap (λ (k : ℕ). take k (lists j)) none)
          ∙ append-nil (take t.count (lists t.from))
          ∙ ap₂ (λ (c k : ℕ). take c (lists k)) all same
      | inr other ↦
          let here : (if t.from == j then t.count else 0) ≡ 0 = ap (λ (x : Bool). if x then t.count else 0) (ne_eqb t.from j other) in
          let all : taken_from j ts ≡ taken_from j (t ∷ ts) = omega (arith, sum, here) in
          ap (λ (x : Bool). (if x then take t.count (lists t.from) else []) ++ gained_from j (map (cut_off lists) ts)) (ne_eqb t.from j other)
          ∙ rest
          ∙ ap (λ (k : ℕ). take k (lists j)) all
    ]

-- what ascending takes cut off lists that begin with these gains are the gains
pub cut_again : (gs : List Gain) (b : ℕ) (lists more : ℕ → List (ℕ × Message)) → ascends_from b (takes_of gs) ≡ true → ((j : ℕ) → b ≤ j → lists j ≡ gained_from j gs ++ more j)
    → map (cut_off lists) (takes_of gs) ≡ gs
cut_again [] b lists more up same = refl
cut_again (g ∷ gs) b lists more up same =
    let parts = then_both (nat_le b g.from) (ascends_from (g.from + 1) (takes_of gs)) up in
    let le : b ≤ g.from = leb-true b g.from parts.0 in
    let own : gained_from g.from (g ∷ gs) ≡ g.envelopes =
    ap (λ (t : Bool). (if t then g.envelopes else []) ++ gained_from g.from gs) (eq-eqb g.from g.from refl)
    ∙ ap (λ (es : List (ℕ × Message)). g.envelopes ++ es) (none_below gs (g.from + 1) g.from parts.1 (omega arith)) ∙ append-nil g.envelopes in
    let front : take (length g.envelopes) (lists g.from) ≡ g.envelopes =
    ap (λ (es : List (ℕ × Message)). take (length g.envelopes) es) (same g.from le ∙ ap (λ (es : List (ℕ × Message)). es ++ more g.from) own) ∙ take-append_seam g.envelopes (more g.from) in
    ap₂ (λ (es : List (ℕ × Message)) (hs : List Gain). let h : Gain = record { from = g.from; envelopes = es } in h ∷ hs) front
    (cut_again gs (g.from + 1) lists more parts.1 (λ j low. same j (omega (arith, le, low))
    ∙ ap (λ (t : Bool). ((if t then g.envelopes else []) ++ gained_from j gs) ++ more j) (ne_eqb g.from j (λ e. omega (arith, e, low)))))

-- what an agent's activations gain of another is a first part of the messages that it took of it
pub gained_first : (n i : ℕ) (x : Account) (lists : ℕ → List (ℕ × Message)) (es : List Entry) → AreDeeds n x (deeds_from i lists es) → AreEnough lists es → (j : ℕ)
    → IsPrefix (gained_from j (gains_in (deeds_from i lists es))) (lists j)
gained_first n i x lists [] allowed enough j = (lists j, refl)
gained_first n i x lists (e ∷ es) allowed enough j =
    let gains : List Gain = map (cut_off lists) e.takes in
    let takes = takes_again lists e.takes (enough_now lists e es enough) in
    let up : ascends_from 0 e.takes ≡ true = ap (ascends_from 0) (sym takes) ∙ (form_parts n _ (takes_of gains) allowed.0.form).1 in
    let first : gained_from j gains ≡ take (taken_from j e.takes) (lists j) = cut_first lists e.takes 0 j up in
    let d : Deed = record { agent = i; stamp = e.stamp; gains = gains } in
    let later : List Gain = gains_in (deeds_from i (left_of lists e.takes) es) in
    let rest = gained_first n i (do_one x d) (left_of lists e.takes) es allowed.1 (enough_later lists e es enough) j in (
      rest.0,
      ap (λ (ms : List (ℕ × Message)). ms ++ rest.0) (flat_map-append (gain_from j) gains later)
          ∙ append_assoc (gained_from j gains) (gained_from j later) rest.0
          ∙ ap₂ (λ (ms ns : List (ℕ × Message)). ms ++ ns) first rest.1
          ∙ take-append-drop (taken_from j e.takes) (lists j),
    )

-- nothing is gained of who is no agent
none_known : (n j : ℕ) (gs : List Gain) → list_any (λ t. nat_le n t.from) (takes_of gs) ≡ false → n ≤ j → gained_from j gs ≡ []
none_known n j [] h le = refl
none_known n j (g ∷ gs) h le =
    let parts = or_parts (nat_le n g.from) (list_any (λ t. nat_le n t.from) (takes_of gs)) h in
    let lt : g.from < n = leb-false n g.from parts.0 in
    ap (λ (x : Bool). (if x then g.envelopes else []) ++ gained_from j gs) (ne_eqb g.from j (λ e. omega (arith, e, lt, le))) ∙ none_known n j gs parts.1 le

pub none_gained : (n j : ℕ) (x : Account) (ds : List Deed) → AreDeeds n x ds → n ≤ j → gained_from j (gains_in ds) ≡ []
none_gained n j x [] h le = refl
none_gained n j x (d ∷ ds) h le =
    flat_map-append (gain_from j) d.gains (gains_in ds)
    ∙ ap₂ (λ (ms ns : List (ℕ × Message)). ms ++ ns) (none_known n j d.gains (form_parts n _ (takes_of d.gains) h.0.form).0 le) (none_gained n j (do_one x d) ds h.1 le)
