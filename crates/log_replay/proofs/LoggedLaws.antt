-- The merged journals of notes are the log of the run whose notes they are.
use Rattle.std.proofs.Common.{◌≡◌, ℕ, ◌≤◌, ◌<◌, Bool, true, false, ◌==◌, if◌then◌else◌, List, [], ◌∷◌, ◌++◌, map, length, Some, None, refl, sym, ap, subst, ◌∙◌, inl, inr, arith}
use Rattle.std.specs.List.{fold}
use Rattle.std.proofs.Math.Path.{fun_ext}
use Rattle.std.proofs.lemmas.Bool.{eqb-true, cases_Bool}
use Rattle.std.proofs.lemmas.Option.{slice_get_cases}
use Rattle.dcop_base.specs.Problem.{Dcop}
use Rattle.protocol_steps.specs.declared.event.Event.{Event}
use Rattle.protocol_steps.specs.declared.event.Entry.{Entry}
use Rattle.protocol_steps.specs.View.{View}
use Rattle.protocol_steps.specs.Step.{start_of}
use Rattle.protocol_steps.specs.Network.{Network, start_state}
use Rattle.protocol_steps.specs.Run.{run, journal}
use Rattle.protocol_steps.specs.Stamps.{Deed, Account, account_of, do_one}
use Rattle.protocol_steps.specs.Deeds.{takes_of, event_of as event_done, AreDeeds, deeds_of, after_all}
use Rattle.protocol_steps.specs.StampLaw.{TakenIsPrefix, Shows}
use Rattle.protocol_steps.specs.JournalStamps.{journal_at}
use Rattle.protocol_steps.proofs.JournalLaws.{journals_decide}
use Rattle.protocol_steps.proofs.JournalStampLaws.{starts_show, journal_of_deeds}
use Rattle.worker_laws.specs.Acts.{entry_of as entry_done, journal_of}
use Rattle.worker_laws.specs.Merges.{AscendsAbove, ComesFirst, IsOrdered, IsMerge, entries_in}
use Rattle.worker_laws.proofs.SortLaws.{First, Ordered, OfAgent}
use Rattle.worker_laws.proofs.MergeLaws.{one_merge}
use Rattle.worker_laws.proofs.TakeLaws.{deed_agent, deed_stamp, deeds_ascend}
use Rattle.worker_laws.proofs.PieceLaws.{Piece, piece, by_stamp}
use Rattle.run_log.specs.declared.log.LogEvent.{LogEvent}
use Rattle.run_log.specs.Logs.{entries_of, events_of}
use Rattle.run_log.specs.LogStamps.{start_stamps, stamp_difference, HasRightStamps}
use Rattle.run_log.proofs.TakenLaws.{logged}
use Rattle.run_log.proofs.StampStepLaws.{Marks, marks_start}
use Rattle.run_log.proofs.LogStampLaws.{Followed, followed, right_from}
use Rattle.log_replay.specs.Notes.{NotesView, AreNotes, IsLogOfRun, IsLogBy}

-- an activation as an entry with its agent
abbrev signed : Deed → ℕ × Entry
signed d = (d.agent, entry_done d)

signed_first : (d : Deed) (ds : List Deed) → First deed_agent deed_stamp d ds → ComesFirst (signed d) (map signed ds)
signed_first d [] h = tt
signed_first d (e ∷ es) h = (h.0, signed_first d es h.1)

signed_ordered : (ds : List Deed) → Ordered deed_agent deed_stamp ds → IsOrdered (map signed ds)
signed_ordered [] h = tt
signed_ordered (d ∷ ds) h = (signed_first d ds h.0, signed_ordered ds h.1)

signed_entries : (i : ℕ) (ds : List Deed) → entries_in i (map signed ds) ≡ journal_of (deeds_of i ds)
signed_entries i [] = refl
signed_entries i (d ∷ ds) = elim (cases_Bool (d.agent == i)) [
  | inl mine ↦
      ap (λ (b : Bool). (if b then entry_done d ∷ [] else []) ++ entries_in i (map signed ds)) mine
      ∙ ap (λ (es : List Entry). entry_done d ∷ es) (signed_entries i ds)
      ∙ sym (ap (λ (b : Bool). journal_of ((if b then d ∷ [] else []) ++ deeds_of i ds)) mine)
  | inr other ↦
      ap (λ (b : Bool). (if b then entry_done d ∷ [] else []) ++ entries_in i (map signed ds)) other
      ∙ signed_entries i ds
      ∙ sym (ap (λ (b : Bool). journal_of ((if b then d ∷ [] else []) ++ deeds_of i ds)) other)
]

-- entries with their agents as a log
abbrev unsigned : ℕ × Entry → LogEvent
unsigned a = record { agent = a.0; stamp = a.1.stamp; takes = a.1.takes }

unsigned_log : (log : List LogEvent) → map unsigned (entries_of log) ≡ log
unsigned_log [] = refl
unsigned_log (e ∷ log) = ap (λ (es : List LogEvent). e ∷ es) (unsigned_log log)

unsigned_deeds : (ds : List Deed) → map unsigned (map signed ds) ≡ map logged ds
unsigned_deeds [] = refl
unsigned_deeds (d ∷ ds) = ap (λ (es : List LogEvent). logged d ∷ es) (unsigned_deeds ds)

logged_events : (ds : List Deed) → events_of (map logged ds) ≡ map event_done ds
logged_events [] = refl
logged_events (d ∷ ds) = ap (λ (es : List Event). event_done d ∷ es) (logged_events ds)

-- the activations of one agent are its own, and who is no agent has none
own_case : (i : ℕ) (b : Bool) (d : Deed) (ds : List Deed) → (d.agent == i) ≡ b → OfAgent deed_agent deed_stamp i ds → OfAgent deed_agent deed_stamp i ((if b then d ∷ [] else []) ++ ds)
own_case i true d ds mine h = (eqb-true d.agent i mine, h)
own_case i false d ds other h = h

own_of : (i : ℕ) (ds : List Deed) → OfAgent deed_agent deed_stamp i (deeds_of i ds)
own_of i [] = tt
own_of i (d ∷ ds) = own_case i (d.agent == i) d (deeds_of i ds) refl (own_of i ds)

none_of : (n i : ℕ) (x : Account) (ds : List Deed) → OfAgent deed_agent deed_stamp i ds → AreDeeds n x ds → n ≤ i → ds ≡ []
none_of n i x [] of allowed past = refl
none_of n i x (d ∷ ds) of allowed past =
    let same : d.agent ≡ i = of.0 in
    let lt : d.agent < n = allowed.0.known in
    absurd (omega (arith, same, lt, past))

module _ (p : Dcop) (made : List View) (es : List Event) (end : Network) (v : NotesView) (k : AreNotes p made es end v) where
  abbrev n : ℕ
  n = length made

  abbrev own : ℕ → List Deed
  own i = deeds_of i k.deeds

  -- the stamps of each journal ascend
  pub notes_ascend : (i : ℕ) → AscendsAbove 0 (journal_at v.journals i)
  notes_ascend i = subst (λ (js : List Entry). AscendsAbove 0 js) (sym (k.journals i)) (deeds_ascend n 0 (k.now i) (own i) (omega arith) (k.allowed i))

  show : Shows n (start_state made) k.now × TakenIsPrefix k.now
  show = starts_show made k.now k.starts

  -- all activations by stamp
  whole : Piece n (start_state made) k.now own
  whole =
      piece n (start_state made) k.now own show.0 show.1 (λ i. own_of i k.deeds) k.allowed (λ i past. none_of n i (k.now i) (own i) (own_of i k.deeds) (k.allowed i) past) k.prefix

  abbrev all : List Deed
  all = whole.deeds

  whole_merge : IsMerge v.journals (map signed all)
  whole_merge = record {
    ordered = signed_ordered all whole.ordered;
    whole = λ i. signed_entries i all ∙ ap journal_of (whole.own_is i) ∙ sym (k.journals i);
  }

  journal_all : (i : ℕ) → journal i (map event_done all) ≡ journal i es
  journal_all i =
      journal_of_deeds i all
      ∙ ap (λ (ds : List Deed). map (λ (d : Deed). takes_of d.gains) ds) (whole.own_is i)
      ∙ sym (journal_of_deeds i k.deeds)
      ∙ ap (journal i) k.events

  same_next : after_all k.now k.deeds ≡ after_all k.now all
  same_next = fun_ext (λ i. ap (λ (ds : List Deed). fold do_one (k.now i) ds) (sym (whole.own_is i)))

  started : (i : ℕ) → i < n → (w : View) × (k.now i ≡ account_of w)
  started i lt = elim (slice_get_cases made i).1 [
    | inl there ↦ (there.0, k.starts.started i there.0 there.2)
    | inr past ↦ absurd (omega (arith, past.0, lt))
  ]

  marks : Marks n k.now (start_stamps (start_state made))
  marks =
      marks_start n (start_state made) k.now show.0 (λ i lt. ap (λ (x : Account). x.stamp) (started i lt).1)
      (λ i lt. ((start_of (started i lt).0).sends, ap (λ (x : Account). x.posted) (started i lt).1))

  module _ (ran : run (start_state made) es ≡ Some end) (log : List LogEvent) (m : IsMerge v.journals (entries_of log)) where
    same_end : whole.end ≡ end
    same_end = journals_decide (start_state made) whole.end end (map event_done all) es whole.leads ran journal_all

    log_is : map logged all ≡ log
    log_is =
        sym (unsigned_deeds all)
        ∙ ap (λ (l : List (ℕ × Entry)). map unsigned l) (one_merge v.journals (map signed all) (entries_of log) whole_merge m)
        ∙ unsigned_log log

    events_are : events_of log ≡ map event_done all
    events_are = ap events_of (sym log_is) ∙ logged_events all

    right : HasRightStamps made log
    right =
        subst (λ (l : List LogEvent). stamp_difference 1 (Some (start_state made)) (start_stamps (start_state made)) None l ≡ None) log_is
        (right_from n 1 all 0 (start_state made) k.now (start_stamps (start_state made)) None show.0 show.1
        (λ i. subst (λ (ds : List Deed). AreDeeds n (k.now i) ds) (sym (whole.own_is i)) (k.allowed i))
        (by_stamp all whole.ordered) (subst TakenIsPrefix same_next k.prefix) marks
        (subst (λ (l : List LogEvent). Followed None l) (sym log_is) (followed log m.ordered)))

    pub log_of_notes : IsLogOfRun made es end log
    log_of_notes = record {
      same = λ i. ap (journal i) events_are ∙ journal_all i;
      stamped = record {
        leads = ap (λ (fs : List Event). run (start_state made) fs) events_are ∙ whole.leads ∙ ap (λ (net : Network). Some net) same_end;
        right = right;
      };
    }

-- and so for each run whose notes they are
pub log_by : (v : NotesView) (log : List LogEvent) → IsMerge v.journals (entries_of log) → IsLogBy v log
log_by v log m p made es end ran k = log_of_notes p made es end v k ran log m
