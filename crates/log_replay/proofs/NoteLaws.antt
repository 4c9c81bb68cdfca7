-- One more event, by the notes of a run.
use Rattle.std.proofs.Common.{◌≡◌, ℕ, ◌+◌, ◌<◌, ◌≤◌, Bool, true, false, max, nat_le, if◌then◌else◌, List, [], ◌∷◌, ◌++◌, map, length, replicate, get_or, Option, Some, None, refl, sym, ap, ap₂, subst, ◌∙◌, inl, inr, arith}
use Rattle.std.specs.List.{fold, slice_set, list_any, All}
use Rattle.std.specs.Option.{option_map}
use Rattle.std.proofs.lemmas.Bool.{cases_eq, cases_lt, eq-eqb, ne_eqb}
use Rattle.std.proofs.lemmas.Option.{same_Some, slice_get_within, slice_get_cases}
use Rattle.std.proofs.lemmas.List.{append-nil, map-append, length-append, length-map, length-set, length-replicate, get_or-set_same, get_or-set_other, get_or_past, get_or-replicate}
use Rattle.std.proofs.lemmas.List.Concat.{flat_map-append}
use Rattle.dcop_base.specs.Limits.{amount_limit, count_limit}
use Rattle.dcop_base.specs.Problem.{Dcop}
use Rattle.protocol_steps.specs.declared.message.Message.{Message}
use Rattle.protocol_steps.specs.declared.event.Take.{Take}
use Rattle.protocol_steps.specs.declared.event.Event.{Event}
use Rattle.protocol_steps.specs.declared.event.Entry.{Entry}
use Rattle.protocol_steps.specs.View.{View, ended_of}
use Rattle.protocol_steps.specs.Step.{start_of}
use Rattle.protocol_steps.specs.Network.{Network, start_state, taken_from, waiting, link}
use Rattle.protocol_steps.specs.Effect.{effect}
use Rattle.protocol_steps.specs.Run.{event_fault, form_fault, too_many, ascends_from}
use Rattle.protocol_steps.specs.Stamps.{Gain, Deed, Account, account_of}
use Rattle.protocol_steps.specs.Deeds.{takes_of, greatest_of, event_of as event_done, IsDeed, AreDeeds, own_deed, deeds_of, after_all, posted_to, gained_from}
use Rattle.protocol_steps.specs.StampLaw.{IsPrefix, TakenIsPrefix, Shows}
use Rattle.protocol_steps.specs.JournalStamps.{cut_off, journal_at, AreEnough}
use Rattle.protocol_steps.proofs.RunLaws.{happens_next}
use Rattle.protocol_steps.proofs.EventLaws.{Happens, happens_from, both_none}
use Rattle.protocol_steps.proofs.AccountLaws.{form_parts}
use Rattle.protocol_steps.proofs.StampLaws.{after_one, same_after, same_pieces, still_prefix, longer_prefix, waits_by}
use Rattle.protocol_steps.proofs.JournalStampLaws.{starts_show}
use Rattle.worker_laws.specs.Acts.{entry_of, journal_of}
use Rattle.worker_laws.proofs.ActLaws.{deeds_append}
use Rattle.worker_laws.proofs.TellLaws.{first, starts}
use Rattle.run_log.specs.declared.log.LogEvent.{LogEvent}
use Rattle.run_log.specs.LogStamps.{LinkStamps, start_stamps, stamps_after, taken_stamps}
use Rattle.run_log.proofs.TakenLaws.{logged, takes_again, gained_first}
use Rattle.run_log.proofs.StampStepLaws.{Marks, right_is as right_of, marks_after, marks_start}
use Rattle.run_log.proofs.LogStampLaws.{own_alone, Next, next_of}
use Rattle.delivery_core.specs.State.{SeatView, CoreView}
use Rattle.delivery_core.specs.Shown.{IsCore}
use Rattle.log_replay.specs.Queues.{stamp_by}
use Rattle.log_replay.specs.Notes.{NotesView, entered, first_notes, noted, AreNotes, MayBeNotes, KeepNotes, HasHappened, NotesEvent, StartNotes}
use Rattle.log_replay.proofs.MaxLaws.{greatest_replicate}
use Rattle.log_replay.proofs.FollowLaws.{all_known, agent_there, senders_there, right_is, right_few, right_within, last_within, sent_within, are_after}
use Rattle.log_replay.proofs.StartLaws.{are_first}
use Rattle.log_replay.proofs.TakesLaws.{none_past, fits_from}

module _ (p : Dcop) (made : List View) (before : List Event) (net : Network) (v : NotesView) (k : AreNotes p made before net v) (i : ℕ) (ts : List Take) where
  abbrev n : ℕ
  n = length made

  abbrev acc : ℕ → Account
  acc = after_all k.now k.deeds

  abbrev e : Event
  e = record { agent = i; takes = ts }

  abbrev stamp : ℕ
  stamp = stamp_by v.stamps i ts

  abbrev le : LogEvent
  le = record { agent = i; stamp = stamp; takes = ts }

  views_size : length net.views ≡ length p.sizes
  views_size = k.shows.agents ∙ k.agents

  desks_size : length net.desks ≡ length p.sizes
  desks_size = k.shows.size ∙ k.agents

  module _ (fine : event_fault net e ≡ None) where
    -- what the calls need to know
    pub in_last : i < length v.stamps.last
    in_last = slice_get_within v.stamps.last i (k.marks.last i) (k.stamps.last i (agent_there p net k.marks v.stamps le k.stamps views_size desks_size fine))

    pub in_rows : i < length v.stamps.rows
    in_rows = let lt = agent_there p net k.marks v.stamps le k.stamps views_size desks_size fine in let size = k.stamps.size in omega (arith, lt, size)

    pub in_journals : i < length v.journals
    in_journals = let lt = agent_there p net k.marks v.stamps le k.stamps views_size desks_size fine in let size = k.sized in let many = k.agents in omega (arith, lt, size, many)

    pub senders_in : All (λ t. t.from < length v.stamps.rows) ts
    senders_in = subst (λ (m : ℕ). All (λ t. t.from < m) ts) (sym k.stamps.size) (all_known (length p.sizes) ts (senders_there p net k.marks v.stamps le k.stamps views_size desks_size fine))

    pub stamp_few : stamp ≤ count_limit
    stamp_few = right_few p net k.marks v.stamps le k.stamps views_size desks_size fine

    -- no stamp is above the number of events
    pub stamp_within : stamp ≤ length before + 1
    stamp_within = right_within p net k.marks v.stamps le k.stamps views_size desks_size fine (length before) k.few k.bounded

    longer : length (before ++ e ∷ []) ≡ length before + 1
    longer = length-append before (e ∷ [])

    abbrev next : Network
    next = effect net e

    inside : i < n
    inside = let lt = agent_there p net k.marks v.stamps le k.stamps views_size desks_size fine in let many = k.agents in omega (arith, lt, many)

    happens : Happens net e next
    happens = happens_from net next e (happens_next net e fine)

    view_is : happens.view ≡ (acc i).view
    view_is = same_Some happens.view (acc i).view (sym happens.views ∙ k.shows.views i inside)

    faults : (form_fault (length net.desks) (ended_of happens.view) ts ≡ None) × (too_many net.desks i ts ≡ None)
    faults = both_none (form_fault (length net.desks) (ended_of happens.view) ts) (too_many net.desks i ts) happens.fine

    form : form_fault n (ended_of (acc i).view) ts ≡ None
    form =
        subst (λ (w : View). form_fault n (ended_of w) ts ≡ None) view_is
        (subst (λ (m : ℕ). form_fault m (ended_of happens.view) ts ≡ None) k.shows.size faults.0)

    parts : (list_any (λ t. nat_le n t.from) ts ≡ false) × (ascends_from 0 ts ≡ true)
    parts = form_parts n (ended_of (acc i).view) ts form

    -- what waits for the agent
    abbrev lists : ℕ → List (ℕ × Message)
    lists j = (k.prefix i j).0

    enough : (j : ℕ) → taken_from j ts ≤ length (lists j)
    enough j = elim (cases_lt j n) [
      | inl lt ↦
          let fits = fits_from net.desks i 0 j ts parts.1 faults.1 in
          let waits : length (waiting net.desks i j) ≡ length (lists j) = ap length (waits_by n net acc k.shows i j inside lt (k.prefix i j)) ∙ length-map (lists j) (λ (m : ℕ × Message). m.1) in
          omega (arith, fits, waits)
      | inr past ↦ let none = none_past n j ts parts.0 past in omega (arith, none)
    ]

    abbrev gains : List Gain
    gains = map (cut_off lists) ts

    again : takes_of gains ≡ ts
    again = takes_again lists ts enough

    -- the activation with the stamp that its account asks for
    abbrev due : Deed
    due = record { agent = i; stamp = max (acc i).stamp (greatest_of gains) + 1; gains = gains }

    due_form : form_fault n (ended_of (acc i).view) (takes_of gains) ≡ None
    due_form = subst (λ (us : List Take). form_fault n (ended_of (acc i).view) us ≡ None) (sym again) form

    due_is : IsDeed n (acc i) due
    due_is = record { known = inside; form = due_form; right = refl }

    -- it takes the first part of what waits
    next_part : (j : ℕ) → IsPrefix (gained_from j gains) (lists j)
    next_part j =
        let x : Entry = record { stamp = due.stamp; takes = ts } in
        let all : AreEnough lists (x ∷ []) = λ m. subst (λ (us : List Take). taken_from m us ≤ length (lists m)) (sym (append-nil ts)) (enough m) in
        subst (λ (gs : List Gain). IsPrefix (gained_from j gs) (lists j)) (append-nil gains) (gained_first n i (acc i) lists (x ∷ []) (due_is, tt) all j)

    marks : Marks n acc k.marks
    marks = record { last = k.last; sent = k.sent }

    -- and its stamp is that of the notes
    stamp_is : stamp ≡ due.stamp
    stamp_is =
        right_is p net k.marks v.stamps le k.stamps views_size desks_size fine
        ∙ ap (λ (us : List Take). max (k.marks.last i) (fold max 0 (taken_stamps net k.marks i us)) + 1) (sym again)
        ∙ sym (right_of n net acc k.marks due k.shows marks due_is k.prefix next_part)

    abbrev d : Deed
    d = record { agent = i; stamp = stamp; gains = gains }

    d_is : IsDeed n (acc i) d
    d_is = record { known = inside; form = due_form; right = stamp_is }

    event_same : event_done d ≡ e
    event_same = ap (λ (us : List Take). let f : Event = record { agent = i; takes = us } in f) again

    logged_same : logged d ≡ le
    logged_same = ap (λ (us : List Take). let f : LogEvent = record { agent = i; stamp = stamp; takes = us } in f) again

    entry_same : entry_of d ≡ record { stamp = stamp; takes = ts }
    entry_same = ap (λ (us : List Take). let f : Entry = record { stamp = stamp; takes = us } in f) again

    taken : TakenIsPrefix (after_one acc d)
    taken = still_prefix acc d k.prefix (λ j. longer_prefix j (acc i).gains gains (posted_to i (acc j).posted) (k.prefix i j) (next_part j))

    one : Next n net acc d
    one = next_of n net acc d k.shows k.prefix d_is taken

    one_is : one.net_is ≡ next
    one_is = sym one.effected ∙ ap (effect net) event_same

    shows_next : Shows n next (after_one acc d)
    shows_next = subst (λ (m : Network). Shows n m (after_one acc d)) one_is one.shows

    abbrev all : List Deed
    all = k.deeds ++ d ∷ []

    grown : after_one acc d ≡ after_all k.now all
    grown = same_after acc d [] ∙ same_pieces k.now k.deeds (d ∷ [])

    own_grown : (j : ℕ) → deeds_of j all ≡ deeds_of j k.deeds ++ deeds_of j (d ∷ [])
    own_grown j = flat_map-append (own_deed j) k.deeds (d ∷ [])

    allowed : (j : ℕ) → AreDeeds n (k.now j) (deeds_of j all)
    allowed j =
        subst (λ (ds : List Deed). AreDeeds n (k.now j) ds) (sym (own_grown j))
        (deeds_append n (k.now j) (deeds_of j k.deeds) (deeds_of j (d ∷ [])) (k.allowed j) (own_alone n acc d d_is j))

    journal_grown : (j : ℕ) → journal_of (deeds_of j all) ≡ journal_of (deeds_of j k.deeds) ++ journal_of (deeds_of j (d ∷ []))
    journal_grown j = ap journal_of (own_grown j) ∙ map-append entry_of (deeds_of j k.deeds) (deeds_of j (d ∷ []))

    journals : (j : ℕ) → journal_at (entered i (record { stamp = stamp; takes = ts }) v.journals) j ≡ journal_of (deeds_of j all)
    journals j =
        let x : Entry = record { stamp = stamp; takes = ts } in
        let longer : List Entry = journal_at v.journals i ++ x ∷ [] in
        elim (cases_eq i j) [
          | inl same ↦
              subst (λ (m : ℕ). get_or (slice_set v.journals i longer) m [] ≡ journal_of (deeds_of m all)) same
              (get_or-set_same v.journals i longer [] in_journals
              ∙ ap (λ (es : List Entry). es ++ x ∷ []) (k.journals i)
              ∙ ap (λ (y : Entry). journal_of (deeds_of i k.deeds) ++ y ∷ []) (sym entry_same)
              ∙ ap (λ (b : Bool). journal_of (deeds_of i k.deeds) ++ journal_of ((if b then d ∷ [] else []) ++ [])) (sym (eq-eqb i i refl))
              ∙ sym (journal_grown i))
          | inr other ↦
              get_or-set_other v.journals i j longer [] (λ back. other (sym back))
              ∙ k.journals j
              ∙ sym (append-nil (journal_of (deeds_of j k.deeds)))
              ∙ ap (λ (b : Bool). journal_of (deeds_of j k.deeds) ++ journal_of ((if b then d ∷ [] else []) ++ [])) (sym (ne_eqb i j other))
              ∙ sym (journal_grown j)
        ]

    module _ (core : CoreView) (after : IsCore p next core) (small : stamp ≤ amount_limit) where
      abbrev s : LinkStamps
      s = stamps_after net k.marks le next

      later : Marks n (after_all k.now all) s
      later =
          subst (λ (f : ℕ → Account). Marks n f s) grown
          (subst (λ (x : LogEvent). Marks n (after_one acc d) (stamps_after net k.marks x next)) logged_same (marks_after n net next acc k.marks d k.shows shows_next marks))

      -- the notes after the event
      pub noted_next : AreNotes p made (before ++ e ∷ []) next (noted core i ts v)
      noted_next = let within = stamp_within in let size = longer in record {
        agents = k.agents;
        now = k.now;
        starts = k.starts;
        deeds = all;
        events = map-append event_done k.deeds (d ∷ []) ∙ ap₂ (λ (es : List Event) (f : Event). es ++ f ∷ []) k.events event_same;
        allowed = allowed;
        shows = subst (λ (f : ℕ → Account). Shows n next f) grown shows_next;
        prefix = subst TakenIsPrefix grown taken;
        marks = s;
        last = later.last;
        sent = later.sent;
        few = λ j. last_within p net k.marks v.stamps le k.stamps views_size desks_size fine (length (before ++ e ∷ [])) (omega (arith, within, size)) j (let old = k.few j in omega (arith, old, size));
        bounded = λ a b.
            sent_within p net k.marks v.stamps le k.stamps views_size desks_size fine (length (before ++ e ∷ [])) (omega (arith, within, size)) a b (let old = k.bounded a b in omega (arith, old, size));
        stamps = are_after p net k.marks v.stamps le k.stamps views_size desks_size fine core after small;
        sized = length-set v.journals i _ ∙ k.sized;
        journals = journals;
      }

-- the notes where all agents have started
module _ (p : Dcop) (made : List View) (core : CoreView) (is : IsCore p (start_state made) core) where
  many : length made ≡ length p.sizes
  many =
      let views = ap (λ (vs : List View). length vs) is.shows.views in
      let seats = length-map core.seats (λ (x : SeatView). x.view) in
      let first_views = length-map made (λ (w : View). (start_of w).view) in
      let size = is.shows.size in
      omega (arith, views, seats, first_views, size)

  started : (i : ℕ) → i < length made → (w : View) × (first made i ≡ account_of w)
  started i lt = elim (slice_get_cases made i).1 [
    | inl there ↦ (there.0, (starts made).started i there.0 there.2)
    | inr past ↦ absurd (omega (arith, past.0, lt))
  ]

  show : Shows (length made) (start_state made) (first made) × TakenIsPrefix (first made)
  show = starts_show made (first made) (starts made)

  first_marks : Marks (length made) (first made) (start_stamps (start_state made))
  first_marks =
      marks_start (length made) (start_state made) (first made) show.0 (λ i lt. ap (λ (x : Account). x.stamp) (started i lt).1)
      (λ i lt. ((start_of (started i lt).0).sends, ap (λ (x : Account). x.posted) (started i lt).1))

  abbrev none : List Entry
  none = []

  no_entries : (i : ℕ) → journal_at (replicate (length p.sizes) none) i ≡ none
  no_entries i = elim (cases_lt i (length p.sizes)) [
    | inl lt ↦ get_or-replicate (length p.sizes) i none none lt
    | inr past ↦ get_or_past (replicate (length p.sizes) none) i none (let size = length-replicate (length p.sizes) none in omega (arith, size, past))
  ]

  pub noted_first : AreNotes p made [] (start_state made) (first_notes p core)
  noted_first = record {
    agents = many;
    now = first made;
    starts = starts made;
    deeds = [];
    events = refl;
    allowed = λ i. tt;
    shows = show.0;
    prefix = show.1;
    marks = start_stamps (start_state made);
    last = first_marks.last;
    sent = first_marks.sent;
    few = λ i. omega arith;
    bounded = λ i j. let most = greatest_replicate (length (link (start_state made).desks j i)) 0 in omega (arith, most);
    stamps = are_first p made core is;
    sized = length-replicate (length p.sizes) none ∙ sym many;
    journals = no_entries;
  }

-- what the calls need to know of notes, if they are kept
module _ (i : ℕ) (ts : List Take) (s : CoreView) (notes : Option NotesView) (h : HasHappened i ts s notes) where
  kept : (v : NotesView) → notes ≡ Some v → AreNotes h.0 h.2 h.3 h.1 v
  kept v is = subst (λ (o : Option NotesView). MayBeNotes h.0 h.2 h.3 h.1 o) is h.6

  pub happened_last : (v : NotesView) → notes ≡ Some v → i < length v.stamps.last
  happened_last v is = in_last h.0 h.2 h.3 h.1 v (kept v is) i ts h.4

  pub happened_row : (v : NotesView) → notes ≡ Some v → i < length v.stamps.rows
  happened_row v is = in_rows h.0 h.2 h.3 h.1 v (kept v is) i ts h.4

  pub happened_journal : (v : NotesView) → notes ≡ Some v → i < length v.journals
  happened_journal v is = in_journals h.0 h.2 h.3 h.1 v (kept v is) i ts h.4

  pub happened_senders : (v : NotesView) → notes ≡ Some v → All (λ t. t.from < length v.stamps.rows) ts
  happened_senders v is = senders_in h.0 h.2 h.3 h.1 v (kept v is) i ts h.4

  pub happened_few : (v : NotesView) → notes ≡ Some v → stamp_by v.stamps i ts ≤ count_limit
  happened_few v is = stamp_few h.0 h.2 h.3 h.1 v (kept v is) i ts h.4

  pub happened_small : (v : NotesView) → notes ≡ Some v → stamp_by v.stamps i ts ≤ amount_limit
  happened_small v is = let within = stamp_within h.0 h.2 h.3 h.1 v (kept v is) i ts h.4 in let few = h.7 in omega (arith, within, few)

-- the notes after the event, if they are kept
pub notes_event : (i : ℕ) (ts : List Take) (s : CoreView) (old new : Option NotesView) → new ≡ option_map (noted s i ts) old
    → ((v : NotesView) → old ≡ Some v → stamp_by v.stamps i ts ≤ amount_limit) → NotesEvent i ts s old new
notes_event i ts s None new is small = λ p net fine core.
    let e : Event = record { agent = i; takes = ts } in
    subst (λ (o : Option NotesView). KeepNotes p net (e ∷ []) None o) (sym is) (refl, λ made before h. tt)
notes_event i ts s (Some v) new is small = λ p net fine core.
    let e : Event = record { agent = i; takes = ts } in
    subst (λ (o : Option NotesView). KeepNotes p net (e ∷ []) (Some v) o) (sym is) (refl, λ made before h. noted_next p made before net v h i ts fine s core (small v refl))

-- the notes at the start
pub notes_start : (p : Dcop) (s : CoreView) (v : NotesView) → v ≡ first_notes p s → StartNotes p s (Some v)
notes_start p s v is = λ made core. subst (λ (w : NotesView). AreNotes p made [] (start_state made) w) (sym is) (noted_first p made s core)
