-- Cells that were played in rounds have made a run.
use Rattle.std.proofs.Common.{◌≡◌, ℕ, ◌<◌, Bool, ◌==◌, if◌then◌else◌, List, [], ◌∷◌, ◌++◌, map, length, Option, Some, refl, sym, ap, ap₂, subst, ◌∙◌, inl, inr, arith}
use Rattle.std.specs.List.{slice_get, fold, flat_map}
use Rattle.std.specs.Option.{option_map}
use Rattle.std.proofs.Math.Path.{fun_ext}
use Rattle.std.proofs.lemmas.Bool.{cases_Bool, cases_lt}
use Rattle.std.proofs.lemmas.Option.{slice_get_within, slice_get-map, get_or_from_slice_get}
use Rattle.std.proofs.lemmas.List.{length-map, get_or_past}
use Rattle.protocol_steps.specs.declared.message.Message.{Message}
use Rattle.protocol_steps.specs.declared.event.Entry.{Entry}
use Rattle.protocol_steps.specs.declared.event.Event.{Event}
use Rattle.protocol_steps.specs.View.{View}
use Rattle.protocol_steps.specs.Network.{Desk, Network, start_state, messages_to, taken_from, sent_at, takes_at}
use Rattle.protocol_steps.specs.Run.{run}
use Rattle.protocol_steps.specs.Rounds.{AreInRounds}
use Rattle.protocol_steps.specs.Stamps.{Gain, Deed, do_one}
use Rattle.protocol_steps.specs.Deeds.{takes_of, event_of, AreDeeds, deeds_of, posted_to, gained_from}
use Rattle.protocol_steps.specs.StampLaw.{TakenIsPrefix}
use Rattle.protocol_steps.specs.JournalStamps.{journal_at, deeds_from, AreEnough}
use Rattle.protocol_steps.proofs.AccountLaws.{sent_plain, taken_count}
use Rattle.protocol_steps.proofs.JournalLaws.{journals_decide}
use Rattle.protocol_steps.proofs.JournalStampLaws.{starts_show, journal_of_deeds}
use Rattle.protocol_steps.proofs.RunLaws.{rounds_are_a_run}
use Rattle.worker_laws.specs.Cells.{CellState}
use Rattle.worker_laws.specs.Acts.{entry_of, journal_of}
use Rattle.worker_laws.specs.CellRounds.{AreSettled}
use Rattle.worker_laws.specs.Merges.{ComesFirst, IsOrdered, entries_in, IsMerge, events_in, AscendsAbove}
use Rattle.worker_laws.specs.CellRuns.{journals_of, plain, IsLinkIn, AreRightStamps, IsRunOfCells}
use Rattle.worker_laws.specs.WorkerLaws.{WorkersMakeARun}
use Rattle.worker_laws.proofs.SortLaws.{First, Ordered, OfAgent}
use Rattle.worker_laws.proofs.MergeLaws.{one_merge}
use Rattle.worker_laws.proofs.EachLaws.{there, same_lists}
use Rattle.worker_laws.proofs.TakeLaws.{deed_agent, deed_stamp, gains_in, gains_are, taken_of, takes_twice, entries_take, deeds_again, deeds_ascend}
use Rattle.worker_laws.proofs.TellLaws.{first, starts}
use Rattle.worker_laws.proofs.PieceLaws.{Piece, piece}
use Rattle.worker_laws.proofs.HistoryLaws.{reached, Ran, History, begun, quiet_on, settled_prefix, delivered_total, rounds_on}

-- an activation as an entry with its agent
abbrev logged : Deed → ℕ × Entry
logged d = (d.agent, entry_of d)

logged_first : (d : Deed) (ds : List Deed) → First deed_agent deed_stamp d ds → ComesFirst (logged d) (map logged ds)
logged_first d [] h = tt
logged_first d (e ∷ es) h = (h.0, logged_first d es h.1)

logged_ordered : (ds : List Deed) → Ordered deed_agent deed_stamp ds → IsOrdered (map logged ds)
logged_ordered [] h = tt
logged_ordered (d ∷ ds) h = (logged_first d ds h.0, logged_ordered ds h.1)

logged_entries : (i : ℕ) (ds : List Deed) → entries_in i (map logged ds) ≡ journal_of (deeds_of i ds)
logged_entries i [] = refl
logged_entries i (d ∷ ds) = elim (cases_Bool (d.agent == i)) [
  | inl mine ↦
      ap (λ (b : Bool). (if b then entry_of d ∷ [] else []) ++ entries_in i (map logged ds)) mine
      ∙ ap (λ (es : List Entry). entry_of d ∷ es) (logged_entries i ds)
      ∙ sym (ap (λ (b : Bool). journal_of ((if b then d ∷ [] else []) ++ deeds_of i ds)) mine)
  | inr other ↦
      ap (λ (b : Bool). (if b then entry_of d ∷ [] else []) ++ entries_in i (map logged ds)) other
      ∙ logged_entries i ds
      ∙ sym (ap (λ (b : Bool). journal_of ((if b then d ∷ [] else []) ++ deeds_of i ds)) other)
]

logged_events : (ds : List Deed) → events_in (map logged ds) ≡ map event_of ds
logged_events [] = refl
logged_events (d ∷ ds) = ap (λ (es : List Event). event_of d ∷ es) (logged_events ds)

module _ (budget : ℕ) (made : List View) (cells : List CellState) (h : History budget made cells) (settled : AreSettled cells) where
  abbrev n : ℕ
  n = length made

  abbrev pub prefix : TakenIsPrefix (reached made h.own)
  prefix = settled_prefix budget made cells h settled

  abbrev pub ran : Ran budget made h.own
  ran = h.ran prefix

  abbrev pub end : Network
  end = ran.net

  -- an agent of a cell
  inside : (i : ℕ) (c : CellState) → slice_get cells i ≡ Some c → i < n
  inside i c e = let lt = slice_get_within cells i c e in let sized = h.sized in omega (arith, lt, sized)

  cell_at : (i : ℕ) → i < n → (c : CellState) × (slice_get cells i ≡ Some c)
  cell_at i lt = let sized = h.sized in there cells i (omega (arith, lt, sized))

  views_are : end.views ≡ map (λ (c : CellState). c.view) cells
  views_are =
      let agents = ran.shows.agents in
      same_lists end.views (map (λ (c : CellState). c.view) cells) (agents ∙ sym h.sized ∙ sym (length-map cells (λ (c : CellState). c.view))) (λ i lt.
      let in_i : i < n = omega (arith, lt, agents) in
      let c = cell_at i in_i in
      ran.shows.views i in_i ∙ ap (λ (v : View). Some v) (sym (h.tells i c.0 c.1).viewed) ∙ sym (slice_get-map (λ (d : CellState). d.view) cells i ∙ ap (option_map (λ (d : CellState). d.view)) c.1))

  links_are : (i j : ℕ) (to from : CellState) → slice_get cells i ≡ Some to → slice_get cells j ≡ Some from → IsLinkIn end i j to from
  links_are i j to from e f =
      let on = settled i j to from e f in
      record {
        prefix = (on.waiting, on.whole);
        sent =
            ap (λ (o : Option Desk). messages_to i (sent_at o)) (ran.shows.desks j (inside j from f))
            ∙ sent_plain i (reached made h.own j).posted
            ∙ ap plain (sym ((h.tells j from f).sent i));
        taken =
            ap (λ (o : Option Desk). taken_from j (takes_at o)) (ran.shows.desks i (inside i to e))
            ∙ taken_count j (reached made h.own i).gains
            ∙ ap (λ (es : List (ℕ × Message)). length es) (sym ((h.tells i to e).taken j));
      }

  own_of : (i : ℕ) → OfAgent deed_agent deed_stamp i (h.own i)
  own_of i = elim (cases_lt i n) [
    | inl lt ↦ let c = cell_at i lt in (h.tells i c.0 c.1).agent
    | inr le ↦ subst (λ (ds : List Deed). OfAgent deed_agent deed_stamp i ds) (sym (h.none i le)) tt
  ]

  own_allowed : (i : ℕ) → AreDeeds n (first made i) (h.own i)
  own_allowed i = elim (cases_lt i n) [
    | inl lt ↦ let c = cell_at i lt in (h.tells i c.0 c.1).allowed
    | inr le ↦ subst (λ (ds : List Deed). AreDeeds n (first made i) ds) (sym (h.none i le)) tt
  ]

  journal_is : (i : ℕ) → journal_at (journals_of cells) i ≡ journal_of (h.own i)
  journal_is i = elim (cases_lt i n) [
    | inl lt ↦
        let c = cell_at i lt in
        get_or_from_slice_get (journals_of cells) i c.0.journal [] (slice_get-map (λ (d : CellState). d.journal) cells i ∙ ap (option_map (λ (d : CellState). d.journal)) c.1)
        ∙ (h.tells i c.0 c.1).noted
    | inr le ↦
        let sized = h.sized in
        let long = length-map cells (λ (d : CellState). d.journal) in
        get_or_past (journals_of cells) i [] (omega (arith, le, sized, long)) ∙ sym (ap journal_of (h.none i le))
  ]

  abbrev taken : ℕ → ℕ → List (ℕ × Message)
  taken i j = gained_from j (reached made h.own i).gains

  taken_is : (i : ℕ) → taken i ≡ (λ j. gained_from j (gains_in (h.own i)))
  taken_is i = fun_ext (λ j. ap (gained_from j) (gains_are (first made i) (h.own i) ∙ ap (λ (gs : List Gain). gs ++ gains_in (h.own i)) ((starts made).idle i)))

  again : (i : ℕ) → deeds_from i (taken i) (journal_at (journals_of cells) i) ≡ h.own i
  again i =
      ap₂ (λ (f : ℕ → List (ℕ × Message)) (es : List Entry). deeds_from i f es) (taken_is i) (journal_is i)
      ∙ deeds_again n i (first made i) (h.own i) (own_of i) (own_allowed i)

  right_stamps : AreRightStamps made cells
  right_stamps = record {
    now = first made;
    starts = starts made;
    taken = taken;
    lists = λ i j c e. sym ((h.tells i c e).taken j);
    enough = λ i. subst (λ (es : List Entry). AreEnough (taken i) es) (sym (journal_is i)) (λ j.
        let all : taken_from j (flat_map (λ e. e.takes) (journal_of (h.own i))) ≡ length (gained_from j (gains_in (h.own i))) = ap (taken_from j) (entries_take (h.own i)) ∙ taken_of j (h.own i) in
        let held : length (taken i j) ≡ length (gained_from j (gains_in (h.own i))) = ap (λ (f : ℕ → List (ℕ × Message)). length (f j)) (taken_is i) in
        omega (arith, all, held));
    allowed = λ i. subst (λ (ds : List Deed). AreDeeds n (first made i) ds) (sym (again i)) (own_allowed i);
    sent = λ i j c e. (h.tells i c e).sent j ∙ ap (λ (ds : List Deed). posted_to j (fold do_one (first made i) ds).posted) (sym (again i));
    ascend = λ i. subst (λ (es : List Entry). AscendsAbove 0 es) (sym (journal_is i)) (deeds_ascend n 0 (first made i) (h.own i) (omega arith) (own_allowed i));
  }

  -- all activations from the start as one run
  whole : Piece n (start_state made) (first made) h.own
  whole =
      let show = starts_show made (first made) (starts made) in
      piece n (start_state made) (first made) h.own show.0 show.1 own_of own_allowed h.none prefix

  same_end : whole.end ≡ end
  same_end =
      journals_decide (start_state made) whole.end end (map event_of whole.deeds) (flat_map (λ es. es) ran.pieces) whole.leads (rounds_are_a_run budget (start_state made) end ran.pieces ran.rounds)
      (λ i. journal_of_deeds i whole.deeds ∙ ap (λ (ds : List Deed). map (λ (d : Deed). takes_of d.gains) ds) (whole.own_is i) ∙ sym (ran.agree i))

  merge_is : IsMerge (journals_of cells) (map logged whole.deeds)
  merge_is = record {
    ordered = logged_ordered whole.deeds whole.ordered;
    whole = λ i. logged_entries i whole.deeds ∙ ap journal_of (whole.own_is i) ∙ sym (journal_is i);
  }

  merges_are : (log : List (ℕ × Entry)) → IsMerge (journals_of cells) log → run (start_state made) (events_in log) ≡ Some end
  merges_are log m =
      ap (λ (l : List (ℕ × Entry)). run (start_state made) (events_in l)) (one_merge (journals_of cells) log (map logged whole.deeds) m merge_is)
      ∙ ap (λ (es : List Event). run (start_state made) es) (logged_events whole.deeds) ∙ whole.leads ∙ ap (λ (net : Network). Some net) same_end

  rounds_are : AreInRounds budget made (journals_of cells) end
  rounds_are = record {
    sized = length-map cells (λ (d : CellState). d.journal) ∙ h.sized;
    pieces = ran.pieces;
    rounds = ran.rounds;
    agree = λ i. ap (λ (es : List Entry). map (λ (e : Entry). e.takes) es) (journal_is i) ∙ takes_twice (h.own i) ∙ sym (ran.agree i);
  }

  pub is_run : IsRunOfCells budget made cells end
  is_run = record {
    views = views_are;
    sized = ran.shows.size ∙ sym h.sized;
    links = links_are;
    delivered = delivered_total budget made cells h end ran.shows;
    right = right_stamps;
    merges = merges_are;
    in_rounds = rounds_are;
  }

pub workers_make_a_run : WorkersMakeARun
workers_make_a_run budget made cells after last rounds started played quiet settled =
    let h : History budget made last = quiet_on budget made after last (rounds_on budget made cells after rounds (begun budget made cells started) played) quiet in
    ((h.ran (settled_prefix budget made last h settled)).net, is_run budget made last h settled)
