-- A log as it is replayed and written, event by event.
use Rattle.std.proofs.Common.{◌≡◌, ℕ, ◌+◌, ◌-◌, ◌<◌, ◌≤◌, zero, suc, Bool, true, false, not, cond, is_some, true≢false, Result, Ok, Err, IfOk, MatchOption, List, [], ◌∷◌, ◌++◌, map, take, drop, length, get_or, Option, Some, None, refl, sym, ap, subst, ◌∙◌, append_assoc, drop-cons, add-one, nat_le, if◌then◌else◌, arith}
use Rattle.std.specs.List.{flat_map, slice_get, range_with_len}
use Rattle.std.specs.Option.{option_map}
use Rattle.std.proofs.lemmas.Bool.{le-leb, lt-leb}
use Rattle.std.proofs.lemmas.Grind.{flat_map-append}
use Rattle.std.proofs.lemmas.List.{take_all, length-map, append-nil, drop_all}
use Rattle.std.proofs.lemmas.Option.{none-some, slice_get_within, slice_get-map, slice_get_read}
use Rattle.dcop_base.specs.Problem.{Dcop}
use Rattle.protocol_steps.specs.declared.message.Message.{Message}
use Rattle.protocol_steps.specs.declared.event.Event.{Event}
use Rattle.protocol_steps.specs.declared.event.EventFault.{EventFault}
use Rattle.protocol_steps.specs.declared.event.EventFault.TheVariants.{Nobody}
use Rattle.protocol_steps.specs.View.{View}
use Rattle.protocol_steps.specs.Step as step
use Rattle.protocol_steps.specs.Network.{Desk, Network, start_state, sent_at, batch}
use Rattle.protocol_steps.specs.Effect.{effect, event_sends}
use Rattle.protocol_steps.specs.Run.{fault_at, event_fault, run}
use Rattle.problem_text.specs.Canonical.{line}
use Rattle.run_log.specs.declared.log.LogEvent.{LogEvent}
use Rattle.run_log.specs.Logs.{event_of, events_of}
use Rattle.delivery_core.specs.State.{CoreView, SeatView, view_at, views_of}
use Rattle.delivery_core.specs.Shown.{IsCore, IsSomeCore, Advances, Refuses}
use Rattle.delivery_core.specs.Faults.{FirstFault}
use Rattle.delivery_core.proofs.RunLaws.{run_more}
use Rattle.trace_text.specs.Lines.{took_words, sent_words, agent_lines, start_words, event_words}
use Rattle.trace_text.specs.Trace.{start_of, start_lines, lines_of_event, event_lines}
use Rattle.trace_text.specs.Told.{start_told, event_told, PlaysEvent, TellsOne, Played}

-- the view of an agent, in a core state of this network
pub view_is : (p : Dcop) (net : Network) (core : CoreView) (i : ℕ) → IsCore p net core → view_at core i ≡ slice_get net.views i
view_is p net core i is = ap (λ (vs : List View). slice_get vs i) (is.shows.views)

-- a lawful event is one of an agent that exists
lawful_there : (ds : List Desk) (e : Event) (v : Option View) (x : Option Desk) → fault_at ds e v x ≡ None → (w : View) × (v ≡ Some w)
lawful_there ds e None x h = absurd (none-some Nobody (sym h))
lawful_there ds e (Some w) x h = (w, refl)

pub agent_there : (p : Dcop) (net : Network) (old new : CoreView) (e : Event) → IsCore p net old → Advances old e new → e.agent < length new.seats
agent_there p net old new e is goes =
    let done = goes p net is in
    let v = lawful_there net.desks e (slice_get net.views e.agent) (slice_get net.desks e.agent) done.0 in
    let inside : e.agent < length net.views = slice_get_within net.views e.agent v.0 v.1 in
    let before = ap (λ (vs : List View). length vs) is.shows.views in
    let many = length-map old.seats (λ (x : SeatView). x.view) in
    let size = is.shows.size in
    let after = done.1.shows.size in
    omega (arith, inside, before, many, size, after)

pub there_after : (old new : CoreView) (e : LogEvent) → IsSomeCore old → Advances old (event_of e) new → e.agent < length new.seats
there_after old new e some goes = agent_there some.0 some.1 old new (event_of e) some.2 goes

-- an event of a log is played as an event of a run
pub plays_as : (old new : CoreView) (plain : Event) (e : LogEvent) (found : Option EventFault) → plain ≡ event_of e
    → MatchOption found (Advances old plain new) (λ fault. Refuses old plain fault) → PlaysEvent old e new found
plays_as old new plain e None is h = subst (λ (x : Event). Advances old x new) is h
plays_as old new plain e (Some fault) is h = subst (λ (x : Event). Refuses old x fault) is h

pub if-ok : {A E : Type 0} (r : Result A E) (P Q : A → Type 0) → ((x : A) → P x → Q x) → IfOk r P → IfOk r Q
if-ok (Ok x) P Q f h = f x h
if-ok (Err e) P Q f h = tt

pub advances_so : (old new : CoreView) (e : LogEvent) (found : Option EventFault) → found ≡ None → PlaysEvent old e new found → Advances old (event_of e) new
advances_so old new e found none h = subst (PlaysEvent old e new) none h

pub refuses_so : (old new : CoreView) (e : LogEvent) (found : Option EventFault) (fault : EventFault) → found ≡ Some fault → PlaysEvent old e new found → Refuses old (event_of e) fault
refuses_so old new e found fault some h = subst (PlaysEvent old e new) some h

pub none_is : (o : Option EventFault) (b : Bool) → is_some o ≡ not b → b ≡ true → o ≡ None
none_is None b h t = refl
none_is (Some fault) true h t = absurd (true≢false h)
none_is (Some fault) false h t = absurd (true≢false (sym t))

pub not_some : (o : Option EventFault) (b : Bool) → is_some o ≡ not b → b ≡ false → o ≡ None → ⊥
not_some None true h t n = true≢false t
not_some None false h t n = true≢false (sym h)
not_some (Some fault) b h t n = none-some fault (sym n)

-- an event before the first one that is asked for is not written
pub is_quiet : (from n : ℕ) → n < from → nat_le from n ≡ false
is_quiet from n lt = lt-leb from n lt

pub is_aloud : (from n : ℕ) → from ≤ n → nat_le from n ≡ true
is_aloud from n le = le-leb from n le

-- the events that are left
left_log : (log : List LogEvent) (k : ℕ) (e : LogEvent) → k < length log → e ≡ get_or log k e → drop k log ≡ e ∷ drop (k + 1) log
left_log log k e lt is =
    drop-cons log k e lt ∙ ap (λ (x : LogEvent). x ∷ drop (suc k) log) (sym is) ∙ ap (λ (n : ℕ). e ∷ drop n log) (sym (add-one k))

event_at : (log : List LogEvent) (k : ℕ) (e : LogEvent) → k < length log → e ≡ get_or log k e → event_of e ≡ get_or (events_of log) k (event_of e)
event_at (x ∷ log) zero e lt is = ap event_of is
event_at (x ∷ log) (suc k) e lt is = event_at log k e (omega (arith, lt)) is
event_at [] k e lt is = absurd (omega (arith, lt))

module _ (p : Dcop) (first : Network) (names : List (List ℕ)) (from : ℕ) (log : List LogEvent) (old : List ℕ) where
  -- before the first event
  pub played_none : (core : CoreView) → IsCore p first core → Played p first names from log 0 core old old
  played_none core is = record { net = first; ran = refl; core_is = is; told = refl }

  module _ (k : ℕ) (core new_core : CoreView) (e : LogEvent) (text : List ℕ) (was : Played p first names from log k core old text) (lt : k < length log) (is : e ≡ get_or log k e) where
    abbrev es : List Event
    es = events_of log

    abbrev here : Event
    here = event_of e

    inside : k < length es
    inside = let many = length-map log event_of in omega (arith, lt, many)

    -- one more event, written as these lines
    more : (lines : List (List (List ℕ))) (new : List ℕ) → Advances core here new_core
        → (if nat_le from (k + 1) then lines_of_event names was.net (k + 1) e else []) ≡ lines → new ≡ text ++ flat_map line lines → Played p first names from log (k + 1) new_core old new
    more lines new goes told written =
        let done = goes p was.net was.core_is in
        let rest : List (List (List ℕ)) = event_lines names from (effect was.net here) (k + 1 + 1) (drop (k + 1) log) in
        record {
          net = effect was.net here;
          ran = run_more first was.net es k here inside (event_at log k e lt is) was.ran done.0;
          core_is = done.1;
          told =
              ap (λ (t : List ℕ). t ++ flat_map line rest) written
              ∙ append_assoc text (flat_map line lines) (flat_map line rest)
              ∙ ap (λ (t : List ℕ). text ++ t) (sym (flat_map-append line lines rest))
              ∙ ap (λ (ls : List (List (List ℕ))). text ++ flat_map line (ls ++ rest)) (sym told)
              ∙ ap (λ (left : List LogEvent). text ++ flat_map line (event_lines names from was.net (k + 1) left)) (sym (left_log log k e lt is))
              ∙ was.told;
        }

    -- one more event that is not written
    pub played_quietly : Advances core here new_core → nat_le from (k + 1) ≡ false → Played p first names from log (k + 1) new_core old text
    played_quietly goes quiet =
        more [] text goes (ap (λ (b : Bool). if b then lines_of_event names was.net (k + 1) e else []) quiet) (sym (append-nil text))

    -- one more event that is written
    pub played_aloud : (new : List ℕ) → Advances core here new_core → nat_le from (k + 1) ≡ true → TellsOne names core (k + 1) e new_core text new → Played p first names from log (k + 1) new_core old new
    played_aloud new goes aloud tells =
        let took : List (ℕ × Message) = tells.took in
        let sent : List (ℕ × Message) = tells.sent in
        let said = tells.exchanges in
        let done = goes p was.net was.core_is in
        let letters = said.letters p was.net was.core_is in
        let parcels = said.parcels p was.net was.core_is in
        let after : Option View = slice_get (effect was.net here).views e.agent in
        let same : lines_of_event names was.net (k + 1) e ≡ event_told names new_core (k + 1) e took sent =
        ap (λ (ls : List (ℕ × Message)). event_words names (k + 1) e ∷ map (took_words names) ls ++ agent_lines names after ++ map (sent_words names) (event_sends was.net here)) (sym letters)
        ∙ ap (λ (ls : List (ℕ × Message)). event_words names (k + 1) e ∷ map (took_words names) took ++ agent_lines names after ++ map (sent_words names) ls) (sym parcels)
        ∙ ap (λ (o : Option View). event_words names (k + 1) e ∷ map (took_words names) took ++ agent_lines names o ++ map (sent_words names) sent) (sym (view_is p (effect was.net here) new_core e.agent done.1)) in
        more (event_told names new_core (k + 1) e took sent) new goes
        (ap (λ (b : Bool). if b then lines_of_event names was.net (k + 1) e else []) aloud ∙ same)
        tells.told

    -- an event that is refused
    pub refused : (fault : EventFault) → Refuses core here fault → FirstFault first es k fault
    refused fault refuses = record {
      middle = was.net;
      before = was.ran;
      event = here;
      is = slice_get_read es (length es) k here refl inside (event_at log k e lt is);
      unlawful = refuses p was.net was.core_is;
    }

  -- the same if the state and the text have other names
  pub played_named : (k : ℕ) (core then_core : CoreView) (text then_text : List ℕ) → then_core ≡ core → then_text ≡ text
      → Played p first names from log k core old text → Played p first names from log k then_core old then_text
  played_named k core then_core text then_text a b was =
      subst (λ (v : CoreView). Played p first names from log k v old then_text) (sym a) (subst (λ (t : List ℕ). Played p first names from log k core old t) (sym b) was)

  -- after the last event
  pub played_all : (k : ℕ) (core : CoreView) (text : List ℕ) → Played p first names from log k core old text → length log ≤ k
      → (end : Network) × (run first (events_of log) ≡ Some end) × (text ≡ old ++ flat_map line (event_lines names from first 1 log))
  played_all k core text was past =
      let many = length-map log event_of in
      let none : drop k log ≡ [] = drop_all k log past in (
        was.net,
        ap (λ (es : List Event). run first es) (sym (take_all k (events_of log) (omega (arith, past, many)))) ∙ was.ran,
        sym (append-nil text)
            ∙ ap (λ (left : List LogEvent). text ++ flat_map line (event_lines names from was.net (k + 1) left)) (sym none)
            ∙ was.told,
      )

-- what agent `i` sends as it starts
pub first_sent : (made : List View) (i : ℕ) (sent : List (ℕ × Message)) → i < length made → sent ≡ get_or (map (λ v. (step.start_of v).sends) made) i sent
    → sent_at (slice_get (start_state made).desks i) ≡ sent
first_sent (v ∷ made) zero sent lt is = sym is
first_sent (v ∷ made) (suc i) sent lt is = first_sent made i sent (omega (arith, lt)) is
first_sent [] i sent lt is = absurd (omega (arith, lt))

range_step : (k n : ℕ) → k < n → range_with_len k (n - k) ≡ k ∷ range_with_len (k + 1) (n - (k + 1))
range_step k n lt = ap (λ (m : ℕ). range_with_len k m) (same k n lt)
  where
    same : (k n : ℕ) → k < n → n - k ≡ suc (n - (k + 1))
    same k n lt = omega (arith, lt)

-- the starts that are left, from agent `k` on
abbrev pub starts_from : List View → List (List ℕ) → ℕ → List (List (List ℕ))
starts_from made names k = flat_map (start_of names (start_state made)) (range_with_len k (length made - k))

less_none : (n : ℕ) → n - 0 ≡ n
less_none n = omega arith

pub all_starts : (made : List View) (names : List (List ℕ)) → start_lines names (start_state made) ≡ starts_from made names 0
all_starts made names = ap (λ (n : ℕ). flat_map (start_of names (start_state made)) (range_with_len 0 n)) (length-map made (λ v. (step.start_of v).view) ∙ sym (less_none (length made)))

none_left : (n k : ℕ) → n ≤ k → n - k ≡ 0
none_left n k le = omega (arith, le)

pub no_starts : (made : List View) (names : List (List ℕ)) (k : ℕ) → length made ≤ k → starts_from made names k ≡ []
no_starts made names k past = ap (λ (n : ℕ). flat_map (start_of names (start_state made)) (range_with_len k n)) (none_left (length made) k past)

module _ (p : Dcop) (made : List View) (names : List (List ℕ)) (core : CoreView) (is : IsCore p (start_state made) core) where
  abbrev net : Network
  net = start_state made

  pub seats_many : length core.seats ≡ length made
  seats_many =
      let views = ap (λ (vs : List View). length vs) is.shows.views in
      let many = length-map core.seats (λ (x : SeatView). x.view) in
      let size = length-map made (λ v. (step.start_of v).view) in
      omega (arith, views, many, size)

  -- one more start
  pub start_more : (k : ℕ) (sent : List (ℕ × Message)) (text new all : List ℕ) → k < length made → sent ≡ get_or (map (λ v. (step.start_of v).sends) made) k sent
      → new ≡ text ++ flat_map line (start_told names core k sent) → text ++ flat_map line (starts_from made names k) ≡ all → new ++ flat_map line (starts_from made names (k + 1)) ≡ all
  start_more k sent text new all lt sends written before =
      let rest : List (List (List ℕ)) = starts_from made names (k + 1) in
      let told : starts_from made names k ≡ start_told names core k sent ++ rest =
      ap (λ (is : List ℕ). flat_map (start_of names net) is) (range_step k (length made) lt)
      ∙ ap (λ (ls : List (ℕ × Message)). (start_words names k ∷ agent_lines names (slice_get net.views k) ++ map (sent_words names) ls) ++ rest) (first_sent made k sent lt sends)
      ∙ ap (λ (o : Option View). (start_words names k ∷ agent_lines names o ++ map (sent_words names) sent) ++ rest) (sym (view_is p net core k is)) in
      ap (λ (t : List ℕ). t ++ flat_map line rest) written
      ∙ append_assoc text (flat_map line (start_told names core k sent)) (flat_map line rest)
      ∙ ap (λ (t : List ℕ). text ++ t) (sym (flat_map-append line (start_told names core k sent) rest))
      ∙ ap (λ (ls : List (List (List ℕ))). text ++ flat_map line ls) (sym told)
      ∙ before
