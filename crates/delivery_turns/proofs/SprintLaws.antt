-- Rounds of many turns: turn by turn, and round by round until playing stops.
use Rattle.std.proofs.Common.{◌≡◌, ◌≢◌, ℕ, zero, suc, ◌+◌, ◌-◌, ◌*◌, ◌<◌, ◌≤◌, Bool, true, false, ◌&&◌, ◌||◌, ◌==◌, if◌then◌else◌, min, nat_le, List, [], ◌∷◌, ◌++◌, length, Option, refl, sym, ap, subst, ◌∙◌, inl, inr, arith}
use Rattle.std.specs.List.{flat_map}
use Rattle.std.proofs.lemmas.Bool.{cases_eq, eqb-true, eqb-false, eq-eqb, ne_eqb, leb-false, or_parts}
use Rattle.std.proofs.lemmas.List.{append-nil, append_assoc, length-append, length-map}
use Rattle.std.proofs.lemmas.List.Concat.{flat_map-append}
use Rattle.std.proofs.lemmas.List.Sums.{fold-append}
use Rattle.std.proofs.lemmas.List.Elements.{All-nil}
use Rattle.std.proofs.lemmas.Nat.{mul-le}
use Rattle.dcop_base.specs.Limits.{variable_limit}
use Rattle.dcop_base.specs.Problem.{Dcop}
use Rattle.protocol_steps.specs.declared.event.Event.{Event}
use Rattle.protocol_steps.specs.declared.event.Take.{Take}
use Rattle.protocol_steps.specs.declared.run_end.RunEnd.{RunEnd}
use Rattle.protocol_steps.specs.View.{View}
use Rattle.protocol_steps.specs.Network.{Network}
use Rattle.protocol_steps.specs.Effect.{effect, pending, has_ended, deliveries}
use Rattle.protocol_steps.specs.Run.{journal}
use Rattle.protocol_steps.specs.RunEnds.{IsRunEnd}
use Rattle.protocol_steps.specs.Rounds.{most_events, link_share, taken_in, AreShares, IsRound, AreRounds}
use Rattle.delivery_core.specs.State.{CoreView}
use Rattle.delivery_core.specs.NetworkState.{most_counted}
use Rattle.delivery_core.specs.Takes.{TakeNothing}
use Rattle.delivery_turns.specs.Turns.{event_with, turn, after, round, sprint, AreEventfulRounds, stops}
use Rattle.delivery_core.specs.Shown.{IsCore}
use Rattle.log_replay.specs.Notes.{NotesView, KeepNotes}
use Rattle.delivery_turns.specs.CoreTurns.{LeadsCore, Turned, is_over}
use Rattle.delivery_turns.specs.Sprints.{agent_share, turn_share, none_of, NotesTurn, TakesAll, Sprinting, PlaysSprint, Sprinted}
use Rattle.delivery_turns.proofs.DeliveredLaws.{Delivers, round-few}
use Rattle.delivery_turns.proofs.RoundLaws.{journal-append, taken-append, few-one, round-serves}
use Rattle.protocol_steps.proofs.RunLaws.{rounds_are_a_run}
use Rattle.delivery_turns.proofs.StopLaws.{stopped-how}
use Rattle.delivery_turns.proofs.KeptLaws.{ran_after, keep_none, keep_same, keep_then}
use Rattle.delivery_turns.proofs.PlayLaws.{leads_join, turned_next, turned_all, over_is, stops_still, empty_by}
use Rattle.delivery_turns.proofs.TurnLaws.{turn_still, none_leads, none_with, still_more}

-- as many agents as variables, and as many desks as agents
core_views : (p : Dcop) (net : Network) (s : CoreView) → IsCore p net s → length net.views ≡ length p.sizes
core_views p net s core = ap (λ (vs : List View). length vs) (sym core.shows.views) ∙ length-map s.seats (λ x. x.view) ∙ core.shows.size

core_desks : (p : Dcop) (net : Network) (s : CoreView) → IsCore p net s → length net.desks ≡ length net.views
core_desks p net s core = core.shows.desks ∙ sym (length-map s.seats (λ x. x.view)) ∙ ap (λ (vs : List View). length vs) core.shows.views

and_true : (b : Bool) → (b && true) ≡ b
and_true true = refl
and_true false = refl

and_false : (b : Bool) → (b && false) ≡ false
and_false true = refl
and_false false = refl

-- whether there is no event yet, one turn later
still_on : (still : Bool) (es fs all : List Event) (k : ℕ) (ts : List Take) → still ≡ none_of es → fs ≡ event_with k ts → es ++ fs ≡ all → (still && (length ts == 0)) ≡ none_of all
still_on still es fs all k ts so with joined =
    ap (λ (b : Bool). still && b) (sym (none_with k ts) ∙ ap none_of (sym with))
    ∙ still_more still es fs so
    ∙ ap none_of joined

-- an agent that takes nothing is passed over
past_one : (p : Dcop) (net : Network) (k : ℕ) (s : CoreView) → (h : Turned p net k s) → k < length p.sizes → turn h.mid k ≡ [] → (now : Turned p net (k + 1) s) × (h.es ≡ now.es)
past_one p net k s h lt none =
    let leads = none_leads p h.mid (turn h.mid k) s h.leads.core none in
    let now = turned_next p net k s s h leads.0 leads.1 lt in
    (now.0, sym (append-nil h.es) ∙ ap (λ (es : List Event). h.es ++ es) (sym none) ∙ now.1)

-- and so are those from one place up to another
turned_past : (p : Dcop) (net : Network) (from n to : ℕ) (s : CoreView) → from + n ≡ to → to ≤ length p.sizes → TakeNothing s.seats from to → (h : Turned p net from s) → (now : Turned p net to s) × (h.es ≡ now.es)
turned_past p net from zero to s is le none h =
    let same : from ≡ to = omega (arith, is) in
    subst (λ (k : ℕ). (now : Turned p net k s) × (h.es ≡ now.es)) same (h, refl)
turned_past p net from (suc n) to s is le none h =
    let size = h.leads.core.shows.size in
    let own = turn_still p h.mid s.seats h.leads.core.shows from (omega (arith, size, is, le)) (λ d. none from d (omega arith) (omega (arith, is))) in
    let one = past_one p net from s h (omega (arith, is, le)) own in
    let rest = turned_past p net (from + 1) n to s (omega (arith, is)) le (λ k d past lt. none k d (omega (arith, past)) lt) one.0 in
    (rest.0, one.1 ∙ rest.1)

-- agents that take nothing are passed over, and the next one takes its turn
pub all_next : (p : Dcop) (net : Network) (from k : ℕ) (s t : CoreView) (a b c : Option NotesView) (ts : List Take) (still : Bool) → from ≤ k → k < length p.sizes → TakeNothing s.seats from k
    → (h : Turned p net from s) × (still ≡ none_of h.es) × KeepNotes p net h.es a b → NotesTurn k s b t c ts
    → (now : Turned p net (k + 1) t) × ((still && (length ts == 0)) ≡ none_of now.es) × KeepNotes p net now.es a c
all_next p net from k s t a b c ts still le lt none h takes =
    let past = turned_past p net from (k - from) k s (omega (arith, le)) (omega (arith, lt)) none h.0 in
    let one = takes p past.0.mid past.0.leads.core in
    let now = turned_next p net k s t past.0 one.0 one.1 lt in
    let fs : List Event = turn past.0.mid k in (
      now.0,
      still_on still past.0.es fs now.0.es k ts (h.1 ∙ ap none_of past.1) one.2 now.1,
      keep_same p net (past.0.es ++ fs) now.0.es a c now.1 (keep_then p net past.0.mid past.0.es fs a b c past.0.leads.is (keep_same p net h.0.es past.0.es a b past.1 h.2) one.3),
    )

-- all that are left take nothing
pub all_end : (p : Dcop) (net : Network) (from : ℕ) (s : CoreView) (a b : Option NotesView) (still : Bool) → from ≤ length p.sizes → TakeNothing s.seats from (length p.sizes)
    → (h : Turned p net from s) × (still ≡ none_of h.es) × KeepNotes p net h.es a b → (mid : Network) × LeadsCore p net (round net) mid s × (still ≡ none_of (round net)) × KeepNotes p net (round net) a b
all_end p net from s a b still le none h =
    let size : ℕ = length p.sizes in
    let past = turned_past p net from (size - from) size s (omega (arith, le)) (omega arith) none h.0 in
    let all = turned_all p net size s past.0 (omega arith) in
    (all.0, all.1, h.1 ∙ ap none_of (past.1 ∙ all.2), keep_same p net h.0.es (round net) a b (past.1 ∙ all.2) h.2)

-- the events of a round, turn by turn
pub sprint_done : (net : Network) (k : ℕ) → length (round net) ≡ 0 → sprint net k ≡ []
sprint_done net zero none = refl
sprint_done net (suc k) none = ap (λ (b : Bool). if b then [] else round net ++ sprint (after net (round net)) k) (eq-eqb (length (round net)) 0 none)

sprint_step : (net : Network) (k : ℕ) → none_of (round net) ≡ false → sprint net (suc k) ≡ round net ++ sprint (after net (round net)) k
sprint_step net k some = ap (λ (b : Bool). if b then [] else round net ++ sprint (after net (round net)) k) some

-- a round without an event begins with a turn without one
sprint_still : (net : Network) (k : ℕ) → length (sprint net (suc k)) ≡ 0 → length (round net) ≡ 0
sprint_still net k none = elim (cases_eq (length (round net)) 0) [
  | inl first ↦ first
  | inr some ↦
      let es : List Event = round net in
      let rest : List Event = sprint (after net es) k in
      let is : length (sprint net (suc k)) ≡ length es + length rest = ap (λ (fs : List Event). length fs) (sprint_step net k (ne_eqb (length es) 0 some)) ∙ length-append es rest in
      omega (arith, is, none)
]

-- a round takes from each link what was pending, or 64 messages if that was more
sprint_serves : (net : Network) (k i j : ℕ) → length net.desks ≡ length net.views → min link_share (length (pending net i j)) ≤ taken_in i j (sprint net (suc k))
sprint_serves net k i j size =
    let es : List Event = round net in
    let first : min 64 (length (pending net i j)) ≤ taken_in i j es = round-serves net i j size in
    elim (cases_eq (length es) 0) [
      | inl none ↦ subst (λ (fs : List Event). min 64 (length (pending net i j)) ≤ taken_in i j fs) (empty_by es none ∙ sym (sprint_done net (suc k) none)) first
      | inr some ↦
          let rest : List Event = sprint (after net es) k in
          let is : taken_in i j (sprint net (suc k)) ≡ taken_in i j es + taken_in i j rest = ap (λ (fs : List Event). taken_in i j fs) (sprint_step net k (ne_eqb (length es) 0 some)) ∙ taken-append i j es rest in
          omega (arith, is, first)
    ]

-- no turn yet
pub sprint_none : (p : Dcop) (net : Network) (s : CoreView) (a : Option NotesView) → IsCore p net s → (h : Sprinting p net 0 s) × (true ≡ none_of h.events) × KeepNotes p net h.events a a
sprint_none p net s a core = (
  record {
    events = [];
    mid = net;
    leads = record { ran = refl; is = refl; core = core; more = omega arith; bounded = All-nil (λ (e : Event). AreShares e.takes) };
    few = λ i. omega arith;
    counted = omega arith;
    left = refl;
  },
  refl,
  keep_none p net a,
)

-- one more turn, where it is known what is left of the round
sprint_next : (p : Dcop) (net : Network) (k m : ℕ) (s t : CoreView) (a b c : Option NotesView) (still none : Bool) → length p.sizes ≤ 1000 → (from : (h : Sprinting p net k s) × (still ≡ none_of h.events) × KeepNotes p net h.events a b)
    → (one : (mid : Network) × LeadsCore p from.0.mid (round from.0.mid) mid t × (none ≡ none_of (round from.0.mid)) × KeepNotes p from.0.mid (round from.0.mid) b c) → k + 1 ≤ m
    → sprint net most_events ≡ (from.0.events ++ round from.0.mid) ++ sprint one.0 (most_events - m) → (now : Sprinting p net m t) × ((still && none) ≡ none_of now.events) × KeepNotes p net now.events a c
sprint_next p net k m s t a b c still none few from one le left =
    let h = from.0 in
    let events : List Event = h.events in
    let es : List Event = round h.mid in
    let n : ℕ = length h.mid.views in (
      record {
        events = events ++ es;
        mid = one.0;
        leads = leads_join p net h.mid one.0 events es s t h.leads one.1;
        few = λ i.
            let all = ap (λ (js : List (List Take)). length js) (journal-append i events es) ∙ length-append (journal i events) (journal i es) in
            let old = h.few i in let own = few-one h.mid i 0 n in omega (arith, all, old, own, le);
        counted =
            let own : Delivers ((64 * n) * n) h.mid one.0 = subst (λ (x : Network). Delivers ((64 * n) * n) h.mid x) one.1.is (round-few n h.mid refl) in
            let views = core_views p h.mid s h.leads.core in
            let wide : (64 * n) * n ≤ agent_share * variable_limit = mul-le (64 * n) n agent_share variable_limit (omega (arith, views, few)) (omega (arith, views, few)) in
            let c = h.counted in
            omega (arith, own.0, wide, c, le);
        left = left;
      },
      ap (λ (b : Bool). still && b) one.2 ∙ still_more still events es from.1,
      keep_then p net h.mid events es a b c h.leads.is from.2 one.3,
    )

-- a turn with some event
pub sprint_some : (p : Dcop) (net : Network) (k : ℕ) (s t : CoreView) (a b c : Option NotesView) (still none : Bool) → length p.sizes ≤ 1000 → k < most_events → none ≡ false
    → (h : Sprinting p net k s) × (still ≡ none_of h.events) × KeepNotes p net h.events a b → TakesAll s b t c none
    → (now : Sprinting p net (k + 1) t) × (false ≡ none_of now.events) × KeepNotes p net now.events a c
sprint_some p net k s t a b c still none few lt some from takes =
    let h = from.0 in
    let one = takes p h.mid h.leads.core in
    let es : List Event = round h.mid in
    let m : ℕ = most_events - (k + 1) in
    let count : most_events - k ≡ suc m = omega (arith, lt) in
    let rest : sprint h.mid (most_events - k) ≡ es ++ sprint one.0 m =
    ap (λ (x : ℕ). sprint h.mid x) count ∙ sprint_step h.mid m (sym one.2 ∙ some) ∙ ap (λ (x : Network). es ++ sprint x m) one.1.is in
    let left = h.left ∙ ap (λ (fs : List Event). h.events ++ fs) rest ∙ sym (append_assoc h.events es (sprint one.0 m)) in
    let now = sprint_next p net k (k + 1) s t a b c still none few from one (omega arith) left in
    (now.0, sym (ap (λ (x : Bool). still && x) some ∙ and_false still) ∙ now.1, now.2)

-- all turns are a round
pub sprint_all : (p : Dcop) (net : Network) (k : ℕ) (s : CoreView) (a b : Option NotesView) (still : Bool) → k ≡ most_events → (h : Sprinting p net k s) × (still ≡ none_of h.events) × KeepNotes p net h.events a b
    → (now : Sprinting p net most_events s) × (still ≡ none_of now.events) × KeepNotes p net now.events a b
sprint_all p net k s a b still is from = subst (λ (n : ℕ). (now : Sprinting p net n s) × (still ≡ none_of now.events) × KeepNotes p net now.events a b) is from

-- and so are those up to one that has no event
pub sprint_end : (p : Dcop) (net : Network) (k : ℕ) (s t : CoreView) (a b c : Option NotesView) (still none : Bool) → length p.sizes ≤ 1000 → k < most_events → none ≡ true
    → (h : Sprinting p net k s) × (still ≡ none_of h.events) × KeepNotes p net h.events a b → TakesAll s b t c none
    → (now : Sprinting p net most_events t) × (still ≡ none_of now.events) × KeepNotes p net now.events a c
sprint_end p net k s t a b c still none few lt is from takes =
    let h = from.0 in
    let one = takes p h.mid h.leads.core in
    let es : List Event = round h.mid in
    let done : length es ≡ 0 = eqb-true (length es) 0 (sym one.2 ∙ is) in
    let rest : sprint h.mid (most_events - k) ≡ es ++ [] = sprint_done h.mid (most_events - k) done ∙ sym (ap (λ (fs : List Event). fs ++ []) (empty_by es done)) in
    let left = h.left ∙ ap (λ (fs : List Event). h.events ++ fs) rest ∙ sym (append_assoc h.events es []) in
    let now = sprint_next p net k most_events s t a b c still none few from one (omega (arith, lt)) left in
    (now.0, sym (ap (λ (x : Bool). still && x) is ∙ and_true still) ∙ now.1, now.2)

-- the events of a whole round
sprint_is : (p : Dcop) (net : Network) (s : CoreView) → (h : Sprinting p net most_events s) → h.events ≡ sprint net most_events
sprint_is p net s h = sym (h.left ∙ append-nil h.events)

-- rounds that are busy, and one more
busy_snoc : (net mid : Network) (pieces : List (List Event)) (es : List Event) → after net (flat_map (λ fs. fs) pieces) ≡ mid → AreEventfulRounds net pieces → has_ended mid ≡ false → es ≢ [] → es ≡ sprint mid most_events → AreEventfulRounds net (pieces ++ es ∷ [])
busy_snoc net mid [] es is busy awake some all = (subst (λ (n : Network). has_ended n ≡ false) (sym is) awake, some, subst (λ (n : Network). es ≡ sprint n most_events) (sym is) all, tt)
busy_snoc net mid (fs ∷ pieces) es is busy awake some all =
    (busy.0, busy.1, busy.2, busy_snoc (after net fs) mid pieces es (sym (fold-append effect net fs (flat_map (λ gs. gs) pieces)) ∙ is) busy.3 awake some all)

-- rounds, and one more after them
rounds_snoc : (budget : ℕ) (net mid end : Network) (pieces : List (List Event)) (es : List Event) → AreRounds budget net pieces mid → deliveries mid < budget → IsRound mid es end → AreRounds budget net (pieces ++ es ∷ []) end
rounds_snoc budget net mid end [] es are lt one = (subst (λ (n : Network). deliveries n < budget) (sym are) lt, (end, subst (λ (n : Network). IsRound n es end) (sym are) one, refl))
rounds_snoc budget net mid end (fs ∷ pieces) es are lt one = (are.0, (are.1.0, are.1.1, rounds_snoc budget are.1.0 mid end pieces es are.1.2 lt one))

-- all events of these rounds
abbrev all_in : List (List Event) → List Event
all_in pieces = flat_map (λ es. es) pieces

all_snoc : (pieces : List (List Event)) (es : List Event) → all_in pieces ++ es ≡ all_in (pieces ++ es ∷ [])
all_snoc pieces es =
    ap (λ (fs : List Event). all_in pieces ++ fs) (sym (append-nil es)) ∙ sym (flat_map-append (λ (fs : List Event). fs) pieces (es ∷ []))

pub sprinted_none : (p : Dcop) (budget : ℕ) (first : Network) (s : CoreView) (a : Option NotesView) → IsCore p first s → (h : Sprinted p budget first 0 s) × KeepNotes p first (flat_map (λ es. es) h.pieces) a a
sprinted_none p budget first s a core = (record { pieces = []; mid = first; are = refl; busy = tt; played = refl; few = omega arith; core = core; spent = omega arith; counted = omega arith }, keep_none p first a)

-- the notes of rounds, and of one more
keep_round : (p : Dcop) (budget : ℕ) (first : Network) (k : ℕ) (s : CoreView) (a b c : Option NotesView) (h : Sprinted p budget first k s) (es : List Event) → KeepNotes p first (all_in h.pieces) a b → KeepNotes p h.mid es b c
    → KeepNotes p first (all_in h.pieces ++ es) a c
keep_round p budget first k s a b c h es keep one =
    keep_then p first h.mid (all_in h.pieces) es a b c (ran_after first h.mid (all_in h.pieces) (rounds_are_a_run budget first h.mid h.pieces h.are)) keep one

-- a round was played, with some event
pub sprinted_next : (p : Dcop) (budget : ℕ) (first : Network) (k : ℕ) (s t : CoreView) (a b c : Option NotesView) (still : Bool) → budget ≤ most_counted
    → (h : Sprinted p budget first k s) × KeepNotes p first (flat_map (λ es. es) h.pieces) a b → is_over budget s ≡ false → PlaysSprint s b t c still → still ≡ false
    → (now : Sprinted p budget first (k + 1) t) × KeepNotes p first (flat_map (λ es. es) now.pieces) a c
sprinted_next p budget first k s t a b c still le from over plays moved =
    let h = from.0 in
    let played = plays p h.mid h.core in
    let one = played.0 in
    let events : List Event = one.events in
    let whole : events ≡ sprint h.mid most_events = sprint_is p h.mid t one in
    let some : length events ≢ 0 = eqb-false (length events) 0 (sym played.1 ∙ moved) in
    let on : (has_ended h.mid || nat_le budget (deliveries h.mid)) ≡ false = sym (over_is p budget h.mid s le h.core) ∙ over in
    let below : deliveries h.mid < budget = leb-false budget (deliveries h.mid) (or_parts (has_ended h.mid) (nat_le budget (deliveries h.mid)) on).1 in
    let is_round : IsRound h.mid events one.mid = record { leads = one.leads.ran; few = one.few; bounded = one.leads.bounded; served = λ i j runs. subst (λ (es : List Event). min link_share (length (pending h.mid i j)) ≤ taken_in i j es) (sym whole) (sprint_serves h.mid 31 i j (core_desks p h.mid s h.core)) } in (
      record {
        pieces = h.pieces ++ events ∷ [];
        mid = one.mid;
        are = rounds_snoc budget first h.mid one.mid h.pieces events h.are below is_round;
        busy = busy_snoc first h.mid h.pieces events (ran_after first h.mid (all_in h.pieces) (rounds_are_a_run budget first h.mid h.pieces h.are)) h.busy
            (or_parts (has_ended h.mid) (nat_le budget (deliveries h.mid)) on).0 (λ none. some (ap (λ (es : List Event). length es) none)) whole;
        played = length-append h.pieces (events ∷ []) ∙ ap (λ (m : ℕ). m + 1) h.played;
        few = let spent = h.spent in omega (arith, spent, below);
        core = one.leads.core;
        spent = let more = one.leads.more in let spent = h.spent in elim (cases_eq (length events) 0) [ inl none ↦ absurd (some none) | inr ne ↦ omega (arith, more, spent, ne) ];
        counted = let c = one.counted in omega (arith, c, below);
      },
      keep_same p first (all_in h.pieces ++ events) (all_in (h.pieces ++ events ∷ [])) a c (all_snoc h.pieces events) (keep_round p budget first k s a b c h events from.1 played.2),
    )

-- playing stops
pub sprints_stop : (p : Dcop) (budget : ℕ) (first : Network) (k : ℕ) (s : CoreView) (a b : Option NotesView) → (h : Sprinted p budget first k s) → KeepNotes p first (flat_map (λ es. es) h.pieces) a b → stops budget h.mid ≡ true
    → (pieces : List (List Event)) × (end : Network) × (how : RunEnd) × AreRounds budget first pieces end × IsRunEnd budget end how × IsCore p end s × (deliveries end ≤ deliveries first + budget + most_events * turn_share)
    × KeepNotes p first (flat_map (λ es. es) pieces) a b × AreEventfulRounds first pieces × (length pieces ≤ budget)
sprints_stop p budget first k s a b h keep stop =
    let how = stopped-how budget h.mid (core_desks p h.mid s h.core) stop in
    (h.pieces, h.mid, how.0, h.are, how.1, h.core, h.counted, keep, h.busy, let played = h.played in let few = h.few in omega (arith, played, few))

-- a round had no event
pub sprints_still : (p : Dcop) (budget : ℕ) (first : Network) (k : ℕ) (s t : CoreView) (a b c : Option NotesView) (still : Bool) → (h : Sprinted p budget first k s) × KeepNotes p first (flat_map (λ es. es) h.pieces) a b
    → PlaysSprint s b t c still → still ≡ true
    → (pieces : List (List Event)) × (end : Network) × (how : RunEnd) × AreRounds budget first pieces end × IsRunEnd budget end how × IsCore p end t × (deliveries end ≤ deliveries first + budget + most_events * turn_share)
    × KeepNotes p first (flat_map (λ es. es) pieces) a c × AreEventfulRounds first pieces × (length pieces ≤ budget)
sprints_still p budget first k s t a b c still from plays is =
    let h = from.0 in
    let played = plays p h.mid h.core in
    let one = played.0 in
    let none : length one.events ≡ 0 = eqb-true (length one.events) 0 (sym played.1 ∙ is) in
    let same : one.mid ≡ h.mid = sym one.leads.is ∙ ap (λ (es : List Event). after h.mid es) (empty_by one.events none) in
    let now : IsCore p h.mid t = subst (λ (n : Network). IsCore p n t) same one.leads.core in
    let empty : all_in h.pieces ++ one.events ≡ all_in h.pieces = ap (λ (es : List Event). all_in h.pieces ++ es) (empty_by one.events none) ∙ append-nil (all_in h.pieces) in
    let keep : KeepNotes p first (all_in h.pieces) a c = keep_same p first (all_in h.pieces ++ one.events) (all_in h.pieces) a c empty (keep_round p budget first k s a b c h one.events from.1 played.2) in
    sprints_stop p budget first k t a c (record { pieces = h.pieces; mid = h.mid; are = h.are; busy = h.busy; played = h.played; few = h.few; core = now; spent = h.spent; counted = h.counted }) keep
    (stops_still budget h.mid (empty_by (round h.mid) (sprint_still h.mid 31 (ap (λ (es : List Event). length es) (sym (sprint_is p h.mid t one)) ∙ none))))
