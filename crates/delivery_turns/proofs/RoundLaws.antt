-- A turn of all agents: one event of an agent at most, which takes what is pending at its turn, and
-- that is no less than before.
use Rattle.std.proofs.Common.{◌≡◌, ◌≢◌, ℕ, zero, suc, ◌+◌, ◌<◌, ◌≤◌, min, Bool, true, false, cond, eqb, ◌==◌, if◌then◌else◌, List, [], ◌∷◌, ◌++◌, length, drop, Option, Some, None, refl, sym, ap, subst, ◌∙◌, inl, inr, arith}
use Rattle.std.specs.List.{flat_map, range_with_len, slice_get, slice_set}
use Rattle.std.proofs.lemmas.Bool.{cases_eq, cases_lt, eqb-true, eq-eqb, ne_eqb}
use Rattle.std.proofs.lemmas.List.{append-nil, length-append, length-drop, length-set}
use Rattle.std.proofs.lemmas.List.Concat.{flat_map-append}
use Rattle.std.proofs.lemmas.List.Sums.{sum_by-append, sum_by-cons}
use Rattle.protocol_steps.specs.declared.message.Message.{Message}
use Rattle.protocol_steps.specs.declared.event.Take.{Take}
use Rattle.protocol_steps.specs.declared.event.Event.{Event}
use Rattle.protocol_steps.specs.View.{View, ended_of}
use Rattle.protocol_steps.specs.Step.{step_of}
use Rattle.protocol_steps.specs.Network.{Desk, Network, message_to, messages_to, taken_from, sent_at, takes_at, link, waiting, batch}
use Rattle.protocol_steps.specs.Effect.{desk_after, network_after, effect_at, pending, pending_at}
use Rattle.protocol_steps.specs.Run.{journal}
use Rattle.protocol_steps.specs.Rounds.{taken_in, link_share}
use Rattle.protocol_steps.proofs.EventLaws.{get_same, get_other}
use Rattle.letter_queues.specs.Takes.{take_some}
use Rattle.delivery_turns.specs.Turns.{turn_takes, turn, after, turns, round}
use Rattle.delivery_turns.proofs.StopLaws.{past-none}

-- an event of another agent leaves what is pending, and may add to it
link-grows : (ds : List Desk) (a i j : ℕ) (x : Desk) (sends : List (ℕ × Message)) (ts : List Take) → slice_get ds a ≡ Some x
    → (more : List Message) × (link (slice_set ds a (desk_after x sends ts)) j i ≡ link ds j i ++ more)
link-grows ds a i j x sends ts at =
    let y : Desk = desk_after x sends ts in
    elim (cases_eq a j) [
      | inl same ↦ (
        messages_to i sends,
        ap (λ (o : Option Desk). messages_to i (sent_at o)) (subst (λ (k : ℕ). slice_get (slice_set ds a y) k ≡ Some y) same (get_same ds a x y at))
            ∙ flat_map-append (message_to i) x.sent sends
            ∙ ap (λ (o : Option Desk). messages_to i (sent_at o) ++ messages_to i sends) (sym (subst (λ (k : ℕ). slice_get ds k ≡ Some x) same at)),
      )
      | inr other ↦ ([], ap (λ (o : Option Desk). messages_to i (sent_at o)) (get_other ds a j y other) ∙ sym (append-nil (link ds j i)))
    ]

longer : (k : ℕ) (xs ys : List Message) → length (drop k xs) ≤ length (drop k (xs ++ ys))
longer k xs ys = omega (arith, length-drop k xs, length-drop k (xs ++ ys), length-append xs ys)

either-longer : (b : Bool) (xs ys : List Message) → length xs ≤ length ys → length (cond b [] xs) ≤ length (cond b [] ys)
either-longer true xs ys le = omega arith
either-longer false xs ys le = le

pending_at-grows : (net new : Network) (i j : ℕ) (o : Option View) → length (waiting net.desks i j) ≤ length (waiting new.desks i j) → length (pending_at net i j o) ≤ length (pending_at new i j o)
pending_at-grows net new i j None le = omega arith
pending_at-grows net new i j (Some v) le = either-longer (ended_of v) (waiting net.desks i j) (waiting new.desks i j) le

-- as many agents with as many desks
abbrev SameSize : Network → Network → Type 0
SameSize net new = (length new.views ≡ length net.views) × (length new.desks ≡ length net.desks)

effect_at-same : (net : Network) (e : Event) (v : Option View) (x : Option Desk) → SameSize net (effect_at net e v x)
effect_at-same net e None x = (refl, refl)
effect_at-same net e (Some v) None = (refl, refl)
effect_at-same net e (Some v) (Some x) =
    let s = step_of v (batch net.desks e.agent e.takes) in
    (length-set net.views e.agent s.view, length-set net.desks e.agent (desk_after x s.sends e.takes))

effect_at-grows : (net : Network) (e : Event) (i j : ℕ) (v : Option View) (x : Option Desk) → e.agent ≢ i → slice_get net.desks e.agent ≡ x → length (pending net i j) ≤ length (pending (effect_at net e v x) i j)
effect_at-grows net e i j None x ne at = omega arith
effect_at-grows net e i j (Some v) None ne at = omega arith
effect_at-grows net e i j (Some v) (Some x) ne at =
    let s = step_of v (batch net.desks e.agent e.takes) in
    let y : Desk = desk_after x s.sends e.takes in
    let new : Network = network_after net e v x (batch net.desks e.agent e.takes) in
    let grown = link-grows net.desks e.agent i j x s.sends e.takes at in
    let k : ℕ = taken_from j (takes_at (slice_get net.desks i)) in
    let same : waiting new.desks i j ≡ drop k (link net.desks j i ++ grown.0) =
    ap (λ (o : Option Desk). drop (taken_from j (takes_at o)) (link new.desks j i)) (get_other net.desks e.agent i y ne)
    ∙ ap (λ (ms : List Message). drop k ms) grown.1 in
    let le : length (waiting net.desks i j) ≤ length (waiting new.desks i j) =
    subst (λ (ms : List Message). length (waiting net.desks i j) ≤ length ms) (sym same) (longer k (link net.desks j i) grown.0) in
    subst (λ (o : Option View). length (pending net i j) ≤ length (pending_at new i j o)) (sym (get_other net.views e.agent i s.view ne)) (pending_at-grows net new i j (slice_get net.views i) le)

event-same : (net : Network) (a : ℕ) (ts : List Take) (b : Bool) → SameSize net (after net (cond b [] (record { agent = a; takes = ts } ∷ [])))
event-same net a ts true = (refl, refl)
event-same net a ts false = let e : Event = record { agent = a; takes = ts } in effect_at-same net e (slice_get net.views a) (slice_get net.desks a)

event-grows : (net : Network) (a i j : ℕ) (ts : List Take) (b : Bool) → a ≢ i → length (pending net i j) ≤ length (pending (after net (cond b [] (record { agent = a; takes = ts } ∷ []))) i j)
event-grows net a i j ts true ne = omega arith
event-grows net a i j ts false ne = let e : Event = record { agent = a; takes = ts } in effect_at-grows net e i j (slice_get net.views a) (slice_get net.desks a) ne refl

turn-same : (net : Network) (a : ℕ) → SameSize net (after net (turn net a))
turn-same net a = event-same net a (turn_takes net a) (eqb (length (turn_takes net a)) 0)

turn-grows : (net : Network) (a i j : ℕ) → a ≢ i → length (pending net i j) ≤ length (pending (after net (turn net a)) i j)
turn-grows net a i j ne = event-grows net a i j (turn_takes net a) (eqb (length (turn_takes net a)) 0) ne

-- journals of events one after another
pub journal-append : (i : ℕ) (es fs : List Event) → journal i (es ++ fs) ≡ journal i es ++ journal i fs
journal-append i es fs = flat_map-append (λ (e : Event). if e.agent == i then e.takes ∷ [] else []) es fs

pub taken-append : (i j : ℕ) (es fs : List Event) → taken_in i j (es ++ fs) ≡ taken_in i j es + taken_in i j fs
taken-append i j es fs =
    ap (λ (js : List (List Take)). taken_from j (flat_map (λ ts. ts) js)) (journal-append i es fs)
    ∙ ap (λ (ts : List Take). taken_from j ts) (flat_map-append (λ (ts : List Take). ts) (journal i es) (journal i fs))
    ∙ sum_by-append (λ (t : Take). if t.from == j then t.count else 0) (flat_map (λ ts. ts) (journal i es)) (flat_map (λ ts. ts) (journal i fs))

-- the journal of one agent's turn
event-other : (a i : ℕ) (ts : List Take) (b : Bool) → a ≢ i → journal i (cond b [] (record { agent = a; takes = ts } ∷ [])) ≡ []
event-other a i ts true ne = refl
event-other a i ts false ne = ap (λ (b : Bool). cond b (ts ∷ []) [] ++ []) (ne_eqb a i ne)

pub event-one : (a i : ℕ) (ts : List Take) (b : Bool) → length (journal i (cond b [] (record { agent = a; takes = ts } ∷ []))) ≤ 1
event-one a i ts true = omega arith
event-one a i ts false = at-most (eqb a i)
  where
    at-most : (b : Bool) → length (cond b (ts ∷ []) [] ++ []) ≤ 1
    at-most true = omega arith
    at-most false = omega arith

none-long : {X : Type 0} (xs : List X) → length xs ≡ 0 → [] ≡ xs
none-long [] e = refl
none-long (x ∷ xs) e = absurd (omega arith)

event-own : (i j : ℕ) (ts : List Take) (b : Bool) → eqb (length ts) 0 ≡ b → taken_in i j (cond b [] (record { agent = i; takes = ts } ∷ [])) ≡ taken_from j ts
event-own i j ts true none = ap (taken_from j) (none-long ts (eqb-true (length ts) 0 none))
event-own i j ts false some =
    ap (λ (b : Bool). taken_from j (flat_map (λ us. us) (cond b (ts ∷ []) [] ++ []))) (eq-eqb i i refl)
    ∙ ap (taken_from j) (append-nil ts)

pub turn-other : (net : Network) (a i : ℕ) → a ≢ i → journal i (turn net a) ≡ []
turn-other net a i ne = event-other a i (turn_takes net a) (eqb (length (turn_takes net a)) 0) ne

turn-own : (net : Network) (i j : ℕ) → taken_in i j (turn net i) ≡ taken_from j (turn_takes net i)
turn-own net i j = event-own i j (turn_takes net i) (eqb (length (turn_takes net i)) 0) refl

-- in the turns of agents from s on, agent i has no event if it is below s, and otherwise at most
-- one
few-below : (net : Network) (i s m : ℕ) → i < s → length (journal i (turns net (range_with_len s m))) ≡ 0
few-below net i s zero lt = refl
few-below net i s (suc m) lt =
    let mid : Network = after net (turn net s) in
    let rest = few-below mid i (s + 1) m (omega (arith, lt)) in
    ap length (journal-append i (turn net s) (turns mid (range_with_len (s + 1) m)) ∙ ap (λ (js : List (List Take)). js ++ journal i (turns mid (range_with_len (s + 1) m))) (turn-other net s i (λ e. omega (arith, lt, e))))
    ∙ rest

pub few-one : (net : Network) (i s m : ℕ) → length (journal i (turns net (range_with_len s m))) ≤ 1
few-one net i s zero = omega arith
few-one net i s (suc m) =
    let mid : Network = after net (turn net s) in
    let later : List (List Take) = journal i (turns mid (range_with_len (s + 1) m)) in
    let joined : length (journal i (turns net (range_with_len s (suc m)))) ≡ length (journal i (turn net s)) + length later =
    ap length (journal-append i (turn net s) (turns mid (range_with_len (s + 1) m))) ∙ length-append (journal i (turn net s)) later in
    elim (cases_eq s i) [
      | inl same ↦
          let none : length later ≡ 0 = few-below mid i (s + 1) m (omega (arith, same)) in
          let one = event-one s i (turn_takes net s) (eqb (length (turn_takes net s)) 0) in
          omega (arith, joined, none, one)
      | inr other ↦
          let none : length (journal i (turn net s)) ≡ 0 = ap length (turn-other net s i other) in
          let one = few-one mid i (s + 1) m in
          omega (arith, joined, none, one)
    ]

-- what is taken of one sender by takes of the senders from s on
some-taken : (j k count : ℕ) (b : Bool) → eqb count 0 ≡ b → k ≡ j → taken_from j (cond b [] (record { from = k; count = min count link_share } ∷ [])) ≡ min count 64
some-taken j k count true none same = let e = eqb-true count 0 none in omega (arith, e)
some-taken j k count false some same =
    let t : Take = record { from = k; count = min count link_share } in
    let one : taken_from j (t ∷ []) ≡ cond (eqb k j) (min count 64) 0 + 0 = sum_by-cons (λ (x : Take). if x.from == j then x.count else 0) t [] in
    let here : cond (eqb k j) (min count 64) 0 ≡ min count 64 = ap (λ (b : Bool). cond b (min count 64) 0) (eq-eqb k j same) in
    omega (arith, one, here)

takes-own : (count : ℕ → ℕ) (j s m : ℕ) → s ≤ j → j < s + m → min (count j) 64 ≤ taken_from j (flat_map (λ k. take_some k (count k)) (range_with_len s m))
takes-own count j s zero le lt = absurd (omega (arith, le, lt))
takes-own count j s (suc m) le lt =
    let first : List Take = take_some s (count s) in
    let later : List Take = flat_map (λ k. take_some k (count k)) (range_with_len (s + 1) m) in
    let joined : taken_from j (first ++ later) ≡ taken_from j first + taken_from j later = sum_by-append (λ (t : Take). if t.from == j then t.count else 0) first later in
    elim (cases_eq s j) [
      | inl same ↦
          let own : taken_from j first ≡ min (count s) 64 = some-taken j s (count s) (eqb (count s) 0) refl same in
          let there : min (count s) 64 ≡ min (count j) 64 = ap (λ (k : ℕ). min (count k) 64) same in
          omega (arith, joined, own, there)
      | inr other ↦ let rest = takes-own count j (s + 1) m (omega (arith, le, other)) (omega (arith, lt)) in omega (arith, joined, rest)
    ]

-- a turn takes of each sender what is pending, 64 at most
turn-serves : (net : Network) (i j : ℕ) → length net.desks ≡ length net.views → min 64 (length (pending net i j)) ≤ taken_in i j (turn net i)
turn-serves net i j size =
    let own = turn-own net i j in
    elim (cases_lt j (length net.views)) [
      | inl lt ↦ let all = takes-own (λ k. length (pending net i k)) j 0 (length net.views) (omega arith) (omega (arith, lt)) in omega (arith, own, all)
      | inr past ↦
          let nothing : length (link net.desks j i) ≡ 0 = ap (λ (o : Option Desk). length (messages_to i (sent_at o))) (past-none net.desks j (omega (arith, past, size))) in
          let left = length-drop (taken_from j (takes_at (slice_get net.desks i))) (link net.desks j i) in
          let none : length (pending net i j) ≤ 0 = at-most (slice_get net.views i) (omega (arith, nothing, left)) in
          omega (arith, none)
    ]
  where
    either : (b : Bool) (ms : List Message) → length ms ≤ 0 → length (cond b [] ms) ≤ 0
    either true ms le = omega arith
    either false ms le = le

    at-most : (o : Option View) → length (waiting net.desks i j) ≤ 0 → length (pending_at net i j o) ≤ 0
    at-most None le = omega arith
    at-most (Some v) le = either (ended_of v) (waiting net.desks i j) le

-- so do the turns of agents from s on, of what was pending before them
turns-serve : (net : Network) (i j s m : ℕ) → length net.desks ≡ length net.views → s ≤ i → i < s + m → min 64 (length (pending net i j)) ≤ taken_in i j (turns net (range_with_len s m))
turns-serve net i j s zero size le lt = absurd (omega (arith, le, lt))
turns-serve net i j s (suc m) size le lt =
    let mid : Network = after net (turn net s) in
    let later : List Event = turns mid (range_with_len (s + 1) m) in
    let joined = taken-append i j (turn net s) later in
    elim (cases_eq s i) [
      | inl same ↦
          let own : min 64 (length (pending net i j)) ≤ taken_in i j (turn net s) = subst (λ (k : ℕ). min 64 (length (pending net i j)) ≤ taken_in i j (turn net k)) (sym same) (turn-serves net i j size) in
          omega (arith, joined, own)
      | inr other ↦
          let grown = turn-grows net s i j other in
          let sizes = turn-same net s in
          let rest = turns-serve mid i j (s + 1) m (sizes.1 ∙ size ∙ sym sizes.0) (omega (arith, le, other)) (omega (arith, lt)) in
          omega (arith, joined, grown, rest)
    ]

pub round-serves : (net : Network) (i j : ℕ) → length net.desks ≡ length net.views → min 64 (length (pending net i j)) ≤ taken_in i j (round net)
round-serves net i j size =
    elim (cases_lt i (length net.views)) [
      | inl lt ↦ turns-serve net i j 0 (length net.views) size (omega arith) (omega (arith, lt))
      | inr past ↦
          let none : length (pending net i j) ≡ 0 = ap (λ (o : Option View). length (pending_at net i j o)) (past-none net.views i past) in
          omega (arith, none)
    ]
