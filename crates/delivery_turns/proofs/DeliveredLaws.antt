-- How many messages are delivered in a turn and in a round.
use Rattle.std.proofs.Common.{◌≡◌, ℕ, ◌+◌, ◌*◌, ◌<◌, ◌≤◌, min, Bool, true, false, cond, eqb, leb, ◌||◌, List, [], ◌∷◌, map, length, Option, Some, None, refl, sym, subst, ◌∙◌, arith}
use Rattle.std.specs.List.{flat_map, sum_by, range_with_len, slice_get, slice_set}
use Rattle.std.proofs.lemmas.Bool.{or_parts, leb-false}
use Rattle.std.proofs.lemmas.List.{length-set}
use Rattle.std.proofs.lemmas.List.FromFn.{length-range_with_len}
use Rattle.std.proofs.lemmas.List.Sums.{fold-append, sum_by-append, sum_by-cons}
use Rattle.std.proofs.Math.Nat.{mul-suc}
use Rattle.protocol_steps.specs.declared.event.Take.{Take}
use Rattle.protocol_steps.specs.declared.event.Event.{Event}
use Rattle.protocol_steps.specs.View.{View}
use Rattle.protocol_steps.specs.Step.{start_of, step_of}
use Rattle.protocol_steps.specs.Network.{Desk, Network, start_state, batch}
use Rattle.protocol_steps.specs.Effect.{desk_after, effect, effect_at, pending, has_ended, deliveries}
use Rattle.protocol_steps.proofs.TallyLaws.{sum-set}
use Rattle.protocol_steps.specs.Rounds.{link_share}
use Rattle.letter_queues.specs.Takes.{take_some}
use Rattle.delivery_turns.specs.Turns.{turn_takes, turn, after, turns, round, stops}

-- how many messages these takes take
abbrev counts : List Take → ℕ
counts ts = sum_by (λ t. t.count) ts

-- how many messages an agent took
abbrev taken_by : Desk → ℕ
taken_by x = counts x.takes

-- of one sender at most 64
take-few : (j count : ℕ) (b : Bool) → counts (cond b [] (record { from = j; count = min count link_share } ∷ [])) ≤ 64
take-few j count true = omega arith
take-few j count false =
    let t : Take = record { from = j; count = min count link_share } in
    let one : counts (t ∷ []) ≡ min count 64 + 0 = sum_by-cons (λ (x : Take). x.count) t [] in
    omega (arith, one)

-- of all senders together
takes-few : (pending_from : ℕ → ℕ) (js : List ℕ) → counts (flat_map (λ j. take_some j (pending_from j)) js) ≤ 64 * length js
takes-few pending_from [] = omega arith
takes-few pending_from (j ∷ js) =
    let first = take-few j (pending_from j) (eqb (pending_from j) 0) in
    let rest = takes-few pending_from js in
    let both = sum_by-append (λ (t : Take). t.count) (take_some j (pending_from j)) (flat_map (λ k. take_some k (pending_from k)) js) in
    omega (arith, first, rest, both)

-- an event delivers what it takes, where its agent is there
effect_at-few : (net : Network) (e : Event) (v : Option View) (x : Option Desk) → slice_get net.desks e.agent ≡ x → deliveries (effect_at net e v x) ≤ deliveries net + counts e.takes
effect_at-few net e None x at = omega arith
effect_at-few net e (Some v) None at = omega arith
effect_at-few net e (Some v) (Some x) at =
    let y : Desk = desk_after x (step_of v (batch net.desks e.agent e.takes)).sends e.takes in
    let more : taken_by y ≡ taken_by x + counts e.takes = sum_by-append (λ (t : Take). t.count) x.takes e.takes in
    let set : sum_by taken_by (slice_set net.desks e.agent y) ≡ sum_by taken_by net.desks + counts e.takes = sum-set taken_by net.desks e.agent (counts e.takes) x y at more in
    omega (arith, set)

effect_at-views : (net : Network) (e : Event) (v : Option View) (x : Option Desk) → length (effect_at net e v x).views ≡ length net.views
effect_at-views net e None x = refl
effect_at-views net e (Some v) None = refl
effect_at-views net e (Some v) (Some x) = length-set net.views e.agent (step_of v (batch net.desks e.agent e.takes)).view

-- more messages, and as many agents
abbrev pub Delivers : ℕ → Network → Network → Type 0
Delivers more net mid = (deliveries mid ≤ deliveries net + more) × (length mid.views ≡ length net.views)

event-few : (net : Network) (i : ℕ) (ts : List Take) (b : Bool) → Delivers (counts ts) net (after net (cond b [] (record { agent = i; takes = ts } ∷ [])))
event-few net i ts true = (omega arith, refl)
event-few net i ts false =
    let e : Event = record { agent = i; takes = ts } in
    (effect_at-few net e (slice_get net.views i) (slice_get net.desks i) refl, effect_at-views net e (slice_get net.views i) (slice_get net.desks i))

-- a turn
pub turn-few : (net : Network) (i : ℕ) → Delivers (64 * length net.views) net (after net (turn net i))
turn-few net i =
    let ts : List Take = turn_takes net i in
    let one : Delivers (counts ts) net (after net (turn net i)) = event-few net i ts (eqb (length ts) 0) in
    let few : counts ts ≤ 64 * length (range_with_len 0 (length net.views)) = takes-few (λ j. length (pending net i j)) (range_with_len 0 (length net.views)) in
    let long = length-range_with_len 0 (length net.views) in
    (omega (arith, one.0, few, long), one.1)

-- turns
turns-few : (n : ℕ) (net : Network) (is : List ℕ) → length net.views ≡ n → Delivers ((64 * n) * length is) net (after net (turns net is))
turns-few n net [] size = (omega arith, refl)
turns-few n net (i ∷ is) size =
    let mid : Network = after net (turn net i) in
    let one : Delivers (64 * length net.views) net mid = turn-few net i in
    let rest : Delivers ((64 * n) * length is) mid (after mid (turns mid is)) = turns-few n mid is (one.1 ∙ size) in
    let whole : after net (turns net (i ∷ is)) ≡ after mid (turns mid is) = fold-append effect net (turn net i) (turns mid is) in
    let sum : (64 * n) * length (i ∷ is) ≡ (64 * n) * length is + 64 * n = mul-suc (64 * n) (length is) in
    subst (λ (x : Network). Delivers ((64 * n) * length (i ∷ is)) net x) (sym whole)
    (omega (arith, one.0, rest.0, sum, size), rest.1 ∙ one.1)

-- a round
pub round-few : (n : ℕ) (net : Network) → length net.views ≡ n → Delivers ((64 * n) * n) net (after net (round net))
round-few n net size =
    let all = turns-few n net (range_with_len 0 (length net.views)) size in
    let long : length (range_with_len 0 (length net.views)) ≡ n = length-range_with_len 0 (length net.views) ∙ size in
    subst (λ (k : ℕ). Delivers ((64 * n) * k) net (after net (round net))) long all

-- if playing goes on, the deliveries are below the budget
pub on-below : (budget : ℕ) (net : Network) → stops budget net ≡ false → deliveries net < budget
on-below budget net on =
    let first : (has_ended net || leb budget (deliveries net)) ≡ false = (or_parts (has_ended net || leb budget (deliveries net)) (eqb (length (round net)) 0) on).0 in
    leb-false budget (deliveries net) (or_parts (has_ended net) (leb budget (deliveries net)) first).1

-- an agent's desk at its start
abbrev first_desk : View → Desk
first_desk v = record { sent = (start_of v).sends; takes = [] }

-- in a start state nothing was taken
pub none-taken : (made : List View) → deliveries (start_state made) ≡ 0
none-taken [] = refl
none-taken (v ∷ vs) =
    let rest : deliveries (start_state vs) ≡ 0 = none-taken vs in
    let all = sum_by-cons taken_by (first_desk v) (map first_desk vs) in
    omega (arith, rest, all)
