-- When playing stops, all agents have ended, the budget is spent, or nothing is pending.
use Rattle.std.proofs.Common.{◌≡◌, ℕ, zero, suc, ◌<◌, ◌≤◌, min, Bool, true, false, cond, eqb, leb, ◌||◌, List, [], ◌∷◌, ◌++◌, length, drop, get_or, Option, Some, None, refl, sym, ap, subst, ◌∙◌, inl, inr, arith}
use Rattle.std.specs.List.{flat_map, range_with_len, slice_get}
use Rattle.std.proofs.lemmas.Bool.{cases_Bool, cases_lt, eqb-true, leb-true, leb-false}
use Rattle.std.proofs.lemmas.List.FromFn.{length-range_with_len, get_or-range_with_len}
use Rattle.protocol_steps.specs.declared.message.Message.{Message}
use Rattle.protocol_steps.specs.declared.event.Take.{Take}
use Rattle.protocol_steps.specs.declared.event.Event.{Event}
use Rattle.protocol_steps.specs.declared.run_end.RunEnd.{RunEnd}
use Rattle.protocol_steps.specs.declared.run_end.RunEnd.TheVariants.{AllEnded, Spent, Still}
use Rattle.protocol_steps.specs.View.{View}
use Rattle.protocol_steps.specs.Network.{Desk, Network, messages_to, sent_at, takes_at, taken_from, waiting, link}
use Rattle.protocol_steps.specs.Effect.{pending, pending_at, has_ended, deliveries}
use Rattle.protocol_steps.specs.RunEnds.{NothingPending, IsRunEnd}
use Rattle.protocol_steps.specs.Rounds.{link_share}
use Rattle.letter_queues.specs.Takes.{take_some}
use Rattle.delivery_turns.specs.Turns.{turn_takes, event_with, turn, after, turns, round, stops, PlaysTo}

module _ {A : Type 0} where
  none_of : (xs ys : List A) → xs ++ ys ≡ [] → (xs ≡ []) × (ys ≡ [])
  none_of [] ys none = (refl, none)
  none_of (x ∷ xs) ys none = absurd (cc)

  none_long : (xs : List A) → length xs ≡ 0 → xs ≡ []
  none_long [] e = refl
  none_long (x ∷ xs) e = absurd (omega arith)

  flat_map-none : {X : Type 0} (f : X → List A) (xs : List X) → flat_map f xs ≡ [] → (k : ℕ) (d : X) → k < length xs → f (get_or xs k d) ≡ []
  flat_map-none f [] none k d lt = absurd (omega arith)
  flat_map-none f (x ∷ xs) none zero d lt = (none_of (f x) (flat_map f xs) none).0
  flat_map-none f (x ∷ xs) none (suc k) d lt = flat_map-none f xs (none_of (f x) (flat_map f xs) none).1 k d (omega arith)

  -- one element unless a test holds
  test-none : (b : Bool) (x : A) → cond b [] (x ∷ []) ≡ [] → b ≡ true
  test-none true x none = refl
  test-none false x none = absurd (cc)

event-none : (i : ℕ) (ts : List Take) → event_with i ts ≡ [] → ts ≡ []
event-none i ts none = none_long ts (eqb-true (length ts) 0 (test-none (eqb (length ts) 0) (record { agent = i; takes = ts }) none))

take-none : (j count : ℕ) → take_some j count ≡ [] → count ≡ 0
take-none j count none = eqb-true count 0 (test-none (eqb count 0) (record { from = j; count = min count link_share }) none)

-- turns without an event are turns in which nobody takes anything
turns-none : (net : Network) (is : List ℕ) → turns net is ≡ [] → (k d : ℕ) → k < length is → turn net (get_or is k d) ≡ []
turns-none net [] none k d lt = absurd (omega arith)
turns-none net (i ∷ is) none zero d lt = (none_of (turn net i) (turns (after net (turn net i)) is) none).0
turns-none net (i ∷ is) none (suc k) d lt =
    let parts = none_of (turn net i) (turns (after net (turn net i)) is) none in
    turns-none net is (sym (ap (λ (es : List Event). turns (after net es) is) parts.0) ∙ parts.1) k d (omega arith)

-- after a round without an event nothing is pending
pub round-none : (net : Network) → length (round net) ≡ 0 → (i j : ℕ) → i < length net.views → j < length net.views → pending net i j ≡ []
round-none net none i j li lj =
    let n : ℕ = length net.views in
    let long : length (range_with_len 0 n) ≡ n = length-range_with_len 0 n in
    let at-i : get_or (range_with_len 0 n) i 0 ≡ i = get_or-range_with_len 0 n i 0 li ∙ omega arith in
    let at-j : get_or (range_with_len 0 n) j 0 ≡ j = get_or-range_with_len 0 n j 0 lj ∙ omega arith in
    let idle : turn net (get_or (range_with_len 0 n) i 0) ≡ [] = turns-none net (range_with_len 0 n) (none_long (round net) none) i 0 (omega arith) in
    let takes : turn_takes net i ≡ [] = event-none i (turn_takes net i) (subst (λ (k : ℕ). turn net k ≡ []) at-i idle) in
    let taken = flat_map-none (λ k. take_some k (length (pending net i k))) (range_with_len 0 n) takes j 0 (omega arith) in
    none_long (pending net i j) (take-none j (length (pending net i j)) (subst (λ (k : ℕ). take_some k (length (pending net i k)) ≡ []) at-j taken))

-- playing stops at its end
pub played-stops : (budget : ℕ) (net end : Network) (pieces : List (List Event)) → PlaysTo budget net pieces end → stops budget end ≡ true
played-stops budget net end [] plays = subst (λ (n : Network). stops budget n ≡ true) plays.1 plays.0
played-stops budget net end (es ∷ pieces) plays = played-stops budget (after net es) end pieces plays.2

-- there is nothing after the last element of a list
pub past-none : {X : Type 0} (xs : List X) (k : ℕ) → length xs ≤ k → slice_get xs k ≡ None
past-none [] k le = refl
past-none (x ∷ xs) zero le = absurd (omega arith)
past-none (x ∷ xs) (suc k) le = past-none xs k (omega arith)

dropped-none : (k : ℕ) → drop {A = Message} k [] ≡ []
dropped-none zero = refl
dropped-none (suc k) = refl

-- an agent that does not exist has nothing pending
nobody-receives : (net : Network) (i j : ℕ) → length net.views ≤ i → pending net i j ≡ []
nobody-receives net i j le = ap (λ (o : Option View). pending_at net i j o) (past-none net.views i le)

pending-none : (net : Network) (i j : ℕ) (o : Option View) → waiting net.desks i j ≡ [] → pending_at net i j o ≡ []
pending-none net i j None none = refl
pending-none net i j (Some v) none = either-none _ none
  where
    either-none : (b : Bool) {ms : List Message} → ms ≡ [] → cond b [] ms ≡ []
    either-none true e = refl
    either-none false e = e

nobody-sends : (net : Network) (i j : ℕ) → length net.desks ≤ j → pending net i j ≡ []
nobody-sends net i j le =
    let nothing : link net.desks j i ≡ [] = ap (λ (o : Option Desk). messages_to i (sent_at o)) (past-none net.desks j le) in
    let k : ℕ = taken_from j (takes_at (slice_get net.desks i)) in
    pending-none net i j (slice_get net.views i) (ap (λ (ms : List Message). drop k ms) nothing ∙ dropped-none k)

-- after a round without an event nothing is pending anywhere
still-nothing : (net : Network) → length net.desks ≡ length net.views → length (round net) ≡ 0 → NothingPending net
still-nothing net size none i j =
    elim (cases_lt i (length net.views)) [
      | inl li ↦ elim (cases_lt j (length net.views)) [
        | inl lj ↦ round-none net none i j li lj
        | inr past ↦ nobody-sends net i j (omega (arith, past, size))
      ]
      | inr past ↦ nobody-receives net i j past
    ]

-- how playing ended when it stopped
pub stopped-how : (budget : ℕ) (net : Network) → length net.desks ≡ length net.views → stops budget net ≡ true → (how : RunEnd) × IsRunEnd budget net how
stopped-how budget net size stopped =
    elim (cases_Bool (has_ended net)) [
      | inl ended ↦ (AllEnded (deliveries net), (refl, ended))
      | inr runs ↦ elim (cases_Bool (leb budget (deliveries net))) [
        | inl enough ↦ (Spent (deliveries net), (refl, runs, leb-true budget (deliveries net) enough))
        | inr few ↦
            let rest : (length (round net) ≡ 0) = eqb-true (length (round net)) 0 (last-of (has_ended net) (leb budget (deliveries net)) (eqb (length (round net)) 0) runs few stopped) in
            (Still (deliveries net), (refl, runs, leb-false budget (deliveries net) few, still-nothing net size rest))
      ]
    ]
  where
    last-of : (a b c : Bool) → a ≡ false → b ≡ false → (a || b || c) ≡ true → c ≡ true
    last-of false false c p q h = h
    last-of true b c p q h = absurd (cc)
    last-of false true c p q h = absurd (cc)
