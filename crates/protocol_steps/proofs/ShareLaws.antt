-- How much rounds take, and how much of one sender at a time.
use Rattle.std.proofs.Common.{◌≡◌, ◌≢◌, ℕ, zero, suc, ◌+◌, ◌*◌, ◌<◌, ◌≤◌, max, Bool, true, false, nat_le, ◌==◌, if◌then◌else◌, List, [], ◌∷◌, ◌++◌, map, length, Some, refl, sym, ap, subst, ◌∙◌, arith}
use Rattle.std.specs.List.{All, sum_by, flat_map, list_any, slice_get, slice_set}
use Rattle.std.proofs.lemmas.Bool.{ne_eqb, eq-eqb, leb-true, leb-false, or_parts}
use Rattle.std.proofs.lemmas.Option.{same_Some, slice_get_within}
use Rattle.std.proofs.lemmas.List.{length-set, length-map}
use Rattle.std.proofs.lemmas.List.Elements.{All-nil, All-cons, All-head, All-tail, All-append}
use Rattle.std.proofs.lemmas.List.Sums.{sum_by-append, sum_by-cons}
use Rattle.std.proofs.lemmas.Nat.{mul-le}
use Rattle.std.proofs.Math.Nat.{mul-suc}
use Rattle.protocol_steps.specs.declared.event.Take.{Take}
use Rattle.protocol_steps.specs.declared.event.Event.{Event}
use Rattle.protocol_steps.specs.View.{View, ended_of}
use Rattle.protocol_steps.specs.Step.{start_of, step_of}
use Rattle.protocol_steps.specs.Network.{Desk, Network, start_state, batch}
use Rattle.protocol_steps.specs.Effect.{desk_after, deliveries}
use Rattle.protocol_steps.specs.Run.{ascends_from, form_fault, too_many, run, journal}
use Rattle.protocol_steps.specs.Rounds.{most_events, link_share, AreShares, TakeShares, IsRound, AreRounds}
use Rattle.protocol_steps.specs.RoundBounds.{round_share, RoundsAreBounded}
use Rattle.protocol_steps.proofs.EventLaws.{Happens, begins, both_none}
use Rattle.protocol_steps.proofs.AccountLaws.{form_parts}
use Rattle.protocol_steps.proofs.JournalLaws.{own_takes}
use Rattle.protocol_steps.proofs.TallyLaws.{tally, tally_more, sum-set}

abbrev TakesShares : Event → Type 0
TakesShares e = AreShares e.takes

-- events that take shares, by their agents' journals
own_shares : (b : Bool) (ts : List Take) → AreShares ts → All AreShares (if b then ts ∷ [] else [])
own_shares true ts h = All-cons AreShares ts [] h (All-nil AreShares)
own_shares false ts h = All-nil AreShares

pub journal_shares : (i : ℕ) (es : List Event) → TakeShares es → All AreShares (journal i es)
journal_shares i [] h = All-nil AreShares
journal_shares i (e ∷ es) h =
    All-append AreShares (own_takes i e) (journal i es) (own_shares (e.agent == i) e.takes (All-head TakesShares e es h)) (journal_shares i es (All-tail TakesShares e es h))

later_shares : (b : Bool) (ts : List Take) (js : List (List Take)) → All AreShares ((if b then ts ∷ [] else []) ++ js) → All AreShares js
later_shares true ts js h = All-tail AreShares ts js h
later_shares false ts js h = h

pub shares_from : (es : List Event) → ((i : ℕ) → All AreShares (journal i es)) → TakeShares es
shares_from [] h = All-nil TakesShares
shares_from (e ∷ es) h =
    let first : All AreShares (e.takes ∷ journal e.agent es) =
    subst (λ (b : Bool). All AreShares ((if b then e.takes ∷ [] else []) ++ journal e.agent es)) (eq-eqb e.agent e.agent refl) (h e.agent) in
    All-cons TakesShares e es (All-head AreShares e.takes (journal e.agent es) first) (shares_from es (λ i. later_shares (e.agent == i) e.takes (journal i es) (h i)))

rounds_share : (budget : ℕ) (before after : Network) (pieces : List (List Event)) → AreRounds budget before pieces after → TakeShares (flat_map (λ es. es) pieces)
rounds_share budget before after [] h = All-nil TakesShares
rounds_share budget before after (es ∷ pieces) h =
    All-append TakesShares es (flat_map (λ fs. fs) pieces) h.1.1.bounded (rounds_share budget h.1.0 after pieces h.1.2)

-- how many messages these takes take
abbrev counts : List Take → ℕ
counts ts = sum_by (λ t. t.count) ts

abbrev taken_by : Desk → ℕ
taken_by x = counts x.takes

-- ascending senders below n are no more than n
few_takes : (n b : ℕ) (ts : List Take) → b ≤ n → list_any (λ t. nat_le n t.from) ts ≡ false → ascends_from b ts ≡ true → length ts + b ≤ n
few_takes n b [] le known up = omega (arith, le)
few_takes n b (t ∷ ts) le known up =
    let these = or_parts (nat_le n t.from) (list_any (λ u. nat_le n u.from) ts) known in
    let below : t.from < n = leb-false n t.from these.0 in
    let parts = then_both (nat_le b t.from) (ascends_from (t.from + 1) ts) up in
    let over : b ≤ t.from = leb-true b t.from parts.0 in
    let rest = few_takes n (t.from + 1) ts (omega (arith, below)) these.1 parts.1 in
    omega (arith, over, rest)
  where
    then_both : (b x : Bool) → (if b then x else false) ≡ true → (b ≡ true) × (x ≡ true)
    then_both true x h = (refl, h)
    then_both false x h = absurd (cc)

counts_few : (ts : List Take) → AreShares ts → counts ts ≤ link_share * length ts
counts_few [] h = omega arith
counts_few (t ∷ ts) h =
    let first : t.count ≤ link_share = All-head (λ (u : Take). u.count ≤ link_share) t ts h in
    let rest = counts_few ts (All-tail (λ (u : Take). u.count ≤ link_share) t ts h) in
    omega (arith, first, rest, sum_by-cons (λ (u : Take). u.count) t ts)

-- what one event of shares among n agents delivers at most
event_delivers : (net one : Network) (e : Event) → Happens net e one → AreShares e.takes
    → (deliveries one ≤ deliveries net + link_share * length net.desks) × (length one.desks ≡ length net.desks) × (e.agent < length net.desks)
event_delivers net one e h shares =
    let n : ℕ = length net.desks in
    let y : Desk = desk_after h.desk (step_of h.view (batch net.desks e.agent e.takes)).sends e.takes in
    let form = form_parts n (ended_of h.view) e.takes (both_none (form_fault n (ended_of h.view) e.takes) (too_many net.desks e.agent e.takes) h.fine).0 in
    let few = few_takes n 0 e.takes (omega arith) form.0 form.1 in
    let most = counts_few e.takes shares in
    let more : taken_by y ≡ taken_by h.desk + counts e.takes = sum_by-append (λ (t : Take). t.count) h.desk.takes e.takes in
    let set : sum_by taken_by (slice_set net.desks e.agent y) ≡ sum_by taken_by net.desks + counts e.takes = sum-set taken_by net.desks e.agent (counts e.takes) h.desk y h.desks more in
    subst (λ (z : Network). (deliveries z ≤ deliveries net + link_share * n) × (length z.desks ≡ n) × (e.agent < n)) h.after
    (omega (arith, few, most, set), length-set net.desks e.agent y, slice_get_within net.desks e.agent h.desk h.desks)

-- events of agents below n
abbrev AreBelow : ℕ → List Event → Type 0
AreBelow n [] = Unit {0}
AreBelow n (e ∷ es) = (e.agent < n) × AreBelow n es

record Delivers (n : ℕ) (net end : Network) (es : List Event) : Type 0 where
  delivered : deliveries end ≤ deliveries net + (link_share * n) * length es
  size : length end.desks ≡ n
  below : AreBelow n es

run_delivers : (n : ℕ) (net end : Network) (es : List Event) → length net.desks ≡ n → run net es ≡ Some end → TakeShares es → Delivers n net end es
run_delivers n net end [] size r h =
    let same = same_Some net end r in
    let is = ap deliveries same in
    record { delivered = omega (arith, is); size = ap (λ (z : Network). length z.desks) (sym same) ∙ size; below = tt }
run_delivers n net end (e ∷ es) size r h =
    let b = begins net end e es r in
    let one = event_delivers net b.next e b.first (All-head TakesShares e es h) in
    let rest = run_delivers n b.next end es (one.1 ∙ size) b.rest (All-tail TakesShares e es h) in
    let later = rest.delivered in
    let sum : (link_share * n) * length (e ∷ es) ≡ (link_share * n) * length es + link_share * n = mul-suc (link_share * n) (length es) in
    record {
      delivered = omega (arith, one.0, later, sum, size);
      size = rest.size;
      below = (omega (arith, one.2, size), rest.below);
    }

-- events by their agents' journals
tally_none : (n : ℕ) → tally (λ i. 0) n ≡ 0
tally_none zero = refl
tally_none (suc n) = let rest = tally_none n in omega (arith, rest)

journals_count : (n : ℕ) (es : List Event) → AreBelow n es → tally (λ i. length (journal i es)) n ≡ length es
journals_count n [] h = tally_none n
journals_count n (e ∷ es) h =
    let rest = journals_count n es h.1 in
    let one = tally_more (λ i. length (journal i es)) (λ i. length (journal i (e ∷ es))) n e.agent 1 h.0 (own_counts (e.agent == e.agent) e.takes (journal e.agent es) (eq-eqb e.agent e.agent refl))
    (λ i ne. other_counts (e.agent == i) e.takes (journal i es) (ne_eqb e.agent i (λ same. ne (sym same)))) in
    omega (arith, rest, one)
  where
    own_counts : (b : Bool) (ts : List Take) (js : List (List Take)) → b ≡ true → length ((if b then ts ∷ [] else []) ++ js) ≡ length js + 1
    own_counts true ts js is = omega arith
    own_counts false ts js is = absurd (cc)

    other_counts : (b : Bool) (ts : List Take) (js : List (List Take)) → b ≡ false → length ((if b then ts ∷ [] else []) ++ js) ≡ length js
    other_counts true ts js is = absurd (cc)
    other_counts false ts js is = refl

tally_few : (f : ℕ → ℕ) (n : ℕ) → ((i : ℕ) → f i ≤ most_events) → tally f n ≤ most_events * n
tally_few f zero few = omega arith
tally_few f (suc n) few = let rest = tally_few f n few in let last = few n in omega (arith, rest, last)

-- what a round delivers at most
round_delivers : (n : ℕ) (net end : Network) (es : List Event) → length net.desks ≡ n → IsRound net es end → (deliveries end ≤ deliveries net + round_share n) × (length end.desks ≡ n)
round_delivers n net end es size r =
    let d = run_delivers n net end es size r.leads r.bounded in
    let events : length es ≤ most_events * n = let count = journals_count n es d.below in let few = tally_few (λ i. length (journal i es)) n r.few in omega (arith, count, few) in
    let wide : (link_share * n) * length es ≤ (link_share * n) * (most_events * n) = mul-le (link_share * n) (length es) (link_share * n) (most_events * n) (omega arith) events in
    let most = d.delivered in
    (omega (arith, most, wide), d.size)

rounds_deliver : (budget n : ℕ) (net end : Network) (pieces : List (List Event)) → length net.desks ≡ n → AreRounds budget net pieces end → deliveries end ≤ max (deliveries net) (budget + round_share n)
rounds_deliver budget n net end [] size h = let is = ap deliveries h in omega (arith, is)
rounds_deliver budget n net end (es ∷ pieces) size h =
    let one = round_delivers n net h.1.0 es size h.1.1 in
    let rest = rounds_deliver budget n h.1.0 end pieces one.1 h.1.2 in
    let less : deliveries net < budget = h.0 in
    omega (arith, less, one.0, rest)

-- in a start state nothing was taken
abbrev first_desk : View → Desk
first_desk v = record { sent = (start_of v).sends; takes = [] }

none_taken : (made : List View) → deliveries (start_state made) ≡ 0
none_taken [] = refl
none_taken (v ∷ vs) =
    let rest : deliveries (start_state vs) ≡ 0 = none_taken vs in
    omega (arith, rest, sum_by-cons taken_by (first_desk v) (map first_desk vs))

pub rounds_are_bounded : RoundsAreBounded
rounds_are_bounded = record {
  shares = rounds_share;
  same = λ es fs same h. shares_from es (λ i. subst (λ (js : List (List Take)). All AreShares js) (sym (same i)) (journal_shares i fs h));
  delivered = λ budget made end pieces h.
      let most = rounds_deliver budget (length made) (start_state made) end pieces (length-map made first_desk) h in
      let none = none_taken made in
      omega (arith, most, none);
}
