-- What waits on the links of a core state, and what an event adds to them.
use Rattle.std.proofs.Common.{◌≡◌, ℕ, ◌+◌, ◌-◌, ◌<◌, ◌≤◌, Bool, true, false, not, ◌||◌, ◌==◌, if◌then◌else◌, List, [], ◌++◌, length, drop, replicate, Option, None, refl, sym, ap, subst, ◌∙◌, inl, inr, ◌⊎◌, arith}
use Rattle.std.specs.List.{Contains, range_with_len}
use Rattle.std.proofs.lemmas.Bool.{and_parts, not-true, eqb-false}
use Rattle.std.proofs.lemmas.List.{length-append, length-drop, length-replicate, nil_from_length, drop-append-le}
use Rattle.dcop_base.specs.Problem.{Dcop}
use Rattle.dcop_base.specs.Graph.{share_table, are_joined, are_neighbours, neighbours}
use Rattle.protocol_steps.specs.declared.message.Message.{Message}
use Rattle.protocol_steps.specs.declared.event.Event.{Event}
use Rattle.protocol_steps.specs.Network.{Network, messages_to, link}
use Rattle.protocol_steps.specs.Effect.{effect}
use Rattle.protocol_steps.specs.Links.{taken_at, sent_in, step_in, IsEffect}
use Rattle.protocol_steps.specs.Run.{event_fault}
use Rattle.protocol_steps.proofs.RunLaws.{happens_next}
use Rattle.protocol_steps.proofs.LinkLaws.{links_grow}
use Rattle.letter_queues.specs.Links.{LinkView, waiting_on}
use Rattle.delivery_core.specs.State.{CoreView, inbox_at, count_waiting}
use Rattle.delivery_core.specs.Shown.{IsCore}
use Rattle.delivery_core.proofs.NearLaws.{from_filter, near_back}
use Rattle.delivery_core.proofs.RunLaws.{counts_waiting}
use Rattle.log_replay.specs.Queues.{QueueView, queue_to, receivers}
use Rattle.log_replay.proofs.QueueLaws.{queue_missing, link_missing}

-- no variable is its own neighbour
not_its_own : (p : Dcop) (i : ℕ) → Contains (neighbours p i) i → ⊥
not_its_own p i c =
    let near : are_neighbours p i i ≡ true = (from_filter (are_neighbours p i) (range_with_len 0 (length p.sizes)) i c).0 in
    let apart = and_parts (not (i == i)) (share_table p.tables i i || are_joined p.joints i i) near in
    eqb-false i i (not-true (i == i) apart.0) refl

module _ (p : Dcop) (net : Network) (s : CoreView) (core : IsCore p net s) where
  pub many_agents : length s.seats ≡ length p.sizes
  many_agents = core.shows.size

  -- no more is taken on a link than was sent there
  pub taken_sent : (i j : ℕ) → i < length p.sizes → taken_at net.desks i j ≤ length (link net.desks j i)
  taken_sent i j lt =
      let inside : i < length s.seats = omega (arith, lt, many_agents) in
      let sent = ap (λ (ms : List Message). length ms) (core.shows.sent i j inside) in
      let sum = length-append (core.shows.past i j) (core.shows.rest i j) in
      let taken = core.shows.taken i j inside in
      omega (arith, sent, sum, taken)

  -- what waits is what was sent and not taken
  pub count_is : (i j : ℕ) → i < length p.sizes → count_waiting s i j ≡ length (link net.desks j i) - taken_at net.desks i j
  count_is i j lt = counts_waiting p net s i j core (omega (arith, lt, many_agents)) ∙ length-drop (taken_at net.desks i j) (link net.desks j i)

  -- an agent without a queue for a receiver has nothing that waits for it
  pub none_waits : (i j : ℕ) (row : List QueueView) → i < length p.sizes → receivers row ≡ neighbours p j → queue_to i row ≡ None → count_waiting s i j ≡ 0
  none_waits i j row lt same none =
      let inside : i < length s.seats = omega (arith, lt, many_agents) in
      let apart : Contains (neighbours p i) j → ⊥ = λ c. queue_missing i row none (subst (λ (ns : List ℕ). Contains ns i) (sym same) (near_back p i j lt c).1) in
      let apart_here = subst (λ (ns : List ℕ). Contains ns j → ⊥) (sym (core.shows.links i inside)) apart in
      ap (λ (o : Option LinkView). length (waiting_on o)) (link_missing j (inbox_at s.seats i) apart_here)

  -- nor has an agent for itself
  pub none_for_itself : (i : ℕ) → i < length p.sizes → length (link net.desks i i) ≤ taken_at net.desks i i
  none_for_itself i lt =
      let inside : i < length s.seats = omega (arith, lt, many_agents) in
      let apart = subst (λ (ns : List ℕ). Contains ns i → ⊥) (sym (core.shows.links i inside)) (not_its_own p i) in
      let none : count_waiting s i i ≡ 0 = ap (λ (o : Option LinkView). length (waiting_on o)) (link_missing i (inbox_at s.seats i) apart) in
      let count = count_is i i lt in
      omega (arith, none, count)

module _ (net : Network) (e : Event) (fine : event_fault net e ≡ None) where
  pub effect_is : IsEffect net e (effect net e)
  effect_is = links_grow.happens net (effect net e) e (happens_next net e fine)

  abbrev more : ℕ → ℕ → List Message
  more i j = sent_in e.agent j i (step_in net e effect_is.view).sends

  pub sent_more : (i j : ℕ) → length (link (effect net e).desks j i) ≡ length (link net.desks j i) + length (more i j)
  sent_more i j = ap (λ (ms : List Message). length ms) (effect_is.sent i j) ∙ length-append (link net.desks j i) (more i j)

  pub sent_grows : (i j : ℕ) → length (link net.desks j i) ≤ length (link (effect net e).desks j i)
  sent_grows i j = let h = sent_more i j in omega (arith, h)

  -- another agent sends nothing
  pub sent_none : (i j : ℕ) → (e.agent == j) ≡ false → length (link (effect net e).desks j i) ≡ length (link net.desks j i)
  sent_none i j other =
      let none : length (more i j) ≡ 0 = ap (λ (b : Bool). length (if b then messages_to i (step_in net e effect_is.view).sends else [])) other in
      let h = sent_more i j in
      omega (arith, none, h)

-- stamps of what was sent, of which some were taken, behind which others come
pub joined : (taken old new stamp : ℕ) (sent : List ℕ) → length sent ≡ old → (taken ≤ old) ⊎ (new ≤ taken) → old ≤ new
    → drop taken sent ++ replicate ((new - taken) - length (drop taken sent)) stamp ≡ drop taken (sent ++ replicate (new - old) stamp)
joined taken old new stamp sent size (inl le) grows =
    let left = length-drop taken sent in
    let count : (new - taken) - length (drop taken sent) ≡ new - old = omega (arith, left, size, le, grows) in
    ap (λ (n : ℕ). drop taken sent ++ replicate n stamp) count ∙ sym (drop-append-le taken sent (replicate (new - old) stamp) (omega (arith, le, size)))
joined taken old new stamp sent size (inr all) grows =
    let a = length-append (drop taken sent) (replicate ((new - taken) - length (drop taken sent)) stamp) in
    let b = length-replicate ((new - taken) - length (drop taken sent)) stamp in
    let c = length-drop taken sent in
    let d = length-drop taken (sent ++ replicate (new - old) stamp) in
    let e = length-append sent (replicate (new - old) stamp) in
    let f = length-replicate (new - old) stamp in
    let left : drop taken sent ++ replicate ((new - taken) - length (drop taken sent)) stamp ≡ [] = nil_from_length _ (omega (arith, a, b, c, size, all, grows)) in
    let right : drop taken (sent ++ replicate (new - old) stamp) ≡ [] = nil_from_length _ (omega (arith, d, e, f, size, all, grows)) in
    left ∙ sym right
