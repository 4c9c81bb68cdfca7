-- A lawful event: its agent may react on its batch, and its parcels go to agents that are there.
use Rattle.std.proofs.Common.{◌≡◌, ◌≢◌, ℕ, zero, suc, ◌+◌, ◌<◌, ◌≤◌, Bool, true, false, ◌==◌, not, nat_lt, nat_le, if◌then◌else◌, List, [], ◌∷◌, ◌++◌, take, length, get_or, Option, Some, None, refl, sym, ap, subst, ◌∙◌, inl, arith}
use Rattle.std.specs.List.{slice_get, slice_set, list_any, All, Contains}
use Rattle.std.proofs.lemmas.Bool.{ltb-false, or_parts, eqb-false, eqb-true, false≢true}
use Rattle.std.proofs.lemmas.Option.{none-some, get_or_from_slice_get}
use Rattle.std.proofs.lemmas.List.{length-map, length-append, length-take-le}
use Rattle.std.proofs.lemmas.List.Elements.{All-nil, All-append, All-map, All-weaker}
use Rattle.dcop_base.specs.Problem.{Dcop}
use Rattle.dcop_base.proofs.FirstLaws.{Contains-head, Contains-tail}
use Rattle.protocol_steps.specs.declared.message.Message.{Message}
use Rattle.protocol_steps.specs.declared.event.Take.{Take}
use Rattle.protocol_steps.specs.declared.event.Event.{Event}
use Rattle.protocol_steps.specs.declared.event.EventFault.TheVariants.{Nobody, Ended, Nothing, Order, TooMany}
use Rattle.protocol_steps.specs.View.{View, private_of, ended_of}
use Rattle.protocol_steps.specs.Step.{step_of}
use Rattle.protocol_steps.specs.Machine.{MayReact, IsBatch, SendersFrom, IsToNeighbour}
use Rattle.protocol_steps.specs.Network.{Network, waiting, batch}
use Rattle.protocol_steps.specs.Run.{form_fault, has_nothing, ascends_from}
use Rattle.protocol_steps.specs.Effect.{effect, sends_by}
use Rattle.protocol_steps.proofs.EventLaws.{not_then}
use Rattle.letter_queues.specs.Links.{LinkView, waiting_from, letters_of}
use Rattle.letter_queues.specs.Inboxes.{senders, letters_by, short_in}
use Rattle.letter_queues.proofs.InboxLaws.{letters_taken, asc_parts}
use Rattle.delivery_core.specs.State.{SeatView}
use Rattle.delivery_core.specs.SeatEvents.{seat_after, seat_sends, deliver_all, seats_after, seat_fault, core_fault}
use Rattle.delivery_core.specs.Shown.{ShowsNetwork, Moves}
use Rattle.delivery_core.specs.Exchanges.{Trades}
use Rattle.delivery_core.proofs.NearLaws.{near_back}
use Rattle.delivery_core.proofs.ShownLaws.{view_there, ascend, waits_here, letters_same, inside, form, short, box, shown_after}

-- the agent of an event without a fault
pub record Seated (seats : List SeatView) (e : Event) : Type 0 where
  pub seat : SeatView
  pub here : slice_get seats e.agent ≡ Some seat
  pub fine : seat_fault (length seats) e.takes (Some seat) ≡ None

seated_by : (seats : List SeatView) (e : Event) (o : Option SeatView) → slice_get seats e.agent ≡ o → seat_fault (length seats) e.takes o ≡ None → Seated seats e
seated_by seats e None h f = absurd (none-some Nobody (sym f))
seated_by seats e (Some x) h f = record { seat = x; here = h; fine = f }

pub seated : (seats : List SeatView) (e : Event) → core_fault seats e ≡ None → Seated seats e
seated seats e f = seated_by seats e (slice_get seats e.agent) refl f

-- takes of a lawful form: the agent has not ended, and something is taken
form_open : (n : ℕ) (ended : Bool) (ts : List Take) → form_fault n ended ts ≡ None → (ended ≡ false) × (has_nothing ts ≡ false)
form_open n ended ts h =
    let a = not_then (list_any (λ t. nat_le n t.from) ts) Nobody (if ended then Some Ended else (if has_nothing ts then Some Nothing else (if not (ascends_from 0 ts) then Some Order else None))) h in
    let b = not_then ended Ended (if has_nothing ts then Some Nothing else (if not (ascends_from 0 ts) then Some Order else None)) a.1 in
    let c = not_then (has_nothing ts) Nothing (if not (ascends_from 0 ts) then Some Order else None) b.1 in
    (b.0, c.0)

-- then there is a letter
some_by : (W : ℕ → List Message) (ls : List LinkView) (ts : List Take) → has_nothing ts ≡ false → short_in ls ts ≡ None → ((j : ℕ) → waiting_from ls j ≡ letters_of j (W j)) → letters_taken W ts ≡ [] → ⊥
some_by W ls [] n short w e = false≢true (sym n)
some_by W ls (t ∷ ts) n short w e =
    let k : ℕ = length (waiting_from ls t.from) in
    let parts = not_then (nat_lt k t.count) (TooMany t.from t.count k) (short_in ls ts) short in
    let enough : t.count ≤ length (W t.from) =
    subst (λ (m : ℕ). t.count ≤ m) (ap (λ (ms : List (ℕ × Message)). length ms) (w t.from) ∙ length-map (W t.from) (λ m. (t.from, m))) (ltb-false k t.count parts.0) in
    let front : List (ℕ × Message) = letters_of t.from (take t.count (W t.from)) in
    let size : length front ≡ t.count = length-map (take t.count (W t.from)) (λ m. (t.from, m)) ∙ length-take-le t.count (W t.from) enough in
    let whole : length front + length (letters_taken W ts) ≡ 0 = sym (length-append front (letters_taken W ts)) ∙ ap (λ (ms : List (ℕ × Message)). length ms) e in
    let counts = or_parts (length (t ∷ ts) == 0) (list_any (λ u. u.count == 0) (t ∷ ts)) n in
    let first = or_parts (t.count == 0) (list_any (λ u. u.count == 0) ts) counts.1 in
    eqb-false t.count 0 first.0 (omega (arith, size, whole))

-- sender by sender
run_from : (k c : ℕ) (ms : List Message) (rest : List (ℕ × Message)) → c ≤ k → ((b : ℕ) → b ≤ k → SendersFrom b rest) → SendersFrom c (letters_of k ms ++ rest)
run_from k c [] rest le more = more c le
run_from k c (m ∷ ms) rest le more = (le, run_from k k ms rest (omega arith) more)

senders_asc : (W : ℕ → List Message) (ts : List Take) (b c : ℕ) → c ≤ b → ascends_from b ts ≡ true → SendersFrom c (letters_taken W ts)
senders_asc W [] b c le asc = tt
senders_asc W (t ∷ ts) b c le asc =
    let parts = asc_parts b t ts asc in
    run_from t.from c (take t.count (W t.from)) (letters_taken W ts) (omega (arith, le, parts.0)) (λ a lt. senders_asc W ts (t.from + 1) a (omega (arith, lt)) parts.1)

-- a sender from which something waits
wait_step : (l : LinkView) (ls : List LinkView) (j : ℕ) (b : Bool) → (l.from == j) ≡ b → (waiting_from ls j ≢ [] → Contains (senders ls) j) → waiting_from (l ∷ ls) j ≢ [] → Contains (senders (l ∷ ls)) j
wait_step l ls j true h more w = subst (λ (k : ℕ). Contains (senders (l ∷ ls)) k) (eqb-true l.from j h) (Contains-head l.from (senders ls))
wait_step l ls j false h more w = Contains-tail l.from (senders ls) j (more (λ e. w (rw h e)))

pub waits_of : (ls : List LinkView) (j : ℕ) → waiting_from ls j ≢ [] → Contains (senders ls) j
waits_of [] j w = absurd (w refl)
waits_of (l ∷ ls) j w = wait_step l ls j (l.from == j) refl (waits_of ls j) w

near_run : (v : View) (k count : ℕ) (ms : List Message) → (ms ≢ [] → Contains (private_of v).neighbours k) → All (IsToNeighbour v) (letters_of k (take count ms))
near_run v k zero [] c = All-nil (IsToNeighbour v)
near_run v k (suc count) [] c = All-nil (IsToNeighbour v)
near_run v k count (m ∷ ms) c = All-map (IsToNeighbour v) (λ (n : Message). (k, n)) (take count (m ∷ ms)) (λ i d lt. c (λ e. absurd (cc)))

near_all : (v : View) (W : ℕ → List Message) (ts : List Take) → ((k : ℕ) → W k ≢ [] → Contains (private_of v).neighbours k) → All (IsToNeighbour v) (letters_taken W ts)
near_all v W [] c = All-nil (IsToNeighbour v)
near_all v W (t ∷ ts) c =
    All-append (IsToNeighbour v) (letters_of t.from (take t.count (W t.from))) (letters_taken W ts) (near_run v t.from t.count (W t.from) (c t.from)) (near_all v W ts c)

empty_by : (k : ℕ) (ms : List Message) → letters_of k ms ≡ [] → ms ≡ []
empty_by k [] h = refl
empty_by k (m ∷ ms) h = absurd (cc)

module _ (p : Dcop) (net : Network) (seats : List SeatView) (s : ShowsNetwork p net seats) (e : Event) (x : SeatView) (here : slice_get seats e.agent ≡ Some x)
    (fine : seat_fault (length seats) e.takes (Some x) ≡ None) where
  abbrev W : ℕ → List Message
  W j = waiting net.desks e.agent j

  view_here : slice_get net.views e.agent ≡ Some x.view
  view_here = view_there p net seats s e.agent (Some x) here

  pub may_react : MayReact x.view
  may_react = inl ((s.running e.agent x.view view_here).started, (form_open (length seats) (ended_of x.view) e.takes (form p net seats s e x here fine)).0)

  near : (k : ℕ) → W k ≢ [] → Contains (private_of x.view).neighbours k
  near k w =
      let some : waiting_from x.inbox k ≢ [] = λ none. w (empty_by k (W k) (sym (waits_here p net seats s e x here fine k) ∙ none)) in
      subst (λ (ns : List ℕ). Contains ns k)
      (ap senders (sym (box p net seats s e x here fine)) ∙ s.links e.agent (inside p net seats s e x here fine) ∙ sym (s.running e.agent x.view view_here).near)
      (waits_of x.inbox k some)

  pub is_batch : IsBatch x.view (letters_by x.inbox e.takes)
  is_batch =
      let opened = form_open (length seats) (ended_of x.view) e.takes (form p net seats s e x here fine) in
      subst (λ (ls : List (ℕ × Message)). IsBatch x.view ls) (sym (letters_same p net seats s e x here fine)) (record {
        some = some_by W x.inbox e.takes opened.1 (short p net seats s e x here fine) (waits_here p net seats s e x here fine);
        ascend = senders_asc W e.takes 0 0 (omega arith) (ascend p net seats s e x here fine);
        neighbours = near_all x.view W e.takes near;
      })

  pub all_below : (out : List (ℕ × Message)) → All (IsToNeighbour x.view) out → All (λ q. q.0 < length seats) out
  all_below out reach = All-weaker (IsToNeighbour x.view) (λ q. q.0 < length seats) (λ q c.
      let back = near_back p e.agent q.0 (omega (arith, inside p net seats s e x here fine, s.size)) (subst (λ (ns : List ℕ). Contains ns q.0) (s.running e.agent x.view view_here).near c) in
      omega (arith, back.0, s.size)) out reach

-- the agent that the code reads
pub read_seat : (seats : List SeatView) (e : Event) (h : Seated seats e) (k : ℕ) (d : SeatView) → k ≡ e.agent → get_or seats k d ≡ h.seat
read_seat seats e h k d same = get_or_from_slice_get seats k h.seat d (subst (λ (i : ℕ). slice_get seats i ≡ Some h.seat) (sym same) h.here)

-- the agents after the code are those to which the event leads
pub moved : (seats : List SeatView) (e : Event) (h : Seated seats e) (k agent : ℕ) (y : SeatView) (out : List (ℕ × Message)) (final : List SeatView)
    → k ≡ e.agent → agent ≡ e.agent → y ≡ seat_after h.seat e.takes → out ≡ seat_sends h.seat e.takes → All (IsToNeighbour h.seat.view) out → final ≡ deliver_all agent (slice_set seats k y) out → Moves seats e final
moved seats e h k agent y out final at by after sends reach is = λ p net s.
    let all : All (IsToNeighbour h.seat.view) (seat_sends h.seat e.takes) = subst (λ (ms : List (ℕ × Message)). All (IsToNeighbour h.seat.view) ms) sends reach in
    let end : seats_after seats e.agent e.takes (slice_get seats e.agent) ≡ final =
    ap (λ (o : Option SeatView). seats_after seats e.agent e.takes o) h.here
    ∙ sym (is ∙ ap (λ (i : ℕ). deliver_all i (slice_set seats k y) out) by ∙ ap (λ (i : ℕ). deliver_all e.agent (slice_set seats i y) out) at
    ∙ ap (λ (z : SeatView). deliver_all e.agent (slice_set seats e.agent z) out) after ∙ ap (λ (ms : List (ℕ × Message)). deliver_all e.agent (slice_set seats e.agent (seat_after h.seat e.takes)) ms) sends) in
    subst (λ (zs : List SeatView). ShowsNetwork p (effect net e) zs) end (shown_after p net seats s e h.seat h.here h.fine all)

-- what the code reports is what the agent takes and sends in the network
pub traded : (seats : List SeatView) (e : Event) (h : Seated seats e) (took sent : List (ℕ × Message)) → took ≡ letters_by h.seat.inbox e.takes → sent ≡ seat_sends h.seat e.takes → Trades seats e took sent
traded seats e h took sent taken sends = λ p net s.
    let same : letters_by h.seat.inbox e.takes ≡ batch net.desks e.agent e.takes = letters_same p net seats s e h.seat h.here h.fine in
    let view : slice_get net.views e.agent ≡ Some h.seat.view = view_there p net seats s e.agent (Some h.seat) h.here in
    let at_view : seat_sends h.seat e.takes ≡ sends_by net e (Some h.seat.view) = ap (λ (ms : List (ℕ × Message)). (step_of h.seat.view ms).sends) same in
    (taken ∙ same, sends ∙ at_view ∙ ap (λ (o : Option View). sends_by net e o) (sym view))
