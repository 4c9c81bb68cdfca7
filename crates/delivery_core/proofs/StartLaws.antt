-- The agents of a core while they start, and when all have started.
use Rattle.std.proofs.Common.{◌≡◌, ◌≢◌, ℕ, zero, suc, ◌+◌, ◌<◌, ◌≤◌, Bool, true, false, ◌==◌, nat_lt, if◌then◌else◌, List, [], ◌∷◌, ◌++◌, map, take, drop, length, get_or, Option, Some, None, refl, sym, ap, subst, ◌∙◌, inl, inr, arith}
use Rattle.std.specs.List.{slice_get, slice_set, range_with_len, All, Contains, sum_by, fold}
use Rattle.std.specs.Option.{option_map}
use Rattle.std.proofs.Math.Seq.{drop-length}
use Rattle.std.proofs.lemmas.Bool.{false≢true, cases_lt, eqb-true, eqb-false, le-ltb, lt-ltb}
use Rattle.std.proofs.lemmas.Option.{none-some, same_Some, slice_get_within, slice_get_past, slice_get-map, slice_get-get_or}
use Rattle.std.proofs.lemmas.List.{append-nil, length-set, length-map, map-set, map-append, take_all}
use Rattle.std.proofs.lemmas.List.Elements.{All-weaker}
use Rattle.std.proofs.lemmas.List.FromFn.{length-map-range_with_len, get_or-map-range_with_len, map-range_with_len_more}
use Rattle.dcop_base.specs.Problem.{Dcop}
use Rattle.dcop_base.specs.Whole.{IsProblem}
use Rattle.dcop_base.specs.declared.knowledge.Private.{Private}
use Rattle.protocol_steps.specs.Knowledge.{IsKnowledge, PrivatesAreKnowledge, AcquaintancesAreKnowledge}
use Rattle.protocol_steps.specs.declared.message.Message.{Message}
use Rattle.protocol_steps.specs.declared.event.Take.{Take}
use Rattle.protocol_steps.specs.View.{View, private_of}
use Rattle.protocol_steps.specs.Step.{start_of}
use Rattle.protocol_steps.specs.Machine.{MayStart, IsToNeighbour}
use Rattle.protocol_steps.specs.Network.{Desk, start_state, messages_to, sent_at, takes_at, taken_from}
use Rattle.protocol_steps.specs.Effect.{deliveries}
use Rattle.letter_queues.specs.Links.{LinkView, link_from, waiting_on, taken_on, waiting_from, last_taken, letters_of, new_link}
use Rattle.letter_queues.specs.Inboxes.{senders}
use Rattle.delivery_core.specs.declared.start.Start.{Start}
use Rattle.delivery_core.specs.declared.start.Start.TheVariants.{Token, Dpop, Adopt}
use Rattle.delivery_core.specs.State.{SeatView, inbox_of, inbox_at, views_of}
use Rattle.delivery_core.specs.SeatEvents.{deliver_all}
use Rattle.delivery_core.specs.Agents.{agents_of}
use Rattle.delivery_core.specs.Starts.{knowledge_for, agent_of, new_seat, sends_in, first_sends, IsFreshAgent, Begun}
use Rattle.delivery_core.specs.Shown.{IsRunningAgent, ShowsNetwork}
use Rattle.delivery_core.proofs.NearLaws.{near_back}
use Rattle.protocol_steps.proofs.StartedLaws.{start_starts, start_private}
use Rattle.delivery_core.proofs.DeliverLaws.{Delivered, delivered, inbox_set, seen_from}
use Rattle.delivery_core.proofs.ShownLaws.{there_is}

abbrev after_start : View → View
after_start v = (start_of v).view

split_get : (made : List View) (k : ℕ) → slice_get (map after_start (take k made) ++ drop k made) k ≡ slice_get made k
split_get [] zero = refl
split_get [] (suc k) = refl
split_get (v ∷ vs) zero = refl
split_get (v ∷ vs) (suc k) = split_get vs k

split_set : (made : List View) (k : ℕ) (v : View) → slice_get made k ≡ Some v → slice_set (map after_start (take k made) ++ drop k made) k (after_start v) ≡ map after_start (take (suc k) made) ++ drop (suc k) made
split_set [] k v h = absurd (none-some v h)
split_set (w ∷ ws) zero v h = ap (λ (u : View). after_start u ∷ ws) (sym (same_Some w v h))
split_set (w ∷ ws) (suc k) v h = ap (λ (vs : List View). after_start w ∷ vs) (split_set ws k v h)

-- what waits of agent j after the first k agents have started, and after agent k does
by_bools : (k j : ℕ) (A : ℕ → List Message) (b c d : Bool) → (c ≡ true → (b ≡ false) × (d ≡ true) × (k ≡ j)) → (c ≡ false → b ≡ d)
    → letters_of j (if b then A j else []) ++ (if c then letters_of k (A k) else []) ≡ letters_of j (if d then A j else [])
by_bools k j A true true d h g = absurd (false≢true (sym (h refl).0))
by_bools k j A false true true h g = ap (λ (n : ℕ). letters_of n (A n)) (h refl).2
by_bools k j A false true false h g = absurd (false≢true (h refl).1)
by_bools k j A true false true h g = append-nil (letters_of j (A j))
by_bools k j A true false false h g = absurd (false≢true (sym (g refl)))
by_bools k j A false false true h g = absurd (false≢true (g refl))
by_bools k j A false false false h g = refl

below_next : (k j : ℕ) → k ≢ j → nat_lt j k ≡ nat_lt j (k + 1)
below_next k j ne = elim (cases_lt j k) [
  | inl lt ↦ lt-ltb j k lt ∙ sym (lt-ltb j (k + 1) (omega (arith, lt)))
  | inr le ↦ (let other : k + 1 ≤ j = elim (cases_lt k j) [ inl lt ↦ omega (arith, lt) | inr ge ↦ absurd (ne (omega (arith, le, ge))) ] in
      le-ltb j k le ∙ sym (le-ltb j (k + 1) other))
]

start_waits : (k j : ℕ) (A : ℕ → List Message) → letters_of j (if nat_lt j k then A j else []) ++ (if k == j then letters_of k (A k) else []) ≡ letters_of j (if nat_lt j (k + 1) then A j else [])
start_waits k j A = by_bools k j A (nat_lt j k) (k == j) (nat_lt j (k + 1))
    (λ h. let same : k ≡ j = eqb-true k j h in (le-ltb j k (omega (arith, same)), lt-ltb j (k + 1) (omega (arith, same)), same))
    (λ h. below_next k j (eqb-false k j h))

module _ (p : Dcop) (made : List View) (k : ℕ) (seats : List SeatView) (b : Begun p made k seats) (x : SeatView) (here : slice_get seats k ≡ Some x) where
  inside : k < length seats
  inside = slice_get_within seats k x here

  -- the agent is as it was made
  pub made_here : slice_get made k ≡ Some x.view
  made_here =
      sym (split_get made k) ∙ ap (λ (vs : List View). slice_get vs k) (sym b.views) ∙ slice_get-map (λ (y : SeatView). y.view) seats k
      ∙ ap (λ (o : Option SeatView). option_map (λ (y : SeatView). y.view) o) here

  fresh : IsFreshAgent p k x.view
  fresh = b.new k x.view made_here

  pub may_start : MayStart x.view
  may_start = inl fresh.fresh

  pub start_below : (out : List (ℕ × Message)) → All (IsToNeighbour x.view) out → All (λ q. q.0 < length seats) out
  start_below out reach = All-weaker (IsToNeighbour x.view) (λ q. q.0 < length seats) (λ q c.
      let back = near_back p k q.0 (omega (arith, inside, b.size, b.count)) (subst (λ (ns : List ℕ). Contains ns q.0) fresh.near c) in
      omega (arith, back.0, b.size, b.count)) out reach

  abbrev y : SeatView
  y = record x { view = after_start x.view }

  abbrev mid : List SeatView
  mid = slice_set seats k y

  abbrev sends : List (ℕ × Message)
  sends = (start_of x.view).sends

  box_case : (c : Bool) (i : ℕ) → (k == i) ≡ c → (if c then x.inbox else inbox_at seats i) ≡ inbox_at seats i
  box_case true i h = sym (ap inbox_of here) ∙ ap (λ (n : ℕ). inbox_at seats n) (eqb-true k i h)
  box_case false i h = refl

  mid_box : (i : ℕ) → inbox_at mid i ≡ inbox_at seats i
  mid_box i = inbox_set seats k x y here i ∙ box_case (k == i) i refl

  module _ (reach : All (IsToNeighbour x.view) sends) where
    new : Delivered k sends mid (deliver_all k mid sends)
    new = delivered k sends mid (All-weaker (IsToNeighbour x.view) (λ q. (q.0 < length mid) × Contains (senders (inbox_at mid q.0)) k) (λ q c.
        let back = near_back p k q.0 (omega (arith, inside, b.size, b.count)) (subst (λ (ns : List ℕ). Contains ns q.0) fresh.near c) in (
          omega (arith, back.0, b.size, b.count, length-set seats k y),
          subst (λ (ns : List ℕ). Contains ns k) (sym (ap senders (mid_box q.0) ∙ b.links q.0 (omega (arith, back.0, b.size, b.count)))) back.1,
        )) sends reach)

    size_new : length (deliver_all k mid sends) ≡ length seats
    size_new = new.size ∙ length-set seats k y

    sent_here : (j : ℕ) → messages_to j sends ≡ messages_to j (first_sends made k)
    sent_here j = ap (λ (o : Option View). messages_to j (sends_in o)) (sym made_here)

    -- then one more agent has started
    pub start_next : Begun p made (k + 1) (deliver_all k mid sends)
    start_next = record {
      size = size_new ∙ b.size;
      count = b.count;
      new = b.new;
      views = new.views
          ∙ map-set (λ (z : SeatView). z.view) seats k y
          ∙ ap (λ (vs : List View). slice_set vs k (after_start x.view)) b.views
          ∙ split_set made k x.view made_here
          ∙ (let e : suc k ≡ k + 1 = omega arith in ap (λ (n : ℕ). map after_start (take n made) ++ drop n made) e);
      links = λ i lt. new.same i ∙ ap senders (mid_box i) ∙ b.links i (omega (arith, lt, size_new));
      waits = λ i j lt. new.waits i j
          ∙ ap (λ (ls : List LinkView). waiting_from ls j ++ seen_from k j (messages_to i sends)) (mid_box i)
          ∙ ap (λ (ms : List (ℕ × Message)). ms ++ seen_from k j (messages_to i sends)) (b.waits i j (omega (arith, lt, size_new)))
          ∙ ap (λ (ms : List Message). letters_of j (if nat_lt j k then messages_to i (first_sends made j) else []) ++ seen_from k j ms) (sent_here i)
          ∙ start_waits k j (λ n. messages_to i (first_sends made n));
      last = λ i j lt. new.last i j ∙ ap (λ (ls : List LinkView). last_taken ls j) (mid_box i) ∙ b.last i j (omega (arith, lt, size_new));
    }

-- before the first has started
view_made : (made : List View) → views_of (map new_seat made) ≡ made
view_made [] = refl
view_made (v ∷ vs) = ap (λ (ws : List View). v ∷ ws) (view_made vs)

new_senders : (ns : List ℕ) → senders (map new_link ns) ≡ ns
new_senders [] = refl
new_senders (n ∷ ns) = ap (λ (ms : List ℕ). n ∷ ms) (new_senders ns)

new_step : (b : Bool) (n : ℕ) (o : Option LinkView) → (waiting_on o ≡ []) × (taken_on o ≡ None) → (waiting_on (if b then Some (new_link n) else o) ≡ []) × (taken_on (if b then Some (new_link n) else o) ≡ None)
new_step true n o h = (refl, refl)
new_step false n o h = h

new_empty : (ns : List ℕ) (j : ℕ) → (waiting_from (map new_link ns) j ≡ []) × (last_taken (map new_link ns) j ≡ None)
new_empty [] j = (refl, refl)
new_empty (n ∷ ns) j = new_step (n == j) n (link_from j (map new_link ns)) (new_empty ns j)

new_box : (made : List View) (i : ℕ) (v : View) → slice_get made i ≡ Some v → inbox_at (map new_seat made) i ≡ map new_link (private_of v).neighbours
new_box made i v h = ap inbox_of (slice_get-map new_seat made i ∙ ap (λ (o : Option View). option_map new_seat o) h)

none_below : (j : ℕ) (ms : List Message) → letters_of j (if nat_lt j 0 then ms else []) ≡ []
none_below j ms = ap (λ (b : Bool). letters_of j (if b then ms else [])) (le-ltb j 0 (omega arith))

pub begun_new : (p : Dcop) (made : List View) → length made ≡ length p.sizes → ((i : ℕ) (v : View) → slice_get made i ≡ Some v → IsFreshAgent p i v) → Begun p made 0 (map new_seat made)
begun_new p made count new =
    let at : (i : ℕ) → i < length (map new_seat made) → (v : View) × (slice_get made i ≡ Some v) = λ i lt. there_is made i (omega (arith, lt, length-map made new_seat)) in
    record {
      size = length-map made new_seat;
      count = count;
      new = new;
      views = view_made made;
      links = λ i lt. (let v = at i lt in ap senders (new_box made i v.0 v.1) ∙ new_senders (private_of v.0).neighbours ∙ (new i v.0 v.1).near);
      waits = λ i j lt. (let v = at i lt in
          ap (λ (ls : List LinkView). waiting_from ls j) (new_box made i v.0 v.1) ∙ (new_empty (private_of v.0).neighbours j).0 ∙ sym (none_below j (messages_to i (first_sends made j))));
      last = λ i j lt. (let v = at i lt in ap (λ (ls : List LinkView). last_taken ls j) (new_box made i v.0 v.1) ∙ (new_empty (private_of v.0).neighbours j).1);
    }

-- the agents of a start
range_get : (a n i v : ℕ) → slice_get (range_with_len a n) i ≡ Some v → v ≡ a + i
range_get a zero i v h = absurd (none-some v h)
range_get a (suc n) zero v h = let e : a ≡ v = same_Some a v h in omega (arith, e)
range_get a (suc n) (suc i) v h = let e = range_get (a + 1) n i v h in omega (arith, e)

map_get : {A B : Type 0} (f : A → B) (o : Option A) (y : B) → option_map f o ≡ Some y → (x : A) × (o ≡ Some x) × (f x ≡ y)
map_get f None y h = absurd (none-some y h)
map_get f (Some x) y h = (x, refl, same_Some (f x) y h)

fresh_agent : (p : Dcop) (start : Start) (i : ℕ) → IsFreshAgent p i (agent_of p start i)
fresh_agent p Token i = record { near = refl; fresh = refl }
fresh_agent p (Dpop tree) i = record { near = refl; fresh = refl }
fresh_agent p (Adopt tree error) i = record { near = refl; fresh = refl }

-- the number of an agent, by what it is made from
pub own_me : (p : Dcop) (start : Start) (i : ℕ) (own : Private) → own ≡ knowledge_for p start i → own.me ≡ i
own_me p Token i own e = ap (λ (o : Private). o.me) e
own_me p (Dpop tree) i own e = ap (λ (o : Private). o.me) e
own_me p (Adopt tree error) i own e = ap (λ (o : Private). o.me) e

pub known_own : (p : Dcop) (start : Start) (i : ℕ) (own : Private) → own ≡ knowledge_for p start i → own ≡ knowledge_for p start own.me
known_own p start i own e = e ∙ ap (knowledge_for p start) (sym (own_me p start i own e))

-- what the next agent is made from
pub own_is : (p : Dcop) (start : Start) (known : List Private) (n : ℕ) (own : Private) → known ≡ map (knowledge_for p start) (range_with_len 0 (length p.sizes)) → (n < length known) × (own ≡ get_or known n own)
    → (n < length p.sizes) × (own ≡ knowledge_for p start n)
own_is p start known n own e at =
    let size : length known ≡ length p.sizes = ap (λ (xs : List Private). length xs) e ∙ length-map-range_with_len (knowledge_for p start) 0 (length p.sizes) in
    let below = at.0 in
    let lt : n < length p.sizes = omega (arith, below, size) in
    (lt, at.1 ∙ ap (λ (xs : List Private). get_or xs n own) e ∙ get_or-map-range_with_len (knowledge_for p start) 0 (length p.sizes) n n own lt (omega arith))

-- an agent knows the neighbours of what it is made from
pub neighbours_kept : (p : Dcop) (start : Start) (i : ℕ) → (private_of (agent_of p start i)).neighbours ≡ (knowledge_for p start i).neighbours
neighbours_kept p Token i = refl
neighbours_kept p (Dpop tree) i = refl
neighbours_kept p (Adopt tree error) i = refl

-- what agents know when they are made fits together, with tables or without
pub knowledge_fits : PrivatesAreKnowledge → AcquaintancesAreKnowledge → (p : Dcop) (start : Start) (i : ℕ) → IsProblem p → i < length p.sizes → IsKnowledge (knowledge_for p start i)
knowledge_fits privates acquaintances p Token i whole inside = acquaintances p i whole inside
knowledge_fits privates acquaintances p (Dpop tree) i whole inside = privates p i whole inside
knowledge_fits privates acquaintances p (Adopt tree error) i whole inside = privates p i whole inside

pub agents_made : (p : Dcop) (start : Start) → agents_of p start ≡ map (agent_of p start) (range_with_len 0 (length p.sizes))
agents_made p Token = refl
agents_made p (Dpop tree) = refl
agents_made p (Adopt tree error) = refl

fresh_made : (p : Dcop) (start : Start) (i : ℕ) (v : View) → slice_get (map (agent_of p start) (range_with_len 0 (length p.sizes))) i ≡ Some v → IsFreshAgent p i v
fresh_made p start i v h =
    let r = map_get (agent_of p start) (slice_get (range_with_len 0 (length p.sizes)) i) v (sym (slice_get-map (agent_of p start) (range_with_len 0 (length p.sizes)) i) ∙ h) in
    let e : r.0 ≡ i = (let f = range_get 0 (length p.sizes) i r.0 r.1 in omega (arith, f)) in
    subst (λ (w : View). IsFreshAgent p i w) (ap (agent_of p start) (sym e) ∙ r.2) (fresh_agent p start i)

pub begun_agents : (p : Dcop) (start : Start) → Begun p (agents_of p start) 0 (map new_seat (agents_of p start))
begun_agents p start =
    subst (λ (made : List View). Begun p made 0 (map new_seat made)) (sym (agents_made p start))
    (begun_new p (map (agent_of p start) (range_with_len 0 (length p.sizes))) (length-map-range_with_len (agent_of p start) 0 (length p.sizes)) (fresh_made p start))

-- each agent of a start may start
pub all_may_start : (p : Dcop) (start : Start) (seats : List SeatView) → seats ≡ map new_seat (agents_of p start) → (i : ℕ) (x : SeatView) → slice_get seats i ≡ Some x → MayStart x.view
all_may_start p start seats e i x h =
    let made : List View = agents_of p start in
    let r = map_get new_seat (slice_get made i) x (sym (slice_get-map new_seat made i) ∙ ap (λ (xs : List SeatView). slice_get xs i) (sym e) ∙ h) in
    let fresh = (begun_agents p start).new i r.0 r.1 in
    subst (λ (y : SeatView). MayStart y.view) r.2 (inl fresh.fresh)

-- what agents send as they start, by their seats
pub sends_made : (made : List View) → map (λ (x : SeatView). (start_of x.view).sends) (map new_seat made) ≡ map (λ (v : View). (start_of v).sends) made
sends_made [] = refl
sends_made (v ∷ vs) = ap (λ (out : List (List (ℕ × Message))). (start_of v).sends ∷ out) (sends_made vs)

-- all have started
abbrev first_desk : View → Desk
first_desk v = record { sent = (start_of v).sends; takes = [] }

sent_first : (o : Option View) → sent_at (option_map first_desk o) ≡ sends_in o
sent_first None = refl
sent_first (Some v) = refl

takes_first : (o : Option View) → takes_at (option_map first_desk o) ≡ []
takes_first None = refl
takes_first (Some v) = refl

first_case : (n i j : ℕ) (made : List View) → n ≡ length made → (if nat_lt j n then messages_to i (first_sends made j) else []) ≡ messages_to i (first_sends made j)
first_case n i j made e = elim (cases_lt j n) [
  | inl lt ↦ ap (λ (b : Bool). if b then messages_to i (first_sends made j) else []) (lt-ltb j n lt)
  | inr le ↦ ap (λ (b : Bool). if b then messages_to i (first_sends made j) else []) (le-ltb j n le)
      ∙ ap (λ (o : Option View). messages_to i (sends_in o)) (sym (slice_get_past made j (omega (arith, le, e))))
]

pub begun_all : (p : Dcop) (made : List View) (seats : List SeatView) → Begun p made (length made) seats → ShowsNetwork p (start_state made) seats
begun_all p made seats b = record {
  size = b.size ∙ b.count;
  desks = length-map made first_desk ∙ sym b.size;
  views = b.views
      ∙ ap (λ (vs : List View). map after_start vs ++ drop (length made) made) (take_all (length made) made (omega arith))
      ∙ ap (λ (vs : List View). map after_start made ++ vs) (drop-length made)
      ∙ append-nil (map after_start made);
  links = b.links;
  running = λ i v h. (let r = map_get after_start (slice_get made i) v (sym (slice_get-map after_start made i) ∙ h) in
      let run : IsRunningAgent p i (after_start r.0) = record { near = ap (λ own. own.neighbours) (start_private r.0) ∙ (b.new i r.0 r.1).near; started = start_starts r.0 } in
      subst (λ (w : View). IsRunningAgent p i w) r.2 run);
  past = λ i j. [];
  rest = λ i j. messages_to i (first_sends made j);
  sent = λ i j lt. ap (λ (o : Option Desk). messages_to i (sent_at o)) (slice_get-map first_desk made j) ∙ ap (λ (ps : List (ℕ × Message)). messages_to i ps) (sent_first (slice_get made j));
  taken = λ i j lt. ap (λ (o : Option Desk). taken_from j (takes_at o)) (slice_get-map first_desk made i) ∙ ap (λ (ts : List Take). taken_from j ts) (takes_first (slice_get made i));
  waits = λ i j lt. b.waits i j lt ∙ ap (λ (ms : List Message). letters_of j ms) (first_case (length made) i j made refl);
  last = b.last;
}

no_takes : (made : List View) (n : ℕ) → fold (λ a x. a + sum_by (λ t. t.count) x.takes) n (map first_desk made) ≡ n
no_takes [] n = refl
no_takes (v ∷ vs) n = no_takes vs (n + 0) ∙ omega arith

pub none_delivered : (made : List View) → deliveries (start_state made) ≡ 0
none_delivered made = no_takes made 0

-- one more agent is made
pub seats_more : (p : Dcop) (start : Start) (n : ℕ)
    → map new_seat (map (agent_of p start) (range_with_len 0 (n + 1))) ≡ map new_seat (map (agent_of p start) (range_with_len 0 n)) ++ (new_seat (agent_of p start n) ∷ [])
seats_more p start n =
    ap (λ (vs : List View). map new_seat vs) (map-range_with_len_more (agent_of p start) 0 n n (omega arith)) ∙ map-append new_seat (map (agent_of p start) (range_with_len 0 n)) (agent_of p start n ∷ [])

pub agent_there : (seats : List SeatView) (k : ℕ) (d : SeatView) → k < length seats → slice_get seats k ≡ Some (get_or seats k d)
agent_there seats k d lt = slice_get-get_or seats k d lt
