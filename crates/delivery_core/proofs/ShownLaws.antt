-- Agents that are those of a network: which events are lawful, and what an event does.
use Rattle.std.proofs.Common.{◌≡◌, ℕ, zero, suc, ◌+◌, ◌<◌, ◌≤◌, Bool, true, false, cond, ◌==◌, nat_lt, if◌then◌else◌, List, [], ◌∷◌, ◌++◌, take, drop, length, Option, Some, None, refl, sym, ap, subst, ◌∙◌, inl, inr, arith}
use Rattle.std.specs.List.{slice_get, slice_set, last_or, All, Contains, fold}
use Rattle.std.specs.Option.{option_map}
use Rattle.std.proofs.lemmas.Bool.{cases_eq, eqb-true, eqb-false, ltb-false}
use Rattle.std.proofs.lemmas.Option.{none-some, same_Some, slice_get_within, slice_get-map}
use Rattle.std.proofs.lemmas.List.{append-nil, append_assoc, length-set, length-map, length-append, length-take-le, map-set, map-append, drop-map, drop_at, take-append-drop}
use Rattle.std.proofs.lemmas.List.Sums.{sum_by-cons, sum_by-append}
use Rattle.std.proofs.lemmas.List.Elements.{All-weaker}
use Rattle.dcop_base.specs.Problem.{Dcop}
use Rattle.protocol_steps.specs.declared.message.Message.{Message}
use Rattle.protocol_steps.specs.declared.event.Take.{Take}
use Rattle.protocol_steps.specs.declared.event.Event.{Event}
use Rattle.protocol_steps.specs.declared.event.EventFault.{EventFault}
use Rattle.protocol_steps.specs.declared.event.EventFault.TheVariants.{TooMany}
use Rattle.protocol_steps.specs.View.{View, ended_of}
use Rattle.protocol_steps.specs.Step.{step_of}
use Rattle.protocol_steps.specs.Machine.{IsToNeighbour}
use Rattle.protocol_steps.specs.Network.{Desk, Network, messages_to, taken_from, takes_at, link, waiting, batch}
use Rattle.protocol_steps.specs.Run.{or_else, form_fault, too_many, takes_fault, fault_at, event_fault, ascends_from}
use Rattle.protocol_steps.specs.Effect.{desk_after, network_after, effect, effect_at}
use Rattle.protocol_steps.proofs.EventLaws.{Happens, get_same, get_other, link_after, added, not_then}
use Rattle.protocol_steps.proofs.AccountLaws.{form_parts}
use Rattle.letter_queues.specs.Links.{LinkView, link_from, waiting_on, taken_on, waiting_from, last_taken, letters_of}
use Rattle.letter_queues.specs.Inboxes.{senders, without_next, take_off, letters_by, inbox_after, short_in}
use Rattle.letter_queues.proofs.InboxLaws.{map_link, with_lasts, from_of, link_off, link_kept, off_senders, kept_senders, letters_all, taken_of, none_of, asc_parts}
use Rattle.delivery_core.specs.State.{SeatView, inbox_of, inbox_at}
use Rattle.delivery_core.specs.SeatEvents.{seat_after, seat_sends, deliver_all, seats_after, seat_fault, core_fault}
use Rattle.delivery_core.specs.Shown.{IsRunningAgent, ShowsNetwork}
use Rattle.delivery_core.proofs.NearLaws.{near_back}
use Rattle.protocol_steps.proofs.StartedLaws.{step_started, step_private}
use Rattle.delivery_core.proofs.DeliverLaws.{Delivered, delivered, inbox_set, seen_from}

pub there_is : {A : Type 0} (xs : List A) (i : ℕ) → i < length xs → (x : A) × (slice_get xs i ≡ Some x)
there_is [] i lt = absurd (omega (arith, lt))
there_is (x ∷ xs) zero lt = (x, refl)
there_is (x ∷ xs) (suc i) lt = there_is xs i (omega (arith, lt))

-- what waits by the agents waits in the network, so the same takes are too many
short_same : (i : ℕ) (ds : List Desk) (ls : List LinkView) (ts : List Take) → ((j : ℕ) → waiting_from ls j ≡ letters_of j (waiting ds i j)) → too_many ds i ts ≡ short_in ls ts
short_same i ds ls [] w = refl
short_same i ds ls (t ∷ ts) w =
    let same : length (waiting ds i t.from) ≡ length (waiting_from ls t.from) = sym (ap (λ (ms : List (ℕ × Message)). length ms) (w t.from) ∙ length-map (waiting ds i t.from) (λ m. (t.from, m))) in
    ap (λ (n : ℕ). cond (nat_lt n t.count) (Some (TooMany t.from t.count n)) (too_many ds i ts)) same
    ∙ ap (λ (o : Option EventFault). cond (nat_lt (length (waiting_from ls t.from)) t.count) (Some (TooMany t.from t.count (length (waiting_from ls t.from)))) o) (short_same i ds ls ts w)

-- then of each sender no more is taken than waits
fits_step : (b : Bool) (c n m : ℕ) → (b ≡ true → (c ≤ m) × (n ≡ 0)) → n ≤ m → (if b then c else 0) + n ≤ m
fits_step true c n m h le = let r = h refl in omega (arith, r.0, r.1)
fits_step false c n m h le = omega (arith, le)

fits : (W : ℕ → List Message) (ls : List LinkView) (ts : List Take) (b : ℕ) → ((j : ℕ) → waiting_from ls j ≡ letters_of j (W j)) → short_in ls ts ≡ None → ascends_from b ts ≡ true → (j : ℕ) → taken_from j ts ≤ length (W j)
fits W ls [] b w short asc j = omega arith
fits W ls (t ∷ ts) b w short asc j =
    let n : ℕ = length (waiting_from ls t.from) in
    let parts = not_then (nat_lt n t.count) (TooMany t.from t.count n) (short_in ls ts) short in
    let up = asc_parts b t ts asc in
    let enough : t.count ≤ length (W t.from) =
    subst (λ (m : ℕ). t.count ≤ m) (ap (λ (ms : List (ℕ × Message)). length ms) (w t.from) ∙ length-map (W t.from) (λ m. (t.from, m))) (ltb-false n t.count parts.0) in
    let step = fits_step (t.from == j) t.count (taken_from j ts) (length (W j))
    (λ e. let same : t.from ≡ j = eqb-true t.from j e in
    (subst (λ (k : ℕ). t.count ≤ length (W k)) same enough, (none_of W j (t.from + 1) ts up.1 (omega (arith, same))).1))
    (fits W ls ts (t.from + 1) w parts.1 up.1 j) in
    subst (λ (k : ℕ). k ≤ length (W j)) (sym (sum_by-cons (λ (u : Take). if u.from == j then u.count else 0) t ts)) step

-- the fault of an event of an agent that is there
fault_at_both : (ds : List Desk) (e : Event) (v w : Option View) (x y : Option Desk) → v ≡ w → x ≡ y → fault_at ds e v x ≡ fault_at ds e w y
fault_at_both ds e v w x y p q = ap (λ (o : Option View). fault_at ds e o x) p ∙ ap (λ (o : Option Desk). fault_at ds e w o) q

module _ (p : Dcop) (net : Network) (seats : List SeatView) (s : ShowsNetwork p net seats) where
  fault_with : (e : Event) (x : SeatView) (d : Desk) → slice_get net.views e.agent ≡ Some x.view → slice_get net.desks e.agent ≡ Some d → event_fault net e ≡ takes_fault net.desks e.agent (ended_of x.view) e.takes
  fault_with e x d v h = fault_at_both net.desks e (slice_get net.views e.agent) (Some x.view) (slice_get net.desks e.agent) (Some d) v h

  pub view_there : (i : ℕ) (o : Option SeatView) → slice_get seats i ≡ o → slice_get net.views i ≡ option_map (λ x. x.view) o
  view_there i o h =
      ap (λ (vs : List View). slice_get vs i) (sym s.views) ∙ slice_get-map (λ (x : SeatView). x.view) seats i ∙ ap (λ (q : Option SeatView). option_map (λ (x : SeatView). x.view) q) h

  pub waiting_is : (i j : ℕ) → i < length seats → waiting net.desks i j ≡ s.rest i j
  waiting_is i j lt =
      ap (λ (ms : List Message). drop (taken_from j (takes_at (slice_get net.desks i))) ms) (s.sent i j lt)
      ∙ drop_at (s.past i j) (s.rest i j) (taken_from j (takes_at (slice_get net.desks i))) (sym (s.taken i j lt))

  pub waits_is : (i j : ℕ) → i < length seats → waiting_from (inbox_at seats i) j ≡ letters_of j (waiting net.desks i j)
  waits_is i j lt = s.waits i j lt ∙ ap (λ (ms : List Message). letters_of j ms) (sym (waiting_is i j lt))

  takes_same : (e : Event) (x : SeatView) → slice_get seats e.agent ≡ Some x → takes_fault net.desks e.agent (ended_of x.view) e.takes ≡ seat_fault (length seats) e.takes (Some x)
  takes_same e x h =
      let i : ℕ = e.agent in
      let lt : i < length seats = slice_get_within seats i x h in
      ap (λ (n : ℕ). or_else (form_fault n (ended_of x.view) e.takes) (too_many net.desks i e.takes)) s.desks
      ∙ ap (λ (o : Option EventFault). or_else (form_fault (length seats) (ended_of x.view) e.takes) o)
      (short_same i net.desks x.inbox e.takes (λ j. ap (λ (o : Option SeatView). waiting_from (inbox_of o) j) (sym h) ∙ waits_is i j lt))

  fault_by : (e : Event) (o : Option SeatView) → slice_get seats e.agent ≡ o → event_fault net e ≡ seat_fault (length seats) e.takes o
  fault_by e None h = rw (view_there e.agent None h) refl
  fault_by e (Some x) h =
      let lt : e.agent < length seats = slice_get_within seats e.agent x h in
      let d = there_is net.desks e.agent (omega (arith, s.desks, lt)) in
      fault_with e x d.0 (view_there e.agent (Some x) h) d.1 ∙ takes_same e x h

  -- an event is lawful for the agents if it is in the network
  pub fault_same : (e : Event) → event_fault net e ≡ core_fault seats e
  fault_same e = fault_by e (slice_get seats e.agent) refl

pub both_none : (a b : Option EventFault) → or_else a b ≡ None → (a ≡ None) × (b ≡ None)
both_none None b h = (refl, h)
both_none (Some f) b h = absurd (none-some f (sym h))

-- what an event leaves of an inbox
left_on : (k : ℕ) (ms : List (ℕ × Message)) (o : Option LinkView) → waiting_on (map_link true (with_lasts ms) (map_link true (without_next k) o)) ≡ drop k (waiting_on o)
left_on zero ms None = refl
left_on (suc k) ms None = refl
left_on k ms (Some l) = refl

last_on : (k : ℕ) (ms : List (ℕ × Message)) (o : Option LinkView) → (o ≡ None → ms ≡ []) → taken_on (map_link true (with_lasts ms) (map_link true (without_next k) o)) ≡ last_or (taken_on o) ms
last_on k ms None h = sym (ap (λ (ls : List (ℕ × Message)). last_or None ls) (h refl))
last_on k ms (Some l) h = refl

pub last_append : {A : Type 0} (o : Option A) (xs ys : List A) → last_or (last_or o xs) ys ≡ last_or o (xs ++ ys)
last_append o [] ys = refl
last_append o (x ∷ xs) ys = last_append (Some x) xs ys

no_letters : (j k : ℕ) (ms : List Message) → letters_of j ms ≡ [] → letters_of j (take k ms) ≡ []
no_letters j zero ms h = refl
no_letters j (suc k) [] h = refl
no_letters j (suc k) (m ∷ ms) h = absurd (cc)

split_link : (b c : Bool) (past rest more : List Message) (k : ℕ) → (past ++ rest) ++ (if c then more else []) ≡ (if b then past ++ take k rest else past) ++ ((if b then drop k rest else rest) ++ (if c then more else []))
split_link true c past rest more k =
    let new : List Message = if c then more else [] in
    ap (λ (ms : List Message). (past ++ ms) ++ new) (sym (take-append-drop k rest))
    ∙ ap (λ (ms : List Message). ms ++ new) (sym (append_assoc past (take k rest) (drop k rest)))
    ∙ append_assoc (past ++ take k rest) (drop k rest) new
split_link false c past rest more k = append_assoc past rest (if c then more else [])

seen_case : (b : Bool) (i j : ℕ) (ms more : List Message) → (i == j) ≡ b → letters_of j ms ++ (if b then letters_of i more else []) ≡ letters_of j (ms ++ (if b then more else []))
seen_case true i j ms more h = ap (λ (k : ℕ). letters_of j ms ++ letters_of k more) (eqb-true i j h) ∙ sym (map-append (λ (m : Message). (j, m)) ms more)
seen_case false i j ms more h = append-nil (letters_of j ms) ∙ ap (λ (ns : List Message). letters_of j ns) (sym (append-nil ms))

module _ (p : Dcop) (net : Network) (seats : List SeatView) (s : ShowsNetwork p net seats) (e : Event) (x : SeatView) (here : slice_get seats e.agent ≡ Some x)
    (fine : seat_fault (length seats) e.takes (Some x) ≡ None) where
  abbrev W : ℕ → List Message
  W j = waiting net.desks e.agent j

  pub inside : e.agent < length seats
  inside = slice_get_within seats e.agent x here

  pub box : inbox_at seats e.agent ≡ x.inbox
  box = ap inbox_of here

  pub form : form_fault (length seats) (ended_of x.view) e.takes ≡ None
  form = (both_none (form_fault (length seats) (ended_of x.view) e.takes) (short_in x.inbox e.takes) fine).0

  pub short : short_in x.inbox e.takes ≡ None
  short = (both_none (form_fault (length seats) (ended_of x.view) e.takes) (short_in x.inbox e.takes) fine).1

  pub ascend : ascends_from 0 e.takes ≡ true
  ascend = (form_parts (length seats) (ended_of x.view) e.takes form).1

  pub waits_here : (j : ℕ) → waiting_from x.inbox j ≡ letters_of j (W j)
  waits_here j = ap (λ (ls : List LinkView). waiting_from ls j) (sym box) ∙ waits_is p net seats s e.agent j inside

  -- the letters are the event's batch
  pub letters_same : letters_by x.inbox e.takes ≡ batch net.desks e.agent e.takes
  letters_same = letters_all W e.takes 0 x.inbox ascend (λ j le. waits_here j)

  pub enough : (j : ℕ) → taken_from j e.takes ≤ length (W j)
  enough j = fits W x.inbox e.takes 0 waits_here short ascend j

  abbrev ls : List (ℕ × Message)
  ls = letters_by x.inbox e.takes

  abbrev sends : List (ℕ × Message)
  sends = seat_sends x e.takes

  of_one : (j : ℕ) → from_of j ls ≡ letters_of j (take (taken_from j e.takes) (W j))
  of_one j = ap (λ (ms : List (ℕ × Message)). from_of j ms) letters_same ∙ taken_of W j 0 e.takes ascend

  inbox_waits : (j : ℕ) → waiting_from (inbox_after x.inbox e.takes) j ≡ letters_of j (drop (taken_from j e.takes) (W j))
  inbox_waits j =
      ap waiting_on (link_kept j (fold take_off x.inbox e.takes) ls ∙ ap (λ (o : Option LinkView). map_link true (with_lasts (from_of j ls)) o) (link_off j x.inbox e.takes))
      ∙ left_on (taken_from j e.takes) (from_of j ls) (link_from j x.inbox)
      ∙ ap (λ (ms : List (ℕ × Message)). drop (taken_from j e.takes) ms) (waits_here j)
      ∙ drop-map (λ (m : Message). (j, m)) (taken_from j e.takes) (W j)

  inbox_last : (j : ℕ) → last_taken (inbox_after x.inbox e.takes) j ≡ last_or (last_taken x.inbox j) (letters_of j (take (taken_from j e.takes) (W j)))
  inbox_last j =
      ap taken_on (link_kept j (fold take_off x.inbox e.takes) ls ∙ ap (λ (o : Option LinkView). map_link true (with_lasts (from_of j ls)) o) (link_off j x.inbox e.takes))
      ∙ last_on (taken_from j e.takes) (from_of j ls) (link_from j x.inbox) (λ none. of_one j ∙ no_letters j (taken_from j e.takes) (W j) (sym (waits_here j) ∙ ap waiting_on none))
      ∙ ap (λ (ms : List (ℕ × Message)). last_or (last_taken x.inbox j) ms) (of_one j)

  inbox_senders : senders (inbox_after x.inbox e.takes) ≡ senders x.inbox
  inbox_senders = kept_senders (fold take_off x.inbox e.takes) ls ∙ off_senders x.inbox e.takes

  abbrev mid : List SeatView
  mid = slice_set seats e.agent (seat_after x e.takes)

  mid_box : (i : ℕ) → inbox_at mid i ≡ (if e.agent == i then inbox_after x.inbox e.takes else inbox_at seats i)
  mid_box i = inbox_set seats e.agent x (seat_after x e.takes) here i

  view_here : slice_get net.views e.agent ≡ Some x.view
  view_here = view_there p net seats s e.agent (Some x) here

  senders_case : (b : Bool) (i : ℕ) → (e.agent == i) ≡ b → senders (if b then inbox_after x.inbox e.takes else inbox_at seats i) ≡ senders (inbox_at seats i)
  senders_case true i h = inbox_senders ∙ ap senders (sym box) ∙ ap (λ (k : ℕ). senders (inbox_at seats k)) (eqb-true e.agent i h)
  senders_case false i h = refl

  mid_senders : (i : ℕ) → senders (inbox_at mid i) ≡ senders (inbox_at seats i)
  mid_senders i = ap senders (mid_box i) ∙ senders_case (e.agent == i) i refl

  module _ (reach : All (IsToNeighbour x.view) sends) where
    to_links : All (λ q. (q.0 < length mid) × Contains (senders (inbox_at mid q.0)) e.agent) sends
    to_links = All-weaker (IsToNeighbour x.view) (λ q. (q.0 < length mid) × Contains (senders (inbox_at mid q.0)) e.agent) (λ q c.
        let near = near_back p e.agent q.0 (omega (arith, inside, s.size)) (subst (λ (ns : List ℕ). Contains ns q.0) (s.running e.agent x.view view_here).near c) in (
          omega (arith, near.0, s.size, length-set seats e.agent (seat_after x e.takes)),
          subst (λ (ns : List ℕ). Contains ns e.agent) (sym (mid_senders q.0 ∙ s.links q.0 (omega (arith, near.0, s.size)))) near.1,
        )) sends reach

    new : Delivered e.agent sends mid (deliver_all e.agent mid sends)
    new = delivered e.agent sends mid to_links

    abbrev bt : List (ℕ × Message)
    bt = batch net.desks e.agent e.takes

    desk_here : (d : Desk) × (slice_get net.desks e.agent ≡ Some d)
    desk_here = there_is net.desks e.agent (omega (arith, s.desks, inside))

    abbrev one : Network
    one = network_after net e x.view desk_here.0 bt

    abbrev happens : Happens net e one
    happens = record { view = x.view; desk = desk_here.0; views = view_here; desks = desk_here.1; fine = takes_same p net seats s e x here ∙ fine; after = refl }

    abbrev seats_new : List SeatView
    seats_new = deliver_all e.agent mid sends

    abbrev k : ℕ → ℕ
    k j = taken_from j e.takes

    abbrev past_new : ℕ → ℕ → List Message
    past_new i j = if e.agent == i then s.past i j ++ take (k j) (s.rest i j) else s.past i j

    abbrev left : ℕ → ℕ → List Message
    left i j = if e.agent == i then drop (k j) (s.rest i j) else s.rest i j

    abbrev more : ℕ → ℕ → List Message
    more i j = if e.agent == j then messages_to i sends else []

    is_rest : (j : ℕ) → W j ≡ s.rest e.agent j
    is_rest j = waiting_is p net seats s e.agent j inside

    running_new : (i : ℕ) (v : View) → slice_get one.views i ≡ Some v → IsRunningAgent p i v
    running_new i v h = elim (cases_eq e.agent i) [
      | inl same ↦ (let w : View = (step_of x.view bt).view in
          let got : slice_get one.views i ≡ Some w = subst (λ (n : ℕ). slice_get (slice_set net.views e.agent w) n ≡ Some w) same (get_same net.views e.agent x.view w view_here) in
          let was = s.running e.agent x.view view_here in
          let now : IsRunningAgent p e.agent w = record { near = ap (λ own. own.neighbours) (step_private x.view bt) ∙ was.near; started = step_started x.view bt ∙ was.started } in
          subst (λ (u : View). IsRunningAgent p i u) (same_Some w v (sym got ∙ h)) (subst (λ (n : ℕ). IsRunningAgent p n w) same now))
      | inr other ↦ s.running i v (sym (get_other net.views e.agent i (step_of x.view bt).view other) ∙ h)
    ]

    taken_here : (j : ℕ) → taken_from j (takes_at (slice_get one.desks e.agent)) ≡ length (s.past e.agent j ++ take (k j) (s.rest e.agent j))
    taken_here j =
        let y : Desk = desk_after desk_here.0 (step_of x.view bt).sends e.takes in
        let fits : k j ≤ length (s.rest e.agent j) = subst (λ (ms : List Message). k j ≤ length ms) (is_rest j) (enough j) in
        ap (λ (o : Option Desk). taken_from j (takes_at o)) (get_same net.desks e.agent desk_here.0 y desk_here.1)
        ∙ sum_by-append (λ (t : Take). if t.from == j then t.count else 0) desk_here.0.takes e.takes
        ∙ ap (λ (n : ℕ). n + k j) (ap (λ (o : Option Desk). taken_from j (takes_at o)) (sym desk_here.1) ∙ s.taken e.agent j inside)
        ∙ sym (length-append (s.past e.agent j) (take (k j) (s.rest e.agent j)) ∙ ap (λ (n : ℕ). length (s.past e.agent j) + n) (length-take-le (k j) (s.rest e.agent j) fits))

    taken_case : (b : Bool) (i j : ℕ) → (e.agent == i) ≡ b → i < length seats → taken_from j (takes_at (slice_get one.desks i)) ≡ length (if b then s.past i j ++ take (k j) (s.rest i j) else s.past i j)
    taken_case true i j h lt =
        subst (λ (n : ℕ). taken_from j (takes_at (slice_get one.desks n)) ≡ length (s.past n j ++ take (k j) (s.rest n j))) (eqb-true e.agent i h) (taken_here j)
    taken_case false i j h lt =
        ap (λ (o : Option Desk). taken_from j (takes_at o)) (get_other net.desks e.agent i (desk_after desk_here.0 (step_of x.view bt).sends e.takes) (eqb-false e.agent i h)) ∙ s.taken i j lt

    waits_here_new : (j : ℕ) → waiting_from (inbox_after x.inbox e.takes) j ≡ letters_of j (drop (k j) (s.rest e.agent j))
    waits_here_new j = inbox_waits j ∙ ap (λ (ms : List Message). letters_of j (drop (k j) ms)) (is_rest j)

    waits_case : (b : Bool) (i j : ℕ) → (e.agent == i) ≡ b → i < length seats → waiting_from (if b then inbox_after x.inbox e.takes else inbox_at seats i) j ≡ letters_of j (if b then drop (k j) (s.rest i j) else s.rest i j)
    waits_case true i j h lt = subst (λ (n : ℕ). waiting_from (inbox_after x.inbox e.takes) j ≡ letters_of j (drop (k j) (s.rest n j))) (eqb-true e.agent i h) (waits_here_new j)
    waits_case false i j h lt = s.waits i j lt

    last_here_new : (j : ℕ) → last_taken (inbox_after x.inbox e.takes) j ≡ last_or None (letters_of j (s.past e.agent j ++ take (k j) (s.rest e.agent j)))
    last_here_new j =
        inbox_last j
        ∙ ap (λ (o : Option (ℕ × Message)). last_or o (letters_of j (take (k j) (W j)))) (ap (λ (b : List LinkView). last_taken b j) (sym box) ∙ s.last e.agent j inside)
        ∙ last_append None (letters_of j (s.past e.agent j)) (letters_of j (take (k j) (W j)))
        ∙ ap (λ (ms : List Message). last_or None (letters_of j (s.past e.agent j) ++ letters_of j (take (k j) ms))) (is_rest j)
        ∙ ap (λ (ms : List (ℕ × Message)). last_or None ms) (sym (map-append (λ (m : Message). (j, m)) (s.past e.agent j) (take (k j) (s.rest e.agent j))))

    last_case : (b : Bool) (i j : ℕ) → (e.agent == i) ≡ b → i < length seats
        → last_taken (if b then inbox_after x.inbox e.takes else inbox_at seats i) j ≡ last_or None (letters_of j (if b then s.past i j ++ take (k j) (s.rest i j) else s.past i j))
    last_case true i j h lt =
        subst (λ (n : ℕ). last_taken (inbox_after x.inbox e.takes) j ≡ last_or None (letters_of j (s.past n j ++ take (k j) (s.rest n j)))) (eqb-true e.agent i h) (last_here_new j)
    last_case false i j h lt = s.last i j lt

    size_new : length seats_new ≡ length seats
    size_new = new.size ∙ length-set seats e.agent (seat_after x e.takes)

    shown_one : ShowsNetwork p one seats_new
    shown_one = record {
      size = size_new ∙ s.size;
      desks = length-set net.desks e.agent (desk_after desk_here.0 (step_of x.view bt).sends e.takes) ∙ s.desks ∙ sym size_new;
      views = new.views
          ∙ map-set (λ (z : SeatView). z.view) seats e.agent (seat_after x e.takes)
          ∙ ap (λ (vs : List View). slice_set vs e.agent (step_of x.view ls).view) s.views
          ∙ ap (λ (ms : List (ℕ × Message)). slice_set net.views e.agent (step_of x.view ms).view) letters_same;
      links = λ i lt. new.same i ∙ mid_senders i ∙ s.links i (omega (arith, lt, size_new));
      running = running_new;
      past = past_new;
      rest = λ i j. left i j ++ more i j;
      sent = λ i j lt. link_after net one e happens i j
          ∙ ap (λ (ms : List (ℕ × Message)). link net.desks j i ++ added e.agent j i (step_of x.view ms).sends) (sym letters_same)
          ∙ ap (λ (ms : List Message). ms ++ more i j) (s.sent i j (omega (arith, lt, size_new)))
          ∙ split_link (e.agent == i) (e.agent == j) (s.past i j) (s.rest i j) (messages_to i sends) (k j);
      taken = λ i j lt. taken_case (e.agent == i) i j refl (omega (arith, lt, size_new));
      waits = λ i j lt. new.waits i j
          ∙ ap (λ (b : List LinkView). waiting_from b j ++ seen_from e.agent j (messages_to i sends)) (mid_box i)
          ∙ ap (λ (ms : List (ℕ × Message)). ms ++ seen_from e.agent j (messages_to i sends)) (waits_case (e.agent == i) i j refl (omega (arith, lt, size_new)))
          ∙ seen_case (e.agent == j) e.agent j (left i j) (messages_to i sends) refl;
      last = λ i j lt. new.last i j ∙ ap (λ (b : List LinkView). last_taken b j) (mid_box i) ∙ last_case (e.agent == i) i j refl (omega (arith, lt, size_new));
    }

    -- after a lawful event the agents are those of the network after it
    pub shown_after : ShowsNetwork p (effect net e) (seats_after seats e.agent e.takes (slice_get seats e.agent))
    shown_after =
        let is : one ≡ effect net e =
        ap (λ (v : Option View). effect_at net e v (Some desk_here.0)) (sym view_here) ∙ ap (λ (d : Option Desk). effect_at net e (slice_get net.views e.agent) d) (sym desk_here.1) in
        let now : seats_new ≡ seats_after seats e.agent e.takes (slice_get seats e.agent) = ap (λ (o : Option SeatView). seats_after seats e.agent e.takes o) (sym here) in
        subst (λ (n : Network). ShowsNetwork p n (seats_after seats e.agent e.takes (slice_get seats e.agent))) is (subst (λ (zs : List SeatView). ShowsNetwork p one zs) now shown_one)
