-- The agents after parcels were delivered.
use Rattle.std.proofs.Common.{◌≡◌, ◌⊎◌, ℕ, zero, suc, ◌<◌, Bool, true, false, ◌==◌, if◌then◌else◌, List, [], ◌∷◌, ◌++◌, length, Option, Some, None, refl, sym, ap, subst, ◌∙◌, inl, inr, arith}
use Rattle.std.specs.List.{slice_get, slice_set, All, Contains}
use Rattle.std.proofs.lemmas.Bool.{cases_eq, eqb-true, ne_eqb, eq-eqb, false≢true}
use Rattle.std.proofs.lemmas.Option.{none-some, same_Some}
use Rattle.std.proofs.lemmas.List.{append-nil, append_assoc, length-set, map-set, map-append}
use Rattle.std.proofs.lemmas.List.Elements.{All-head, All-tail, All-weaker}
use Rattle.dcop_base.proofs.FirstLaws.{Contains-cases, Contains-none}
use Rattle.protocol_steps.specs.declared.message.Message.{Message}
use Rattle.protocol_steps.specs.View.{View}
use Rattle.protocol_steps.specs.Network.{message_to, messages_to}
use Rattle.protocol_steps.proofs.EventLaws.{get_same, get_other}
use Rattle.letter_queues.specs.Links.{LinkView, link_from, waiting_on, taken_on, waiting_from, last_taken, letters_of}
use Rattle.letter_queues.specs.Inboxes.{senders, with_letter, add_letter}
use Rattle.letter_queues.proofs.InboxLaws.{map_link, link_edit, edit_senders}
use Rattle.delivery_core.specs.State.{SeatView, inbox_of, inbox_at, views_of}
use Rattle.delivery_core.specs.SeatEvents.{come, deliver, deliver_all}

-- an agent that is there
pub record Sits (seats : List SeatView) (i : ℕ) : Type 0 where
  pub seat : SeatView
  pub is : slice_get seats i ≡ Some seat

pub sits : (seats : List SeatView) (i : ℕ) → i < length seats → Sits seats i
sits [] i lt = absurd (omega (arith, lt))
sits (x ∷ xs) zero lt = record { seat = x; is = refl }
sits (x ∷ xs) (suc i) lt = let s = sits xs i (omega (arith, lt)) in record { seat = s.seat; is = s.is }

-- an agent was changed: an inbox after that
pub inbox_set : (seats : List SeatView) (k : ℕ) (x y : SeatView) → slice_get seats k ≡ Some x → (i : ℕ) → inbox_at (slice_set seats k y) i ≡ (if k == i then y.inbox else inbox_at seats i)
inbox_set seats k x y h i = elim (cases_eq k i) [
  | inl same ↦ rw (eq-eqb k i same) (ap inbox_of (subst (λ (n : ℕ). slice_get (slice_set seats k y) n ≡ Some y) same (get_same seats k x y h)))
  | inr other ↦ rw (ne_eqb k i other) (ap inbox_of (get_other seats k i y other))
]

there_step : (l : LinkView) (ls : List LinkView) (j : ℕ) (b : Bool) → (l.from == j) ≡ b → (l.from ≡ j) ⊎ Contains (senders ls) j → (Contains (senders ls) j → (x : LinkView) × (link_from j ls ≡ Some x))
    → (x : LinkView) × (link_from j (l ∷ ls) ≡ Some x)
there_step l ls j true h c more = (l, rw h refl)
there_step l ls j false h (inl e) more = absurd (false≢true (sym h ∙ eq-eqb l.from j e))
there_step l ls j false h (inr c) more = let x = more c in (x.0, rw h x.1)

-- a link of a sender in an inbox
pub link_there : (ls : List LinkView) (j : ℕ) → Contains (senders ls) j → (l : LinkView) × (link_from j ls ≡ Some l)
link_there [] j h = absurd (Contains-none j h)
link_there (l ∷ ls) j h = there_step l ls j (l.from == j) refl (Contains-cases l.from (senders ls) j h) (link_there ls j)

with_kept : (b : Bool) (m : ℕ × Message) (o : Option LinkView) → taken_on (map_link b (with_letter m) o) ≡ taken_on o
with_kept true m None = refl
with_kept true m (Some l) = refl
with_kept false m o = refl

comes : (b : Bool) (m : ℕ × Message) (i j : ℕ) (ls : List LinkView) (l : LinkView) → (i == j) ≡ b → link_from i ls ≡ Some l
    → waiting_on (map_link b (with_letter m) (link_from j ls)) ≡ waiting_from ls j ++ (if b then m ∷ [] else [])
comes true m i j ls l h there = rw (subst (λ (n : ℕ). link_from n ls ≡ Some l) (eqb-true i j h) there) refl
comes false m i j ls l h there = sym (append-nil (waiting_from ls j))

-- what a letter adds to an inbox
added_to : (ls : List LinkView) (i j : ℕ) (m : Message) (l : LinkView) → link_from i ls ≡ Some l → waiting_from (add_letter ls (i, m)) j ≡ waiting_from ls j ++ (if i == j then (i, m) ∷ [] else [])
added_to ls i j m l there =
    let x : ℕ × Message = (i, m) in
    ap waiting_on (link_edit j i (with_letter x) (λ y. refl) ls) ∙ comes (i == j) x i j ls l refl there

last_to : (ls : List LinkView) (i j : ℕ) (m : Message) → last_taken (add_letter ls (i, m)) j ≡ last_taken ls j
last_to ls i j m =
    let x : ℕ × Message = (i, m) in
    ap taken_on (link_edit j i (with_letter x) (λ y. refl) ls) ∙ with_kept (i == j) x (link_from j ls)

-- letters for agent k of agent i, as agent j sees them
abbrev pub seen_from : ℕ → ℕ → List Message → List (ℕ × Message)
seen_from i j ms = if i == j then letters_of i ms else []

-- what agents have after parcels arrive
pub record Delivered (i : ℕ) (ps : List (ℕ × Message)) (old new : List SeatView) : Type 0 where
  pub size : length new ≡ length old
  pub views : views_of new ≡ views_of old
  pub same : (k : ℕ) → senders (inbox_at new k) ≡ senders (inbox_at old k)
  pub waits : (k j : ℕ) → waiting_from (inbox_at new k) j ≡ waiting_from (inbox_at old k) j ++ seen_from i j (messages_to k ps)
  pub last : (k j : ℕ) → last_taken (inbox_at new k) j ≡ last_taken (inbox_at old k) j

abbrev empty : List (ℕ × Message)
empty = []

nothing_seen : (b : Bool) → (if b then empty else empty) ≡ empty
nothing_seen true = refl
nothing_seen false = refl

in_case : (b : Bool) (ls : List LinkView) (i j : ℕ) (m : Message) (l : LinkView) → (b ≡ true → link_from i ls ≡ Some l)
    → waiting_from (if b then add_letter ls (i, m) else ls) j ≡ waiting_from ls j ++ seen_from i j (if b then m ∷ [] else [])
in_case true ls i j m l there = added_to ls i j m l (there refl)
in_case false ls i j m l there = sym (ap (λ (xs : List (ℕ × Message)). waiting_from ls j ++ xs) (nothing_seen (i == j)) ∙ append-nil (waiting_from ls j))

last_case : (b : Bool) (ls : List LinkView) (i j : ℕ) (m : Message) → last_taken (if b then add_letter ls (i, m) else ls) j ≡ last_taken ls j
last_case true ls i j m = last_to ls i j m
last_case false ls i j m = refl

senders_case : (b : Bool) (ls : List LinkView) (x : ℕ × Message) → senders (if b then add_letter ls x else ls) ≡ senders ls
senders_case true ls x = edit_senders x.0 (with_letter x) (λ l. refl) ls
senders_case false ls x = refl

box_case : (b : Bool) (k n : ℕ) (seats : List SeatView) (x : SeatView) (m : ℕ × Message) → (k == n) ≡ b → slice_get seats k ≡ Some x
    → (if b then add_letter x.inbox m else inbox_at seats n) ≡ (if b then add_letter (inbox_at seats n) m else inbox_at seats n)
box_case true k n seats x m h here = ap (λ (o : Option SeatView). add_letter (inbox_of o) m) (sym (subst (λ (j : ℕ). slice_get seats j ≡ Some x) (eqb-true k n h) here))
box_case false k n seats x m h here = refl

view_kept : (seats : List SeatView) (k : ℕ) (x : SeatView) → slice_get seats k ≡ Some x → slice_set (views_of seats) k x.view ≡ views_of seats
view_kept [] k x h = absurd (none-some x h)
view_kept (z ∷ zs) zero x h = ap (λ (v : View). v ∷ views_of zs) (ap (λ (y : SeatView). y.view) (sym (same_Some z x h)))
view_kept (z ∷ zs) (suc k) x h = ap (λ (vs : List View). z.view ∷ vs) (view_kept zs k x h)

came : (i : ℕ) (q : ℕ × Message) (seats : List SeatView) (x : SeatView) (l : LinkView) → slice_get seats q.0 ≡ Some x → link_from i x.inbox ≡ Some l → Delivered i (q ∷ []) seats (deliver i seats q)
came i q seats x l here there =
    let k : ℕ = q.0 in
    let m : ℕ × Message = (i, q.1) in
    let y : SeatView = record x { inbox = add_letter x.inbox m } in
    let new : List SeatView = slice_set seats k y in
    let boxes : (n : ℕ) → inbox_at new n ≡ (if k == n then add_letter (inbox_at seats n) m else inbox_at seats n) =
    λ n. inbox_set seats k x y here n ∙ box_case (k == n) k n seats x m refl here in
    let is : new ≡ deliver i seats q = ap (λ (o : Option SeatView). come seats k m o) (sym here) in
    subst (λ (s : List SeatView). Delivered i (q ∷ []) seats s) is (record {
      size = length-set seats k y;
      views = map-set (λ (z : SeatView). z.view) seats k y ∙ view_kept seats k x here;
      same = λ n. ap senders (boxes n) ∙ senders_case (k == n) (inbox_at seats n) m;
      waits = λ n j. ap (λ (ls : List LinkView). waiting_from ls j) (boxes n)
          ∙ in_case (k == n) (inbox_at seats n) i j q.1 l (λ e. ap (λ (o : Option SeatView). link_from i (inbox_of o)) (subst (λ (h : ℕ). slice_get seats h ≡ Some x) (eqb-true k n e) here) ∙ there)
          ∙ ap (λ (ms : List Message). waiting_from (inbox_at seats n) j ++ seen_from i j ms) (sym (append-nil (message_to n q)));
      last = λ n j. ap (λ (ls : List LinkView). last_taken ls j) (boxes n) ∙ last_case (k == n) (inbox_at seats n) i j q.1;
    })

seen_append : (b : Bool) (i : ℕ) (ms ns : List Message) → (if b then letters_of i ms else []) ++ (if b then letters_of i ns else []) ≡ (if b then letters_of i (ms ++ ns) else [])
seen_append true i ms ns = sym (map-append (λ (m : Message). (i, m)) ms ns)
seen_append false i ms ns = refl

-- parcels of agent i are delivered to agents that have a link of it
pub delivered : (i : ℕ) (ps : List (ℕ × Message)) (seats : List SeatView) → All (λ q. (q.0 < length seats) × Contains (senders (inbox_at seats q.0)) i) ps → Delivered i ps seats (deliver_all i seats ps)
delivered i [] seats all = record {
  size = refl;
  views = refl;
  same = λ k. refl;
  waits = λ k j. sym (ap (λ (xs : List (ℕ × Message)). waiting_from (inbox_at seats k) j ++ xs) (nothing_seen (i == j)) ∙ append-nil (waiting_from (inbox_at seats k) j));
  last = λ k j. refl;
}
delivered i (q ∷ ps) seats all =
    let head = All-head (λ r. (r.0 < length seats) × Contains (senders (inbox_at seats r.0)) i) q ps all in
    let s = sits seats q.0 head.0 in
    let there = link_there s.seat.inbox i (subst (λ (o : Option SeatView). Contains (senders (inbox_of o)) i) s.is head.1) in
    let one = came i q seats s.seat there.0 s.is there.1 in
    let next : List SeatView = deliver i seats q in
    let tail : All (λ (r : ℕ × Message). (r.0 < length next) × Contains (senders (inbox_at next r.0)) i) ps =
    All-weaker (λ r. (r.0 < length seats) × Contains (senders (inbox_at seats r.0)) i) (λ r. (r.0 < length next) × Contains (senders (inbox_at next r.0)) i)
    (λ r h. (omega (arith, h.0, one.size), subst (λ (ns : List ℕ). Contains ns i) (sym (one.same r.0)) h.1)) ps
    (All-tail (λ r. (r.0 < length seats) × Contains (senders (inbox_at seats r.0)) i) q ps all) in
    let more = delivered i ps next tail in
    record {
      size = more.size ∙ one.size;
      views = more.views ∙ one.views;
      same = λ k. more.same k ∙ one.same k;
      waits = λ k j. more.waits k j
          ∙ ap (λ (xs : List (ℕ × Message)). xs ++ seen_from i j (messages_to k ps)) (one.waits k j ∙ ap (λ (ms : List Message). waiting_from (inbox_at seats k) j ++ seen_from i j ms) (append-nil (message_to k q)))
          ∙ append_assoc (waiting_from (inbox_at seats k) j) (seen_from i j (message_to k q)) (seen_from i j (messages_to k ps))
          ∙ ap (λ (xs : List (ℕ × Message)). waiting_from (inbox_at seats k) j ++ xs) (seen_append (i == j) i (message_to k q) (messages_to k ps));
      last = λ k j. more.last k j ∙ one.last k j;
    }
