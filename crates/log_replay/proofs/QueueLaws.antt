-- The queue for a receiver: found, looked up, and changed.
use Rattle.std.proofs.Common.{◌≡◌, ℕ, zero, suc, ◌-◌, ◌<◌, max, take, Bool, true, false, cond, ◌==◌, if◌then◌else◌, List, [], ◌∷◌, ◌++◌, map, length, drop, replicate, get_or, Option, Some, None, refl, sym, ap, subst, ◌∙◌, inl, inr, arith}
use Rattle.std.specs.List.{position, slice_set, fold, Contains}
use Rattle.std.proofs.lemmas.Bool.{cond-false, eqb-true, eqb-false, ne_eqb}
use Rattle.std.proofs.lemmas.List.Quantifiers.{position-Some}
use Rattle.dcop_base.proofs.FirstLaws.{Contains-cases, Contains-head, Contains-tail, Contains-none}
use Rattle.protocol_steps.proofs.EventLaws.{not_then}
use Rattle.letter_queues.specs.Links.{LinkView, link_from}
use Rattle.letter_queues.specs.Inboxes.{senders}
use Rattle.letter_queues.proofs.LinkLaws.{find_first, find_none}
use Rattle.delivery_core.specs.State.{CoreView, count_waiting}
use Rattle.log_replay.specs.Queues.{QueueView, queue_to, stamps_of, receivers, edit_queue, without_next, filled, new_queue}

abbrev pub is_to : ℕ → QueueView → Bool
is_to i q = q.to == i

-- by its place
edit_first : (i : ℕ) (f : QueueView → QueueView) (row : List QueueView) (k : ℕ) (d : QueueView) → k < length row → is_to i (get_or row k d) ≡ true → ((n : ℕ) → n < k → is_to i (get_or row n d) ≡ false)
    → edit_queue i f row ≡ slice_set row k (f (get_or row k d))
edit_first i f [] k d inside here before = absurd (omega (arith, inside))
edit_first i f (q ∷ row) zero d inside here before = rw here refl
edit_first i f (q ∷ row) (suc k) d inside here before =
    rw (before zero (omega arith)) (ap (λ (qs : List QueueView). q ∷ qs) (edit_first i f row k d (omega (arith, inside)) here (λ n lt. before (suc n) (omega (arith, lt)))))

pub edited : (i : ℕ) (f : QueueView → QueueView) (row : List QueueView) (k : ℕ) (d : QueueView) → position (λ q. q.to == i) row ≡ Some k → slice_set row k (f (get_or row k d)) ≡ edit_queue i f row
edited i f row k d h =
    let at = position-Some (is_to i) row k d h in
    sym (edit_first i f row k d at.0 at.1 at.2)

edit_none : (i : ℕ) (f : QueueView → QueueView) (row : List QueueView) → queue_to i row ≡ None → edit_queue i f row ≡ row
edit_none i f [] h = refl
edit_none i f (q ∷ row) h =
    let parts = not_then (is_to i q) q (queue_to i row) h in
    rw parts.0 (ap (λ (qs : List QueueView). q ∷ qs) (edit_none i f row parts.1))

pub unedited : (i : ℕ) (f : QueueView → QueueView) (row : List QueueView) → position (λ q. q.to == i) row ≡ None → row ≡ edit_queue i f row
unedited i f row h = sym (edit_none i f row (find_none (is_to i) row h))

pub found : (i : ℕ) (row : List QueueView) (k : ℕ) (d : QueueView) → position (λ q. q.to == i) row ≡ Some k → queue_to i row ≡ Some (get_or row k d)
found i row k d h =
    let at = position-Some (is_to i) row k d h in
    find_first (is_to i) row k d at.0 at.1 at.2

pub missed : (i : ℕ) (row : List QueueView) → position (λ q. q.to == i) row ≡ None → queue_to i row ≡ None
missed i row h = find_none (is_to i) row h

-- after stamps were taken off one queue
off_step : (c : ℕ) (i : ℕ) (q : QueueView) (row es : List QueueView) (a b t : Bool) → (q.to == i) ≡ b → (a ≡ true → t ≡ b) → (a ≡ false → b ≡ true → t ≡ false)
    → stamps_of (queue_to i es) ≡ drop (if t then c else 0) (stamps_of (queue_to i row))
    → stamps_of (queue_to i (cond a (without_next c q ∷ row) (q ∷ es))) ≡ drop (if t then c else 0) (stamps_of (queue_to i (q ∷ row)))
off_step c i q row es true true t p r s ih = rw (p, r refl) refl
off_step c i q row es true false t p r s ih = rw (p, r refl) refl
off_step c i q row es false true t p r s ih = rw (p, s refl refl) refl
off_step c i q row es false false t p r s ih = rw p ih

none_left : (n : ℕ) → stamps_of (queue_to 0 []) ≡ drop n []
none_left zero = refl
none_left (suc n) = refl

pub queue_off : (k i c : ℕ) (row : List QueueView) → stamps_of (queue_to i (edit_queue k (without_next c) row)) ≡ drop (if k == i then c else 0) (stamps_of (queue_to i row))
queue_off k i c [] = none_left (if k == i then c else 0)
queue_off k i c (q ∷ row) =
    off_step c i q row (edit_queue k (without_next c) row) (q.to == k) (q.to == i) (k == i) refl
    (λ here. ap (λ (n : ℕ). n == i) (sym (eqb-true q.to k here)))
    (λ other here. ne_eqb k i (λ e. eqb-false q.to k other (eqb-true q.to i here ∙ sym e)))
    (queue_off k i c row)

to_step : (b : Bool) (x q : QueueView) (row es : List QueueView) → x.to ≡ q.to → receivers es ≡ receivers row → receivers (cond b (x ∷ row) (q ∷ es)) ≡ receivers (q ∷ row)
to_step true x q row es same ih = ap (λ (n : ℕ). n ∷ receivers row) same
to_step false x q row es same ih = ap (λ (ns : List ℕ). q.to ∷ ns) ih

pub off_receivers : (k c : ℕ) (row : List QueueView) → receivers (edit_queue k (without_next c) row) ≡ receivers row
off_receivers k c [] = refl
off_receivers k c (q ∷ row) = to_step (q.to == k) (without_next c q) q row (edit_queue k (without_next c) row) refl (off_receivers k c row)

-- a receiver that has a queue, and a sender that has a link
pub queue_missing : (i : ℕ) (row : List QueueView) → queue_to i row ≡ None → Contains (receivers row) i → ⊥
queue_missing i [] h c = Contains-none i c
queue_missing i (q ∷ row) h c =
    let parts = not_then (is_to i q) q (queue_to i row) h in
    elim (Contains-cases q.to (receivers row) i c) [
      | inl e ↦ eqb-false q.to i parts.0 e
      | inr d ↦ queue_missing i row parts.1 d
    ]

pub link_missing : (j : ℕ) (ls : List LinkView) → (Contains (senders ls) j → ⊥) → link_from j ls ≡ None
link_missing j [] none = refl
link_missing j (l ∷ ls) none =
    let other : (l.from == j) ≡ false = ne_eqb l.from j (λ e. none (subst (λ (n : ℕ). Contains (senders (l ∷ ls)) n) e (Contains-head l.from (senders ls)))) in
    rw other (link_missing j ls (λ c. none (Contains-tail l.from (senders ls) j c)))

-- queues that are filled
fill_step : (b : Bool) (s : CoreView) (i j stamp : ℕ) (q : QueueView) (row : List QueueView) → (q.to == i) ≡ b
    → (b ≡ false → stamps_of (queue_to i (map (filled s j stamp) row)) ≡ stamps_of (queue_to i row) ++ replicate (count_waiting s i j - length (stamps_of (queue_to i row))) stamp)
    → stamps_of (queue_to i (map (filled s j stamp) (q ∷ row))) ≡ stamps_of (queue_to i (q ∷ row)) ++ replicate (count_waiting s i j - length (stamps_of (queue_to i (q ∷ row)))) stamp
fill_step true s i j stamp q row h ih =
    let same : q.to ≡ i = eqb-true q.to i h in
    rw h (ap (λ (n : ℕ). q.stamps ++ replicate (count_waiting s n j - length q.stamps) stamp) same)
fill_step false s i j stamp q row h ih = rw h (ih refl)

not_here : (b : Bool) (q : QueueView) (o : Option QueueView) → b ≡ false → o ≡ None → cond b (Some q) o ≡ None
not_here b q o e h = cond-false b (Some q) o e ∙ h

pub queue_filled : (s : CoreView) (i j stamp : ℕ) (row : List QueueView) → (queue_to i row ≡ None → count_waiting s i j ≡ 0)
    → stamps_of (queue_to i (map (filled s j stamp) row)) ≡ stamps_of (queue_to i row) ++ replicate (count_waiting s i j - length (stamps_of (queue_to i row))) stamp
queue_filled s i j stamp [] none = ap (λ (n : ℕ). replicate n stamp) (let zero_waits = none refl in let e : 0 ≡ count_waiting s i j - 0 = omega (arith, zero_waits) in e)
queue_filled s i j stamp (q ∷ row) none =
    fill_step (q.to == i) s i j stamp q row refl (λ other. queue_filled s i j stamp row (λ h. none (not_here (q.to == i) q (queue_to i row) other h)))

pub fill_receivers : (s : CoreView) (j stamp : ℕ) (row : List QueueView) → receivers (map (filled s j stamp) row) ≡ receivers row
fill_receivers s j stamp [] = refl
fill_receivers s j stamp (q ∷ row) = ap (λ (ns : List ℕ). q.to ∷ ns) (fill_receivers s j stamp row)

pub new_receivers : (ns : List ℕ) → receivers (map new_queue ns) ≡ ns
new_receivers [] = refl
new_receivers (n ∷ ns) = ap (λ (ms : List ℕ). n ∷ ms) (new_receivers ns)

none_step : (b : Bool) (i n : ℕ) (row : List QueueView) → (n == i) ≡ b → stamps_of (queue_to i row) ≡ [] → stamps_of (queue_to i (new_queue n ∷ row)) ≡ []
none_step true i n row h ih = rw h refl
none_step false i n row h ih = rw h ih

pub new_empty : (i : ℕ) (ns : List ℕ) → stamps_of (queue_to i (map new_queue ns)) ≡ []
new_empty i [] = refl
new_empty i (n ∷ ns) = none_step (n == i) i n (map new_queue ns) refl (new_empty i ns)

-- nothing is taken off where there is no queue
none_taken : (k : ℕ) (ns : List ℕ) → ns ≡ [] → 0 ≡ fold max 0 (take k ns)
none_taken zero ns h = refl
none_taken (suc k) [] h = refl
none_taken (suc k) (n ∷ ns) h = absurd (cc)

pub none_greatest : (k i : ℕ) (row : List QueueView) → queue_to i row ≡ None → 0 ≡ fold max 0 (take k (stamps_of (queue_to i row)))
none_greatest k i row h = none_taken k (stamps_of (queue_to i row)) (ap stamps_of h)

-- one more queue is filled
pub filled_more : (s : CoreView) (j stamp : ℕ) (row : List QueueView) (k : ℕ) (q : QueueView) → k < length row
    → slice_set (map (filled s j stamp) (take k row) ++ drop k row) k (filled s j stamp (get_or row k q)) ≡ map (filled s j stamp) (take (suc k) row) ++ drop (suc k) row
filled_more s j stamp [] k q lt = absurd (omega (arith, lt))
filled_more s j stamp (r ∷ row) zero q lt = refl
filled_more s j stamp (r ∷ row) (suc k) q lt = ap (λ (qs : List QueueView). filled s j stamp r ∷ qs) (filled_more s j stamp row k q (omega (arith, lt)))

pub unfilled_at : (s : CoreView) (j stamp : ℕ) (row : List QueueView) (k : ℕ) (q : QueueView) → k < length row → get_or (map (filled s j stamp) (take k row) ++ drop k row) k q ≡ get_or row k q
unfilled_at s j stamp [] k q lt = absurd (omega (arith, lt))
unfilled_at s j stamp (r ∷ row) zero q lt = refl
unfilled_at s j stamp (r ∷ row) (suc k) q lt = unfilled_at s j stamp row k q (omega (arith, lt))
