-- The queues of all agents: after takes, and what takes take.
use Rattle.std.proofs.Common.{◌≡◌, ℕ, ◌+◌, ◌<◌, ◌≤◌, Bool, true, false, max, ◌==◌, nat_le, if◌then◌else◌, List, [], ◌∷◌, length, take, drop, refl, sym, ap, subst, ◌∙◌, arith}
use Rattle.std.specs.List.{fold, flat_map, slice_set, list_any}
use Rattle.std.proofs.lemmas.Bool.{eqb-true, eqb-false, ne_eqb, or_parts, leb-false}
use Rattle.std.proofs.lemmas.List.{length-set, drop-drop}
use Rattle.std.proofs.lemmas.List.Sums.{sum_by-cons}
use Rattle.protocol_steps.specs.declared.event.Take.{Take}
use Rattle.protocol_steps.specs.Network.{taken_from}
use Rattle.protocol_steps.specs.Run.{ascends_from}
use Rattle.protocol_steps.proofs.EventLaws.{get_same, get_other}
use Rattle.letter_queues.proofs.InboxLaws.{asc_parts}
use Rattle.delivery_core.proofs.ShownLaws.{there_is}
use Rattle.log_replay.specs.Queues.{QueueView, queue_to, stamps_of, row_of, row_at, stamps_at, receivers, edit_queue, without_next, take_off, greatest_by}
use Rattle.log_replay.proofs.MaxLaws.{greatest, greatest_append}
use Rattle.log_replay.proofs.QueueLaws.{queue_off, off_receivers}

-- the row of an agent, after one was set
pub row_same : (rows : List (List QueueView)) (k : ℕ) (row : List QueueView) → k < length rows → row_at (slice_set rows k row) k ≡ row
row_same rows k row lt = let old = there_is rows k lt in ap row_of (get_same rows k old.0 row old.1)

pub row_other : (rows : List (List QueueView)) (k j : ℕ) (row : List QueueView) → (k == j) ≡ false → row_at (slice_set rows k row) j ≡ row_at rows j
row_other rows k j row ne = ap row_of (get_other rows k j row (eqb-false k j ne))

-- after one take
off_at : (a : ℕ) (rows : List (List QueueView)) (t : Take) (i j : ℕ) (b : Bool) → (t.from == j) ≡ b → t.from < length rows
    → stamps_at (take_off a rows t) i j ≡ drop (if b then (if a == i then t.count else 0) else 0) (stamps_at rows i j)
off_at a rows t i j true h lt =
    let row : List QueueView = edit_queue a (without_next t.count) (row_at rows t.from) in
    subst (λ (k : ℕ). stamps_at (take_off a rows t) i k ≡ drop (if a == i then t.count else 0) (stamps_at rows i k)) (eqb-true t.from j h)
    (ap (λ (qs : List QueueView). stamps_of (queue_to i qs)) (row_same rows t.from row lt) ∙ queue_off a i t.count (row_at rows t.from))
off_at a rows t i j false h lt =
    ap (λ (qs : List QueueView). stamps_of (queue_to i qs)) (row_other rows t.from j (edit_queue a (without_next t.count) (row_at rows t.from)) h)

pub one_off : (a : ℕ) (rows : List (List QueueView)) (t : Take) (i j : ℕ) → t.from < length rows
    → stamps_at (take_off a rows t) i j ≡ drop (if t.from == j then (if a == i then t.count else 0) else 0) (stamps_at rows i j)
one_off a rows t i j lt = off_at a rows t i j (t.from == j) refl lt

pub off_size : (a : ℕ) (rows : List (List QueueView)) (ts : List Take) → length (fold (take_off a) rows ts) ≡ length rows
off_size a rows [] = refl
off_size a rows (t ∷ ts) = off_size a (take_off a rows t) ts ∙ length-set rows t.from (edit_queue a (without_next t.count) (row_at rows t.from))

-- the senders of takes are there
pub first_known : (n : ℕ) (t : Take) (ts : List Take) → list_any (λ u. nat_le n u.from) (t ∷ ts) ≡ false → (t.from < n) × (list_any (λ u. nat_le n u.from) ts ≡ false)
first_known n t ts h =
    let parts = or_parts (nat_le n t.from) (list_any (λ u. nat_le n u.from) ts) h in
    (leb-false n t.from parts.0, parts.1)

-- after all takes
off_sum : (x y : Bool) (c k : ℕ) (ns : List ℕ) → drop (if y then k else 0) (drop (if x then (if y then c else 0) else 0) ns) ≡ drop (if y then (if x then c else 0) + k else 0) ns
off_sum true true c k ns = drop-drop k c ns
off_sum false true c k ns = let e : k ≡ 0 + k = omega arith in ap (λ (n : ℕ). drop n ns) e
off_sum true false c k ns = refl
off_sum false false c k ns = refl

pub all_off : (a : ℕ) (rows : List (List QueueView)) (ts : List Take) (i j : ℕ) → list_any (λ t. nat_le (length rows) t.from) ts ≡ false
    → stamps_at (fold (take_off a) rows ts) i j ≡ drop (if a == i then taken_from j ts else 0) (stamps_at rows i j)
all_off a rows [] i j known = none_off (a == i)
  where
    none_off : (b : Bool) → stamps_at rows i j ≡ drop (if b then 0 else 0) (stamps_at rows i j)
    none_off true = refl
    none_off false = refl
all_off a rows (t ∷ ts) i j known =
    let parts = first_known (length rows) t ts known in
    let later : list_any (λ u. nat_le (length (take_off a rows t)) u.from) ts ≡ false =
    subst (λ (n : ℕ). list_any (λ u. nat_le n u.from) ts ≡ false) (sym (length-set rows t.from (edit_queue a (without_next t.count) (row_at rows t.from)))) parts.1 in
    all_off a (take_off a rows t) ts i j later
    ∙ ap (λ (ns : List ℕ). drop (if a == i then taken_from j ts else 0) ns) (one_off a rows t i j parts.0)
    ∙ off_sum (t.from == j) (a == i) t.count (taken_from j ts) (stamps_at rows i j)
    ∙ ap (λ (k : ℕ). drop (if a == i then k else 0) (stamps_at rows i j)) (sym (sum_by-cons (λ (u : Take). if u.from == j then u.count else 0) t ts))

-- the receivers stay
to_at : (a : ℕ) (rows : List (List QueueView)) (t : Take) (j : ℕ) (b : Bool) → (t.from == j) ≡ b → t.from < length rows → receivers (row_at (take_off a rows t) j) ≡ receivers (row_at rows j)
to_at a rows t j true h lt =
    let row : List QueueView = edit_queue a (without_next t.count) (row_at rows t.from) in
    subst (λ (k : ℕ). receivers (row_at (take_off a rows t) k) ≡ receivers (row_at rows k)) (eqb-true t.from j h)
    (ap receivers (row_same rows t.from row lt) ∙ off_receivers a t.count (row_at rows t.from))
to_at a rows t j false h lt = ap receivers (row_other rows t.from j (edit_queue a (without_next t.count) (row_at rows t.from)) h)

pub all_to : (a : ℕ) (rows : List (List QueueView)) (ts : List Take) (j : ℕ) → list_any (λ t. nat_le (length rows) t.from) ts ≡ false → receivers (row_at (fold (take_off a) rows ts) j) ≡ receivers (row_at rows j)
all_to a rows [] j known = refl
all_to a rows (t ∷ ts) j known =
    let parts = first_known (length rows) t ts known in
    let later : list_any (λ u. nat_le (length (take_off a rows t)) u.from) ts ≡ false =
    subst (λ (n : ℕ). list_any (λ u. nat_le n u.from) ts ≡ false) (sym (length-set rows t.from (edit_queue a (without_next t.count) (row_at rows t.from)))) parts.1 in
    all_to a (take_off a rows t) ts j later ∙ to_at a rows t j (t.from == j) refl parts.0

-- what takes of ascending senders take
pub greatest_is : (a b : ℕ) (W : ℕ → List ℕ) (rows : List (List QueueView)) (ts : List Take) → list_any (λ t. nat_le (length rows) t.from) ts ≡ false → ascends_from b ts ≡ true
    → ((j : ℕ) → b ≤ j → stamps_at rows a j ≡ W j) → greatest_by a rows ts ≡ greatest (flat_map (λ t. take t.count (W t.from)) ts)
greatest_is a b W rows [] known asc waits = refl
greatest_is a b W rows (t ∷ ts) known asc waits =
    let parts = first_known (length rows) t ts known in
    let up = asc_parts b t ts asc in
    let later : list_any (λ u. nat_le (length (take_off a rows t)) u.from) ts ≡ false =
    subst (λ (n : ℕ). list_any (λ u. nat_le n u.from) ts ≡ false) (sym (length-set rows t.from (edit_queue a (without_next t.count) (row_at rows t.from)))) parts.1 in
    let still : (j : ℕ) → t.from + 1 ≤ j → stamps_at (take_off a rows t) a j ≡ W j = λ j le.
    off_at a rows t a j false (ne_eqb t.from j (λ e. omega (arith, e, le))) parts.0 ∙ waits j (omega (arith, le, up.0)) in
    let here : take t.count (stamps_at rows a t.from) ≡ take t.count (W t.from) = ap (λ (ns : List ℕ). take t.count ns) (waits t.from up.0) in
    ap (λ (ns : List ℕ). max (greatest ns) (greatest_by a (take_off a rows t) ts)) here
    ∙ ap (λ (n : ℕ). max (greatest (take t.count (W t.from))) n) (greatest_is a (t.from + 1) W (take_off a rows t) ts later up.1 still)
    ∙ sym (greatest_append (take t.count (W t.from)) (flat_map (λ u. take u.count (W u.from)) ts))
