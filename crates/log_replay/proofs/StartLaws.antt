-- The stamps where all agents have started.
use Rattle.std.proofs.Common.{◌≡◌, ℕ, ◌-◌, ◌<◌, ◌≤◌, List, [], ◌++◌, map, length, drop, replicate, Option, Some, sym, ap, ◌∙◌, inl, inr, arith}
use Rattle.std.specs.List.{range_with_len}
use Rattle.std.proofs.lemmas.Bool.{cases_lt}
use Rattle.std.proofs.lemmas.List.{length-replicate, get_or-replicate}
use Rattle.std.proofs.lemmas.List.FromFn.{length-map-range_with_len, get_or-map-range_with_len}
use Rattle.std.proofs.lemmas.Option.{slice_get-get_or, slice_get_past}
use Rattle.dcop_base.specs.Problem.{Dcop}
use Rattle.dcop_base.specs.Graph.{neighbours}
use Rattle.protocol_steps.specs.View.{View}
use Rattle.protocol_steps.specs.Network.{Desk, Network, start_state, messages_to, sent_at, link}
use Rattle.protocol_steps.specs.Links.{taken_at}
use Rattle.protocol_steps.proofs.LinkLaws.{links_grow}
use Rattle.run_log.specs.LogStamps.{start_stamps}
use Rattle.delivery_core.specs.State.{CoreView, count_waiting}
use Rattle.delivery_core.specs.Shown.{IsCore}
use Rattle.log_replay.specs.Queues.{QueueView, queue_to, stamps_of, row_of, row_at, stamps_at, receivers, new_queue, first_row, first_stamps}
use Rattle.log_replay.specs.Following.{AreStamps}
use Rattle.log_replay.proofs.MaxLaws.{greatest_replicate}
use Rattle.log_replay.proofs.QueueLaws.{queue_filled, fill_receivers, new_receivers, new_empty}
use Rattle.log_replay.proofs.SentLaws.{taken_sent, count_is, none_waits}

module _ (p : Dcop) (made : List View) (core : CoreView) (is : IsCore p (start_state made) core) where
  abbrev n : ℕ
  n = length p.sizes

  abbrev net : Network
  net = start_state made

  abbrev first : ℕ → List QueueView
  first = first_row p core

  rows_size : length (map first (range_with_len 0 n)) ≡ n
  rows_size = length-map-range_with_len first 0 n

  row_is : (j : ℕ) → j < n → row_at (map first (range_with_len 0 n)) j ≡ first j
  row_is j lt =
      ap row_of (slice_get-get_or (map first (range_with_len 0 n)) j [] (omega (arith, lt, rows_size))
      ∙ ap (λ (row : List QueueView). Some row) (get_or-map-range_with_len first 0 n j j [] lt (omega arith)))

  row_to : (j : ℕ) → receivers (first j) ≡ neighbours p j
  row_to j = fill_receivers core j 0 (map new_queue (neighbours p j)) ∙ new_receivers (neighbours p j)

  new_to : (j : ℕ) → receivers (map new_queue (neighbours p j)) ≡ neighbours p j
  new_to j = new_receivers (neighbours p j)

  -- nothing is taken
  none_taken : (i j : ℕ) → taken_at net.desks i j ≡ 0
  none_taken i j = (links_grow.begun made).taken i j

  queue_in : (i j : ℕ) → i < n → stamps_of (queue_to i (first j)) ≡ replicate (length (link net.desks j i)) 0
  queue_in i j lt =
      let empty = new_empty i (neighbours p j) in
      let count : count_waiting core i j ≡ length (link net.desks j i) = (let c = count_is p net core is i j lt in let t = none_taken i j in omega (arith, c, t)) in
      queue_filled core i j 0 (map new_queue (neighbours p j)) (none_waits p net core is i j (map new_queue (neighbours p j)) lt (new_to j))
      ∙ ap (λ (ns : List ℕ). ns ++ replicate (count_waiting core i j - length ns) 0) empty
      ∙ ap (λ (k : ℕ). replicate (k - 0) 0) count
      ∙ (let e : length (link net.desks j i) - 0 ≡ length (link net.desks j i) = omega arith in ap (λ (k : ℕ). replicate k 0) e)

  none_sent : (i j : ℕ) → n ≤ j → link net.desks j i ≡ []
  none_sent i j past =
      let desks = is.shows.desks in
      let size = is.shows.size in
      ap (λ (o : Option Desk). messages_to i (sent_at o)) (slice_get_past net.desks j (omega (arith, desks, size, past)))

  queue_is : (i j : ℕ) → i < n → stamps_at (map first (range_with_len 0 n)) i j ≡ replicate (length (link net.desks j i)) 0
  queue_is i j lt = elim (cases_lt j n) [
    | inl inside ↦ ap (λ (row : List QueueView). stamps_of (queue_to i row)) (row_is j inside) ∙ queue_in i j lt
    | inr past ↦
        ap (λ (o : Option (List QueueView)). stamps_of (queue_to i (row_of o))) (slice_get_past (map first (range_with_len 0 n)) j (omega (arith, past, rows_size)))
        ∙ sym (ap (λ (k : ℕ). replicate k 0) (ap length (none_sent i j past)))
  ]

  pub are_first : AreStamps p net (start_stamps net) (first_stamps p core)
  are_first = record {
    size = rows_size;
    last = λ i lt. slice_get-get_or (replicate n 0) i 0 (let zero_stamp : ℕ = 0 in let size = length-replicate n zero_stamp in omega (arith, lt, size)) ∙ ap (λ (k : ℕ). Some k) (get_or-replicate n i 0 0 lt);
    receivers = λ j lt. ap receivers (row_is j lt) ∙ row_to j;
    queues = λ i j lt.
        queue_is i j lt ∙ ap (λ (k : ℕ). drop k (replicate (length (link net.desks j i)) 0)) (sym (none_taken i j));
    many = λ i j. let zero_stamp : ℕ = 0 in length-replicate (length (link net.desks j i)) zero_stamp;
    taken = λ i j lt. taken_sent p net core is i j lt;
    few = λ i. omega arith;
    bounded = λ i j. let a = greatest_replicate (length (link net.desks j i)) 0 in omega (arith, a);
  }
