-- The stamps of the messages that wait, by sender and then receiver, and how takes and sends change
-- them.
use Rattle.std.specs.Prelude.{ℕ, ◌+◌, ◌-◌, List, [], ◌∷◌, ◌++◌, map, length, take, drop, replicate, Option, Some, None, max, ◌==◌, if◌then◌else◌, slice_get, slice_index_or}
use Rattle.std.specs.List.{find, fold, slice_set, range_with_len}
use Rattle.dcop_base.specs.Problem.{Dcop}
use Rattle.dcop_base.specs.Graph.{neighbours}
use Rattle.protocol_steps.specs.declared.event.Take.{Take}
use Rattle.delivery_core.specs.State.{CoreView, count_waiting}

-- the stamps of one agent's messages that wait for another
pub record QueueView : Type 0 where
  pub to : ℕ
  pub stamps : List ℕ

-- each agent's last stamp, and for each agent the queues of its messages
pub record StampsView : Type 0 where
  pub last : List ℕ
  pub rows : List (List QueueView)

-- the queue for receiver i
abbrev pub queue_to : ℕ → List QueueView → Option QueueView
queue_to i row = find (λ q. q.to == i) row

-- the stamps in a queue; none if there is no queue
abbrev pub stamps_of : Option QueueView → List ℕ
stamps_of None = []
stamps_of (Some q) = q.stamps

-- the queues of a row; none if there is no row
abbrev pub row_of : Option (List QueueView) → List QueueView
row_of None = []
row_of (Some row) = row

-- the queues of agent j's messages
abbrev pub row_at : List (List QueueView) → ℕ → List QueueView
row_at rows j = row_of (slice_get rows j)

-- the stamps of agent j's messages that wait for agent i
abbrev pub stamps_at : List (List QueueView) → ℕ → ℕ → List ℕ
stamps_at rows i j = stamps_of (queue_to i (row_at rows j))

-- the receivers of an agent's messages
abbrev pub receivers : List QueueView → List ℕ
receivers row = map (λ q. q.to) row

-- the queues after the first one for this receiver is changed
abbrev pub edit_queue : ℕ → (QueueView → QueueView) → List QueueView → List QueueView
edit_queue i f [] = []
edit_queue i f (q ∷ row) = if q.to == i then f q ∷ row else q ∷ edit_queue i f row

-- a queue without its next `count` stamps
abbrev pub without_next : ℕ → QueueView → QueueView
without_next count q = record q { stamps = drop count q.stamps }

-- the rows after a take of agent i
abbrev pub take_off : ℕ → List (List QueueView) → Take → List (List QueueView)
take_off i rows t = slice_set rows t.from (edit_queue i (without_next t.count) (row_at rows t.from))

-- the greatest stamp of the messages that these takes of agent i take, one take after another
abbrev pub greatest_by : ℕ → List (List QueueView) → List Take → ℕ
greatest_by i rows [] = 0
greatest_by i rows (t ∷ ts) = max (fold max 0 (take t.count (stamps_at rows i t.from))) (greatest_by i (take_off i rows t) ts)

-- 1 plus the greatest of agent i's last stamp and the stamps of the messages that these takes take
abbrev pub stamp_by : StampsView → ℕ → List Take → ℕ
stamp_by v i ts = max (slice_index_or v.last i 0) (greatest_by i v.rows ts) + 1

-- the stamps after these takes of agent i
abbrev pub stamps_taken : ℕ → List Take → StampsView → StampsView
stamps_taken i ts v = record v { rows = fold (take_off i) v.rows ts }

-- a queue of agent j with this stamp added after the others, until there are as many as its
-- messages that wait
abbrev pub filled : CoreView → ℕ → ℕ → QueueView → QueueView
filled s j stamp q = record q { stamps = q.stamps ++ replicate (count_waiting s q.to j - length q.stamps) stamp }

-- the stamps after agent j has sent messages with this stamp
abbrev pub stamps_sent : CoreView → ℕ → ℕ → StampsView → StampsView
stamps_sent s j stamp v = record {
  last = slice_set v.last j stamp;
  rows = slice_set v.rows j (map (filled s j stamp) (row_at v.rows j));
}

-- a queue in which nothing waits
abbrev pub new_queue : ℕ → QueueView
new_queue i = record { to = i; stamps = [] }

-- the queues of agent j after the start, if each stamp is 0
abbrev pub first_row : Dcop → CoreView → ℕ → List QueueView
first_row p s j = map (filled s j 0) (map new_queue (neighbours p j))

-- all queues after the start
abbrev pub first_stamps : Dcop → CoreView → StampsView
first_stamps p s = record {
  last = replicate (length p.sizes) 0;
  rows = map (first_row p s) (range_with_len 0 (length p.sizes));
}
