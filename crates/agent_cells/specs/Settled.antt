-- Settling a link of a cell, with both of its ends in one thread.
use Rattle.std.specs.Prelude.{◌≡◌, ◌≢◌, ℕ, ◌<◌, List, length, slice_index_or}
use Rattle.protocol_steps.specs.declared.message.Message.{Message}
use Rattle.fifo_links.specs.declared.ends.LinkTail.{LinkTail}
use Rattle.fifo_links.specs.declared.ends.LinkHead.{LinkHead}
use Rattle.fifo_links.specs.Link.{AreEnds, IsSettled, known_to}
use Rattle.dcop_base.specs.Table.{has}
use Rattle.worker_laws.specs.Cells.{CellState, peers}
use Rattle.agent_cells.specs.Links.{Tail, Head, lanes_sent, lanes_taken, AreSameTails, AreSameHeads}

-- x is the element at place k of the list
pub record StandsAt {X : Type 0} (xs : List X) (k : ℕ) (x : X) : Type 0 where
  pub inside : k < length xs
  pub is : slice_index_or xs k x ≡ x

-- if there is a tail to this peer, it and this head are the ends of one link
pub record TailJoins (tails : List Tail) (to : ℕ) (head : LinkHead (ℕ × Message)) : Type 0 where
  pub each : (k : ℕ) (t : Tail) → StandsAt tails k t → t.0 ≡ to → AreEnds t.1 head

-- if there is a head from this peer, it and this tail are the ends of one link
pub record HeadJoins (heads : List Head) (from : ℕ) (tail : LinkTail (ℕ × Message)) : Type 0 where
  pub each : (k : ℕ) (h : Head) → StandsAt heads k h → h.0 ≡ from → AreEnds tail h.1

-- if there are a tail to one cell and a head from the other, they are the ends of one link
pub record EndsJoin (tails : List Tail) (to : ℕ) (heads : List Head) (from : ℕ) : Type 0 where
  pub each : (k : ℕ) (h : Head) → StandsAt heads k h → h.0 ≡ from → TailJoins tails to h.1

-- what settling the link to peer `to` does to a cell's tails: they are the same tails with the same
-- messages sent, and each tail to any other peer has not changed
pub record SettlesTail (before : List Tail) (to : ℕ) (after : List Tail) : Type 0 where
  pub same : AreSameTails before after
  pub sent : lanes_sent after ≡ lanes_sent before
  pub others : (k : ℕ) (t : Tail) → StandsAt before k t → t.0 ≢ to → StandsAt after k t

-- what settling the link from peer `from` does to a cell's heads: they are the same heads with the
-- same messages taken, and each head from any other peer has not changed
pub record SettlesHead (before : List Head) (from : ℕ) (after : List Head) : Type 0 where
  pub same : AreSameHeads before after
  pub taken : lanes_taken after ≡ lanes_taken before
  pub others : (k : ℕ) (h : Head) → StandsAt before k h → h.0 ≢ from → StandsAt after k h

-- if there is a tail to this peer, it and this head are settled, with `count` messages in the ring
pub record TailIsSettled (tails : List Tail) (to : ℕ) (head : LinkHead (ℕ × Message)) (count : ℕ) : Type 0 where
  pub settled : (k : ℕ) (t : Tail) → StandsAt tails k t → t.0 ≡ to → IsSettled t.1 head
  pub counted : (k : ℕ) (t : Tail) → StandsAt tails k t → t.0 ≡ to → count ≡ length (known_to head)

-- if there is a head from this peer, it and this tail are settled, with `count` messages in the
-- ring
pub record HeadIsSettled (heads : List Head) (from : ℕ) (tail : LinkTail (ℕ × Message)) (count : ℕ) : Type 0 where
  pub settled : (k : ℕ) (h : Head) → StandsAt heads k h → h.0 ≡ from → IsSettled tail h.1
  pub counted : (k : ℕ) (h : Head) → StandsAt heads k h → h.0 ≡ from → count ≡ length (known_to h.1)

-- if there is a link between the two, it is settled, with `count` messages in the ring
pub record EndsAreSettled (tails : List Tail) (to : ℕ) (heads : List Head) (from : ℕ) (count : ℕ) : Type 0 where
  pub each : (k : ℕ) (h : Head) → StandsAt heads k h → h.0 ≡ from → TailIsSettled tails to h.1 count

-- the link from one cell to another has both of its ends in them, or neither
abbrev pub HaveBothEnds : CellState → CellState → Type 0
HaveBothEnds from to = has (peers from.sent) to.me ≡ has (peers to.taken) from.me
