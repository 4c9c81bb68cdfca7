-- The ends of links that a cell holds, each with the peer at its other end.
use Rattle.std.specs.Prelude.{◌≡◌, ℕ, ◌<◌, List, map, length, slice_index_or}
use Rattle.fifo_links.specs.declared.ends.LinkTail.{LinkTail}
use Rattle.fifo_links.specs.declared.ends.LinkHead.{LinkHead}
use Rattle.fifo_links.specs.Link.{sent_on, taken_from, known_to, SameTail, SameHead}
use Rattle.protocol_steps.specs.declared.message.Message.{Message}
use Rattle.worker_laws.specs.Cells.{Lane}

-- the sending end of a link, with the peer at its other end
abbrev pub Tail : Type 0
Tail = ℕ × LinkTail (ℕ × Message)

-- the receiving end of a link, with the peer at its other end
abbrev pub Head : Type 0
Head = ℕ × LinkHead (ℕ × Message)

-- all that was sent to each peer
abbrev pub lanes_sent : List Tail → List Lane
lanes_sent ts = map (λ t. record { peer = t.0; messages = sent_on t.1 }) ts

-- all that was taken from each peer
abbrev pub lanes_taken : List Head → List Lane
lanes_taken hs = map (λ h. record { peer = h.0; messages = taken_from h.1 }) hs

-- how many messages from each peer are known to wait
abbrev pub known_of : List Head → List (ℕ × ℕ)
known_of hs = map (λ h. (h.0, length (known_to h.1))) hs

-- the same tail of the link to the same peer
pub record IsSameTail (before after : Tail) : Type 0 where
  pub peer : after.0 ≡ before.0
  pub end : SameTail before.1 after.1

-- the same head of the link from the same peer
pub record IsSameHead (before after : Head) : Type 0 where
  pub peer : after.0 ≡ before.0
  pub end : SameHead before.1 after.1

-- the same tails at the same places
pub record AreSameTails (before after : List Tail) : Type 0 where
  pub size : length after ≡ length before
  pub each : (k : ℕ) (d : Tail) → k < length before → IsSameTail (slice_index_or before k d) (slice_index_or after k d)

-- the same heads at the same places
pub record AreSameHeads (before after : List Head) : Type 0 where
  pub size : length after ≡ length before
  pub each : (k : ℕ) (d : Head) → k < length before → IsSameHead (slice_index_or before k d) (slice_index_or after k d)
