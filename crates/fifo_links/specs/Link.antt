-- What contracts see of the two ends of a link.
use Rattle.std.specs.Prelude.{◌≡◌, ℕ, ◌≤◌, ◌<◌, ◌⊎◌, List, [], ◌++◌, length}
use mathlib.Core.List.{IsPrefix}
use Rattle.rtrb.specs.Ring.{sent, known_free, received, known_items, IsPair, SameProducer, SameConsumer}
use Rattle.fifo_links.specs.declared.ends.LinkTail.{LinkTail}
use Rattle.fifo_links.specs.declared.ends.LinkHead.{LinkHead}
use Rattle.fifo_links.specs.Slots.{ring_slots}

module _ {T : Type 0} where
  -- what entered the ring, oldest first
  abbrev pub entered_by : LinkTail T → List T
  entered_by t = sent t.ring

  -- what waits in the backlog, oldest first
  abbrev pub backlog_of : LinkTail T → List T
  backlog_of t = t.backlog.items

  -- all that was sent, oldest first
  abbrev pub sent_on : LinkTail T → List T
  sent_on t = entered_by t ++ backlog_of t

  -- how many slots of the ring the tail knows to be free
  abbrev pub room_of : LinkTail T → ℕ
  room_of t = known_free t.ring

  -- all that was taken, oldest first
  abbrev pub taken_from : LinkHead T → List T
  taken_from h = received h.ring

  -- the items in the ring that the head knows of: the next ones that it takes
  abbrev pub known_to : LinkHead T → List T
  known_to h = known_items h.ring

  -- the two ends of one link
  abbrev pub AreEnds : LinkTail T → LinkHead T → Type 0
  AreEnds t h = IsPair t.ring h.ring

  -- a tail before and after a call: the same end of the same link
  abbrev pub SameTail : LinkTail T → LinkTail T → Type 0
  SameTail a b = SameProducer a.ring b.ring

  -- a head before and after a call: the same end of the same link
  abbrev pub SameHead : LinkHead T → LinkHead T → Type 0
  SameHead a b = SameConsumer a.ring b.ring

  -- the head took `count` items, those that it knew of first, and appended them to a list: at most
  -- as many as a ring holds, and at least as many as it knew of; if they are fewer than a ring
  -- holds, it knows of no more
  pub record HasTaken (before : LinkHead T) (old : List T) (count : ℕ) (after : LinkHead T) (new : List T) : Type 0 where
    pub items : List T
    pub taken : taken_from after ≡ taken_from before ++ items
    pub added : new ≡ old ++ items
    pub counted : count ≡ length items
    pub most : count ≤ ring_slots
    pub ahead : IsPrefix (known_to before) (items ++ known_to after)
    pub known : length (known_to before) ≤ count
    pub all : count < ring_slots → known_to after ≡ []

  -- what was taken, what the head knows of and the backlog are, in this order, all that was sent;
  -- the backlog is empty or the head knows of a full ring
  pub record IsSettled (t : LinkTail T) (h : LinkHead T) : Type 0 where
    pub whole : (taken_from h ++ known_to h) ++ backlog_of t ≡ sent_on t
    pub most : length (known_to h) ≤ ring_slots
    pub full : (backlog_of t ≡ []) ⊎ (length (known_to h) ≡ ring_slots)
