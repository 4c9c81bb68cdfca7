-- Both ends of a pump: what moved since a start, and what a pass over both ends did.
use Rattle.std.specs.Prelude.{◌≡◌, ◌<◌, ◌≤◌, ◌⊎◌, ℕ, List, take, Option, vec_len}
use Rattle.dcop_edge.specs.Faults.{Rose}
use Rattle.wire_pump.specs.Wire.{Told, told_more, counted_more}
use Rattle.wire_pump.specs.declared.ends.Lane.{Lane}
use Rattle.wire_pump.specs.declared.ends.Ends.{Ends}

-- a moment from which a direction, from one end to the other, is measured: the bytes that the one
-- end had sent by then and those that the other had received, if they are told; and how many of
-- each
pub record Before : Type 0 where
  pub sent : Option (List ℕ)
  pub received : Option (List ℕ)
  pub sent_count : ℕ
  pub received_count : ℕ

-- what the first of two ends has sent and the second has received so far, as the moment from which
-- a direction is measured
abbrev pub start_of : Told → Told → Before
start_of from to = record { sent = from.sent; received = to.received; sent_count = from.sent_count; received_count = to.received_count }

-- since the moment `before`, the sending end of a direction has sent the first `went` of the
-- direction's bytes, and its receiving end has received `came` bytes, which stand first in the
-- direction's buffer. For each end: if its bytes are told, the new ones were appended; and its
-- count rose by their number, to 2^64 - 1 at most
pub record HasMoved (before : Before) (from to : Told) (lane : Lane) : Type 0 where
  pub sent : from.sent ≡ told_more before.sent (take lane.went lane.bytes.items)
  pub received : to.received ≡ told_more before.received (take lane.came lane.buffer.items)
  pub sent_count : from.sent_count ≡ counted_more before.sent_count lane.went
  pub received_count : to.received_count ≡ counted_more before.received_count lane.came

-- all bytes of this direction went out, and as many came in
pub record IsDone (lane : Lane) : Type 0 where
  pub sent : lane.went ≡ vec_len lane.bytes
  pub received : lane.came ≡ vec_len lane.buffer

-- the counts of an end, later: its faults are as they were, and its counts of waits did not fall
pub record CountsLater (a b : Told) : Type 0 where
  pub write_waits : a.write_waits ≤ b.write_waits
  pub read_waits : a.read_waits ≤ b.read_waits
  pub faults : b.faults ≡ a.faults

module _ {W : Type 0} (told : W → Told) where
  -- the same pump later: what had moved since any earlier moment (`Before`) is still what has
  -- moved, with the same lists; the counts are later ones
  pub record IsLater (a b : Ends W) : Type 0 where
    pub there : (before : Before) → HasMoved before (told a.first) (told a.second) a.there → HasMoved before (told b.first) (told b.second) b.there
    pub back : (before : Before) → HasMoved before (told a.second) (told a.first) a.back → HasMoved before (told b.second) (told b.first) b.back
    pub there_bytes : b.there.bytes.items ≡ a.there.bytes.items
    pub back_bytes : b.back.bytes.items ≡ a.back.bytes.items
    pub first : CountsLater (told a.first) (told b.first)
    pub second : CountsLater (told a.second) (told b.second)

  -- each end that still has bytes to send has waited for a write since then, and each that still
  -- has bytes to receive has waited for a read; a count at its limit stays there
  pub record Waits (a b : Ends W) : Type 0 where
    pub first_writes : b.there.went < vec_len b.there.bytes → Rose (told a.first).write_waits (told b.first).write_waits
    pub second_writes : b.back.went < vec_len b.back.bytes → Rose (told a.second).write_waits (told b.second).write_waits
    pub second_reads : b.there.came < vec_len b.there.bytes → Rose (told a.second).read_waits (told b.second).read_waits
    pub first_reads : b.back.came < vec_len b.back.bytes → Rose (told a.first).read_waits (told b.first).read_waits

  -- neither count of faults fell since then, and one rose or is at its limit
  pub record FailsAt (a b : Ends W) : Type 0 where
    pub first : (told a.first).faults ≤ (told b.first).faults
    pub second : (told a.second).faults ≤ (told b.second).faults
    pub rose : Rose (told a.first).faults (told b.first).faults ⊎ Rose (told a.second).faults (told b.second).faults

-- both directions are done
pub record HasEnded {W : Type 0} (e : Ends W) : Type 0 where
  pub there : IsDone e.there
  pub back : IsDone e.back

-- some bytes have still to go out or to come in
abbrev pub IsOpen : {W : Type 0} → Ends W → Type 0
IsOpen e = (e.there.went < vec_len e.there.bytes) ⊎ ((e.back.went < vec_len e.back.bytes) ⊎ ((e.there.came < vec_len e.there.bytes) ⊎ (e.back.came < vec_len e.back.bytes)))

-- if any bytes have still to go out or to come in, then `P` holds
pub record IsOpenOnly {W : Type 0} (e : Ends W) (P : Type 0) : Type 0 where
  pub there_went : e.there.went < vec_len e.there.bytes → P
  pub back_went : e.back.went < vec_len e.back.bytes → P
  pub there_came : e.there.came < vec_len e.there.bytes → P
  pub back_came : e.back.came < vec_len e.back.bytes → P
