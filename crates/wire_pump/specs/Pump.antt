-- What a pump gives: both lists were sent and as many bytes received, or one of its wires failed.
use Rattle.std.specs.Prelude.{◌≡◌, ◌≤◌, ◌⊎◌, ℕ, List, length, Option, Some, None, Result, Ok, Err}
use Rattle.dcop_edge.specs.Faults.{Rose}
use Rattle.wire_pump.specs.Wire.{Told, told_more, counted_more, Reach}
use Rattle.wire_pump.specs.Ends.{Before, start_of, HasMoved, CountsLater, Waits}
use Rattle.wire_pump.specs.declared.ends.Ends.{Ends}
use Rattle.wire_pump.specs.declared.pump.Pumped.{Pumped}
use Rattle.wire_pump.specs.declared.pump.PumpFail.{PumpFail}

-- these bytes were sent at one end after what it had sent before, and those were received at the
-- other; there are as many of both. For each end: if its bytes are told, the new ones were
-- appended; and its count rose by their number, to 2^64 - 1 at most
pub record HasPassed (before : Before) (from to : Told) (bytes got : List ℕ) : Type 0 where
  pub sent : from.sent ≡ told_more before.sent bytes
  pub received : to.received ≡ told_more before.received got
  pub sent_count : from.sent_count ≡ counted_more before.sent_count (length bytes)
  pub received_count : to.received_count ≡ counted_more before.received_count (length got)
  pub same_length : length got ≡ length bytes

-- both wires tell their bytes, and the one has received all that the other has sent
pub record HasAll (from to : Told) : Type 0 where
  pub text : List ℕ
  pub sent : from.sent ≡ Some text
  pub received : to.received ≡ Some text

-- each of two ends has received all that the other has sent
pub record HaveAll (a b : Told) : Type 0 where
  pub there : HasAll a b
  pub back : HasAll b a

module _ {W : Type 0} (told : W → Told) (is_joined : W → W → Type 0) where
  -- the pump ran on from this state until it was done. For each direction, take any earlier record
  -- (`Before`) from which the ends have moved to this state, as `HasMoved` says. Then, measured
  -- from that record, all bytes of the direction have passed (`HasPassed`). If the two wires were
  -- joined, as the ends of one connection, they still are
  pub record EndsFrom (e : Ends W) (p : Pumped W) : Type 0 where
    pub there : (before : Before) → HasMoved before (told e.first) (told e.second) e.there → HasPassed before (told p.first) (told p.second) e.there.bytes.items p.at_second
    pub back : (before : Before) → HasMoved before (told e.second) (told e.first) e.back → HasPassed before (told p.second) (told p.first) e.back.bytes.items p.at_first
    pub first : CountsLater (told e.first) (told p.first)
    pub second : CountsLater (told e.second) (told p.second)
    pub joined : is_joined e.first e.second → is_joined p.first p.second × Reach (told p.first) (told p.second)

  -- since this state one of the two wires failed; wires that were joined still are
  pub record FailsFrom (e : Ends W) (f : PumpFail W) : Type 0 where
    pub first : (told e.first).faults ≤ (told f.first).faults
    pub second : (told e.second).faults ≤ (told f.second).faults
    pub rose : Rose (told e.first).faults (told f.first).faults ⊎ Rose (told e.second).faults (told f.second).faults
    pub joined : is_joined e.first e.second → is_joined f.first f.second

  -- what a pump in this state may give
  abbrev pub GivesFrom : Ends W → Result (Pumped W) (PumpFail W) → Type 0
  GivesFrom e (Ok p) = EndsFrom e p
  GivesFrom e (Err f) = FailsFrom e f

  -- two lists were pumped over two wires: both were sent, as far as the wires tell their bytes and
  -- count them, and as many bytes were received at the other ends. If the wires are joined and each
  -- had received all that the other had sent, then the bytes received are the lists, and afterwards
  -- each has again received all that the other has sent
  pub record HasPumped (first second : W) (to_second to_first : List ℕ) (p : Pumped W) : Type 0 where
    pub there : HasPassed (start_of (told first) (told second)) (told p.first) (told p.second) to_second p.at_second
    pub back : HasPassed (start_of (told second) (told first)) (told p.second) (told p.first) to_first p.at_first
    pub first_counts : CountsLater (told first) (told p.first)
    pub second_counts : CountsLater (told second) (told p.second)
    pub joined : is_joined first second → is_joined p.first p.second
    pub equal : is_joined first second → HaveAll (told first) (told second) → (p.at_second ≡ to_second) × (p.at_first ≡ to_first) × HaveAll (told p.first) (told p.second)

  -- one of the two wires failed since the pump over them was made; wires that were joined still are
  pub record HasFailed (first second : W) (f : PumpFail W) : Type 0 where
    pub first_grew : (told first).faults ≤ (told f.first).faults
    pub second_grew : (told second).faults ≤ (told f.second).faults
    pub rose : Rose (told first).faults (told f.first).faults ⊎ Rose (told second).faults (told f.second).faults
    pub joined : is_joined first second → is_joined f.first f.second

  -- what the pump of two lists over two wires may give
  abbrev pub EndsPump : W → W → List ℕ → List ℕ → Result (Pumped W) (PumpFail W) → Type 0
  EndsPump first second to_second to_first (Ok p) = HasPumped first second to_second to_first p
  EndsPump first second to_second to_first (Err f) = HasFailed first second f

-- between the state before a poll and the one after it, when it is pending: each direction that is
-- not done waited
abbrev pub WaitsSince : {W : Type 0} → (W → Told) → Option (Ends W) → Option (Ends W) → Type 0
WaitsSince told (Some a) (Some b) = Waits told a b
WaitsSince told a None = ⊥
WaitsSince told None (Some b) = ⊥
