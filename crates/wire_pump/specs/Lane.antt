-- One direction of a pump: how a call changes the wire and the bytes that it sends or receives.
use Rattle.std.specs.Prelude.{◌≡◌, ◌<◌, ◌≤◌, ℕ, List, length, take, Option, Result, Ok, Err}
use Rattle.dcop_edge.specs.Faults.{Rose}
use Rattle.dcop_edge.specs.declared.fault.Failed.{Failed}
use Rattle.wire_pump.specs.Wire.{Told, told_more, counted_more}

-- bytes up to position `now` are sent, as far as the wire tells: if it had sent those up to `went`
-- since some start, it has now sent those up to `now`, and its count of them is right; no fault,
-- and nothing received
pub record Sends (a : Told) (bytes : List ℕ) (went : ℕ) (b : Told) (now : ℕ) : Type 0 where
  pub within : now ≤ length bytes
  pub sent : (before : Option (List ℕ)) → a.sent ≡ told_more before (take went bytes) → b.sent ≡ told_more before (take now bytes)
  pub received : b.received ≡ a.received
  pub sent_count : (before : ℕ) → a.sent_count ≡ counted_more before went → b.sent_count ≡ counted_more before now
  pub received_count : b.received_count ≡ a.received_count
  pub write_waits : a.write_waits ≤ b.write_waits
  pub read_waits : b.read_waits ≡ a.read_waits
  pub faults : b.faults ≡ a.faults

-- the buffer holds what was received up to position `now`, as far as the wire tells, if it held
-- what was received up to `came`; its count is right; no fault, and nothing sent
pub record Receives (a : Told) (old : List ℕ) (came : ℕ) (b : Told) (new : List ℕ) (now : ℕ) : Type 0 where
  pub within : now ≤ length old
  pub same_length : length new ≡ length old
  pub received : (before : Option (List ℕ)) → a.received ≡ told_more before (take came old) → b.received ≡ told_more before (take now new)
  pub sent : b.sent ≡ a.sent
  pub received_count : (before : ℕ) → a.received_count ≡ counted_more before came → b.received_count ≡ counted_more before now
  pub sent_count : b.sent_count ≡ a.sent_count
  pub read_waits : a.read_waits ≤ b.read_waits
  pub write_waits : b.write_waits ≡ a.write_waits
  pub faults : b.faults ≡ a.faults

-- the wire failed: its count of faults rose, or is at its limit
pub record Fails (a b : Told) : Type 0 where
  pub grew : a.faults ≤ b.faults
  pub rose : Rose a.faults b.faults

-- what sending did, by its answer: if bytes are left, the wire waited; or the wire failed
abbrev pub AfterSend : Told → List ℕ → ℕ → Result (Unit {0}) Failed → Told → ℕ → Type 0
AfterSend a bytes went (Ok done) b now = Sends a bytes went b now × (now < length bytes → Rose a.write_waits b.write_waits)
AfterSend a bytes went (Err failed) b now = Fails a b

-- what receiving did, by its answer: if bytes are left, the wire waited; or the wire failed
abbrev pub AfterReceive : Told → List ℕ → ℕ → Result (Unit {0}) Failed → Told → List ℕ → ℕ → Type 0
AfterReceive a old came (Ok done) b new now = Receives a old came b new now × (now < length old → Rose a.read_waits b.read_waits)
AfterReceive a old came (Err failed) b new now = Fails a b
