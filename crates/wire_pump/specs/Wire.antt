-- What a wire tells, and how each of its calls changes that.
use Rattle.std.specs.Prelude.{◌≡◌, ◌+◌, ◌<◌, ◌≤◌, ℕ, min, max, List, ◌++◌, length, take, drop, Option, Some, None, Result, Ok, Err}
use mathlib.Core.List.{IsPrefix}
use Rattle.futures.specs.declared.task.Poll.{Poll}
use Rattle.futures.specs.declared.task.Poll.TheVariants.{Ready, Pending}
use Rattle.dcop_base.specs.Limits.{count_limit}
use Rattle.dcop_edge.specs.Faults.{Rose}
use Rattle.dcop_edge.specs.declared.fault.Failed.{Failed}

-- the bytes sent and received so far, if the wire tells them; how many were sent and received; and
-- how often a write waited, a read waited, and a call failed
pub record Told : Type 0 where
  pub sent : Option (List ℕ)
  pub received : Option (List ℕ)
  pub sent_count : ℕ
  pub received_count : ℕ
  pub write_waits : ℕ
  pub read_waits : ℕ
  pub faults : ℕ

-- the told bytes and then more; nothing if none are told
abbrev pub told_more : Option (List ℕ) → List ℕ → Option (List ℕ)
told_more None more = None
told_more (Some text) more = Some (text ++ more)

-- a count that goes up by `more`, to 2^64 - 1 at most, and does not fall
abbrev pub counted_more : ℕ → ℕ → ℕ
counted_more n more = max n (min (n + more) count_limit)

-- a write took the first `count` bytes, at least one if there are any, and counted them; nothing
-- else changed
pub record Wrote (a : Told) (bytes : List ℕ) (count : ℕ) (b : Told) : Type 0 where
  pub within : count ≤ length bytes
  pub some : 0 < length bytes → 0 < count
  pub counted : b.sent_count ≡ counted_more a.sent_count count
  pub is : b ≡ record a { sent = told_more a.sent (take count bytes); sent_count = b.sent_count }

-- a read put `count` bytes at the front of the buffer, at least one if it has room for any, and
-- counted them; the buffer behind them is as it was, and nothing else changed
pub record Gave (a : Told) (buffer filled : List ℕ) (count : ℕ) (b : Told) : Type 0 where
  pub within : count ≤ length buffer
  pub some : 0 < length buffer → 0 < count
  pub rest : drop count filled ≡ drop count buffer
  pub counted : b.received_count ≡ counted_more a.received_count count
  pub is : b ≡ record a { received = told_more a.received (take count filled); received_count = b.received_count }

-- a call failed: the count of faults rose, or is at its limit, and nothing else changed
pub record Broke (a b : Told) : Type 0 where
  pub grew : a.faults ≤ b.faults
  pub rose : Rose a.faults b.faults
  pub is : b ≡ record a { faults = b.faults }

-- a write waits: the count of waits of writes rose, or is at its limit, and nothing else changed
pub record WaitsToWrite (a b : Told) : Type 0 where
  pub grew : a.write_waits ≤ b.write_waits
  pub rose : Rose a.write_waits b.write_waits
  pub is : b ≡ record a { write_waits = b.write_waits }

-- a read waits: the count of waits of reads rose, or is at its limit, and nothing else changed
pub record WaitsToRead (a b : Told) : Type 0 where
  pub grew : a.read_waits ≤ b.read_waits
  pub rose : Rose a.read_waits b.read_waits
  pub is : b ≡ record a { read_waits = b.read_waits }

-- what a poll for writing did, by its answer
abbrev pub AfterWrite : Told → List ℕ → Poll (Result ℕ Failed) → Told → Type 0
AfterWrite a bytes (Ready (Ok count)) b = Wrote a bytes count b
AfterWrite a bytes (Ready (Err failed)) b = Broke a b
AfterWrite a bytes Pending b = WaitsToWrite a b

-- what a poll for reading did, by its answer: if it failed or waits, the buffer is as it was
abbrev pub AfterRead : Told → List ℕ → List ℕ → Poll (Result ℕ Failed) → Told → Type 0
AfterRead a buffer filled (Ready (Ok count)) b = Gave a buffer filled count b
AfterRead a buffer filled (Ready (Err failed)) b = Broke a b × (filled ≡ buffer)
AfterRead a buffer filled Pending b = WaitsToRead a b × (filled ≡ buffer)

-- both wires tell their bytes, and what the one has received is a prefix of what the other has sent
pub record Reaches (from to : Told) : Type 0 where
  pub sent : List ℕ
  pub received : List ℕ
  pub is_sent : from.sent ≡ Some sent
  pub is_received : to.received ≡ Some received
  pub front : IsPrefix received sent

-- each of the two has received a prefix of what the other has sent
pub record Reach (a b : Told) : Type 0 where
  pub there : Reaches a b
  pub back : Reaches b a
