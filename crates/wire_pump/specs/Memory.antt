-- Wires in memory that fail at chosen polls and change chosen bytes.
use Rattle.std.specs.Prelude.{◌≡◌, ◌+◌, ◌⊎◌, ℕ, take, ◌++◌, Bool, true, false, not, cond, List, [], ◌∷◌, map, filter, Option, Some, None, Result, Ok, Err, is_err, ◌==◌, ◌&&◌}
use Rattle.futures.specs.declared.task.Poll.{Poll}
use Rattle.futures.specs.declared.task.Poll.TheVariants.{Ready, Pending}
use Rattle.dcop_base.specs.Limits.{count_limit}
use Rattle.dcop_edge.specs.Memory.{no_calls}
use Rattle.dcop_edge.specs.declared.fault.Failed.{Failed}
use Rattle.wire_pump.specs.Wire.{Told}
use Rattle.wire_pump.specs.Steady.{AreJoined, AreApart, sent_by, received_by}
use Rattle.wire_pump.specs.declared.alter.Alter.{Alter}
use Rattle.wire_pump.specs.declared.alter.PollFail.{PollFail}
use Rattle.wire_pump.specs.declared.memory.MemoryWire.{MemoryWire}

-- this end of this pair is the one that is named
abbrev pub names_end : ℕ → Bool → ℕ → Bool → Bool
names_end pair is_first named named_first = (named == pair) && cond named_first is_first (not is_first)

-- the numbers of the polls of one end that are to fail
abbrev pub polls_of : ℕ → Bool → List PollFail → List ℕ
polls_of pair is_first polls = map (λ p. p.poll) (filter (λ p. names_end pair is_first p.pair p.first_end) polls)

-- the changes to the bytes that one end sends
abbrev pub alters_of : ℕ → Bool → List Alter → List Alter
alters_of pair is_first alters = filter (λ a. names_end pair is_first a.pair a.from_first) alters

-- the byte that goes out at a position instead of this one: that of the first change for this
-- position, else the byte itself
abbrev pub altered : List Alter → ℕ → ℕ → ℕ
altered [] place byte = byte
altered (a ∷ rest) place byte = cond (a.place == place) a.byte (altered rest place byte)

-- what is told of the bytes sent: nothing if some are to be changed; and what a wire in memory
-- tells
abbrev pub told_unless : List Alter → List ℕ → Option (List ℕ)
told_unless [] sent = Some sent
told_unless (a ∷ rest) sent = None

abbrev pub memory_told : MemoryWire → Told
memory_told w = record {
  sent = told_unless w.alters.items (sent_by w.wire);
  received = Some (received_by w.wire);
  sent_count = w.wire.sent_count;
  received_count = w.wire.received_count;
  write_waits = w.wire.write_waits;
  read_waits = w.wire.read_waits;
  faults = w.calls.faults;
}

-- two ends of one stream that both change no byte
pub record CarryAll (a b : MemoryWire) : Type 0 where
  pub joined : AreJoined a.wire b.wire
  pub there : a.alters.items ≡ []
  pub back : b.alters.items ≡ []

-- two ends that are not the two ends of one stream
abbrev pub AreOthers : MemoryWire → MemoryWire → Type 0
AreOthers a b = AreApart a.wire b.wire

-- the two new ends of the pair with this number, each with the faults that are asked for at it
pub record IsPair (pair : ℕ) (polls : List PollFail) (alters : List Alter) (a b : MemoryWire) : Type 0 where
  pub first_calls : a.calls ≡ no_calls (polls_of pair true polls)
  pub second_calls : b.calls ≡ no_calls (polls_of pair false polls)
  pub first_alters : a.alters.items ≡ alters_of pair true alters
  pub second_alters : b.alters.items ≡ alters_of pair false alters
  pub first_written : a.written ≡ 0
  pub second_written : b.written ≡ 0

-- the poll failed exactly if it was asked to
abbrev pub FailsWhere : Bool → Poll (Result ℕ Failed) → Type 0
FailsWhere fails (Ready result) = is_err result ≡ fails
FailsWhere fails Pending = fails ≡ false

-- the bytes that go out instead of these, the first at this position
abbrev pub all_altered : List Alter → ℕ → List ℕ → List ℕ
all_altered alters place [] = []
all_altered alters place (byte ∷ bytes) = altered alters place byte ∷ all_altered alters (place + 1) bytes

-- the count went up by `count`, or is at its limit
abbrev pub HasCounted : ℕ → ℕ → ℕ → Type 0
HasCounted old count new = (new ≡ old + count) ⊎ (new ≡ count_limit)

-- a wire counts the bytes that it has sent, and counts none if a poll failed or waits
abbrev pub CountsSent : MemoryWire → Poll (Result ℕ Failed) → MemoryWire → Type 0
CountsSent a (Ready (Ok count)) b = HasCounted a.written count b.written
CountsSent a (Ready (Err failed)) b = b.written ≡ a.written
CountsSent a Pending b = b.written ≡ a.written

-- what a poll for writing sent: the bytes that it took, each replaced if that is asked for; a wire
-- that changes any byte counts them
abbrev pub SendsAltered : MemoryWire → List ℕ → Poll (Result ℕ Failed) → MemoryWire → Type 0
SendsAltered a bytes (Ready (Ok count)) b =
    (sent_by b.wire ≡ sent_by a.wire ++ all_altered a.alters.items a.written (take count bytes)) × ((a.alters.items ≡ []) ⊎ HasCounted a.written count b.written)
SendsAltered a bytes (Ready (Err failed)) b = (sent_by b.wire ≡ sent_by a.wire) × (b.written ≡ a.written)
SendsAltered a bytes Pending b = (sent_by b.wire ≡ sent_by a.wire) × (b.written ≡ a.written)
