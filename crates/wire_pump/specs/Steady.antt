-- The two ends of a stream in memory. Each has a ring into which it sends and a ring from which it
-- receives; looking at both ends pours the one into the other.
use Rattle.std.specs.Prelude.{⊤, ◌≡◌, ◌≢◌, ◌+◌, ◌⊎◌, ℕ, List, [], ◌++◌, length, take, Some, not, Result, Ok, Err}
use mathlib.Core.List.{IsPrefix}
use Rattle.futures.specs.declared.task.Poll.{Poll}
use Rattle.futures.specs.declared.task.Poll.TheVariants.{Ready, Pending}
use Rattle.dcop_edge.specs.declared.fault.Failed.{Failed}
use Rattle.wire_pump.specs.Wire.{Told}
use Rattle.wire_pump.specs.Ring.{put_into, taken_from, known_in, ring_bytes, IsPoured}
use Rattle.wire_pump.specs.declared.steady.SteadyWire.{SteadyWire}
use Rattle.wire_pump.specs.declared.steady.SteadyDialer.{SteadyDialer}

-- all bytes that an end has sent, and all that it has received
abbrev pub sent_by : SteadyWire → List ℕ
sent_by w = put_into w.outgoing

abbrev pub received_by : SteadyWire → List ℕ
received_by w = taken_from w.incoming

-- how many more bytes an end knows that it may send, and the received bytes that it knows of; and
-- what such an end tells
abbrev pub known_room : SteadyWire → ℕ
known_room w = w.room

abbrev pub known_bytes : SteadyWire → List ℕ
known_bytes w = known_in w.incoming

abbrev pub steady_told : SteadyWire → Told
steady_told w = record {
  sent = Some (sent_by w);
  received = Some (received_by w);
  sent_count = w.sent_count;
  received_count = w.received_count;
  write_waits = w.write_waits;
  read_waits = w.read_waits;
  faults = 0;
}

-- the two ends of one stream, with rings that are poured into each other
pub record AreJoined (a b : SteadyWire) : Type 0 where
  pub pair : a.pair ≡ b.pair
  pub ends : a.is_first ≡ not b.is_first
  pub there : IsPoured a.room a.outgoing b.incoming
  pub back : IsPoured b.room b.outgoing a.incoming

-- two ends that are not the two ends of one stream
abbrev pub AreApart : SteadyWire → SteadyWire → Type 0
AreApart a b = (a.pair ≢ b.pair) ⊎ (a.is_first ≡ b.is_first)

-- the number of the stream
abbrev pub stream_of : SteadyWire → ℕ
stream_of w = w.pair

-- an end that may send as many bytes as a ring can hold, and knows of none to receive
pub record IsIdle (w : SteadyWire) : Type 0 where
  pub room : known_room w ≡ ring_bytes
  pub none : known_bytes w ≡ []

-- an end may send as many bytes as before, and knows of the same bytes to receive
pub record KnowsSame (a b : SteadyWire) : Type 0 where
  pub room : known_room b ≡ known_room a
  pub bytes : known_bytes b ≡ known_bytes a

-- what an end knows after a poll for writing: it may send fewer bytes by as many as it sent
abbrev pub KnowsWrote : SteadyWire → Poll (Result ℕ Failed) → SteadyWire → Type 0
KnowsWrote a (Ready (Ok count)) b = (known_room b + count ≡ known_room a) × (known_bytes b ≡ known_bytes a)
KnowsWrote a (Ready (Err failed)) b = KnowsSame a b
KnowsWrote a Pending b = KnowsSame a b

-- what an end knows after a poll for reading: the bytes that it knew of come first among those that
-- it gave and those that it still knows of
abbrev pub KnowsRead : SteadyWire → List ℕ → Poll (Result ℕ Failed) → SteadyWire → Type 0
KnowsRead a filled (Ready (Ok count)) b = (known_room b ≡ known_room a) × IsPrefix (known_bytes a) (take count filled ++ known_bytes b)
KnowsRead a filled (Ready (Err failed)) b = KnowsSame a b
KnowsRead a filled Pending b = (known_room b ≡ known_room a) × IsPrefix (known_bytes a) (known_bytes b)

-- two ends of one stream that know all bytes which either direction holds, and how many more may be
-- sent
pub record KnowAll (a b : SteadyWire) : Type 0 where
  pub there : received_by b ++ known_bytes b ≡ sent_by a
  pub back : received_by a ++ known_bytes a ≡ sent_by b
  pub room_there : known_room a + length (known_bytes b) ≡ ring_bytes
  pub room_back : known_room b + length (known_bytes a) ≡ ring_bytes

-- a dialer of such streams counts no faults, and promises that the two wires of each pair are
-- joined
abbrev pub steady_faults : SteadyDialer → ℕ
steady_faults d = 0

abbrev pub steady_honest : SteadyDialer → Type 0
steady_honest d = ⊤
