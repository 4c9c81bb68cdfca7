-- How a dialer's calls change its count of faults, and what the wires of a new pair tell.
use Rattle.std.specs.Prelude.{◌≡◌, ◌≤◌, ℕ, List, [], Option, Some, None, Result, Ok, Err}
use Rattle.dcop_edge.specs.Faults.{Rose, one_more}
use Rattle.wire_pump.specs.Wire.{Told}
use Rattle.wire_pump.specs.declared.dialer.DialFault.{DialFault}
use Rattle.wire_pump.specs.declared.dialer.DialFault.TheVariants.{Failed, NoMemory}

-- the count of faults rose if the call failed, and stayed as it was if the call succeeded or ran
-- out of memory
abbrev pub HasDialCause : {T : Type 0} → ℕ → ℕ → Result T DialFault → Type 0
HasDialCause old new (Ok value) = new ≡ old
HasDialCause old new (Err Failed) = (old ≤ new) × Rose old new
HasDialCause old new (Err NoMemory) = new ≡ old

-- these bytes are not told; or they are told, and there are none
abbrev pub IsNothing : Option (List ℕ) → Type 0
IsNothing None = Unit {0}
IsNothing (Some text) = text ≡ []

-- the end of a new stream: all counts are 0, and if it tells its bytes it has sent and received
-- none
pub record IsNew (t : Told) : Type 0 where
  pub sent : IsNothing t.sent
  pub received : IsNothing t.received
  pub sent_count : t.sent_count ≡ 0
  pub received_count : t.received_count ≡ 0
  pub write_waits : t.write_waits ≡ 0
  pub read_waits : t.read_waits ≡ 0
  pub faults : t.faults ≡ 0

-- an end that tells its bytes, and has sent and received none
pub record TellsNothing (t : Told) : Type 0 where
  pub sent : t.sent ≡ Some []
  pub received : t.received ≡ Some []

-- the count of pairs goes up by one if a pair was made, and stays as it was if not
abbrev pub CountsPair : {T : Type 0} → ℕ → Result T DialFault → ℕ → Type 0
CountsPair old (Ok pair) new = new ≡ one_more old
CountsPair old (Err fault) new = new ≡ old
