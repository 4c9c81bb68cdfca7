-- Why an exchange did not deliver what it drained, and what a fault says of a dialer's count.
use Rattle.std.specs.Prelude.{◌≡◌, ◌≢◌, ℕ, ◌<◌, ◌≤◌, List, Option, Result, Ok, Err}
use Rattle.dcop_edge.specs.Faults.{Rose}
use Rattle.wire_pump.specs.declared.dialer.DialFault.{DialFault}
use Rattle.wire_pump.specs.declared.dialer.DialFault.TheVariants.{Failed as dial_failed, NoMemory as no_dial_memory}
use Rattle.node_exchange.specs.declared.fault.PassFault.{PassFault}
use Rattle.node_exchange.specs.declared.fault.PassFault.TheVariants.{Failed, Bytes, NoMemory}
use Rattle.node_exchange.specs.Passings.{Passing, IsOtherByte}

-- the fault of a dialer, as one of an exchange
abbrev pub dial_fault : DialFault → PassFault
dial_fault dial_failed = Failed
dial_fault no_dial_memory = NoMemory

-- the fault is not one of bytes that differ
abbrev pub IsNoDifference : PassFault → Type 0
IsNoDifference Failed = Unit {0}
IsNoDifference (Bytes from_node to_node place sent taken) = ⊥
IsNoDifference NoMemory = Unit {0}

-- two different nodes with numbers below `nodes`
pub record AreTwo (nodes first second : ℕ) : Type 0 where
  pub first_in : first < nodes
  pub second_in : second < nodes
  pub apart : first ≢ second

-- between two different nodes, what came is not the frames of letters on the links from the one to
-- the other, and this is the first byte that differs from what was sent
pub record IsByteBetween (nodes : ℕ) (ps : List Passing) (from_node to_node place : ℕ) (sent taken : Option ℕ) : Type 0 where
  pub two : AreTwo nodes from_node to_node
  pub came : List ℕ
  pub other : IsOtherByte ps from_node to_node came place sent taken

-- a fault of bytes gives the first byte that differs; other faults say nothing
abbrev pub IsByteFault : ℕ → List Passing → PassFault → Type 0
IsByteFault nodes ps Failed = Unit {0}
IsByteFault nodes ps (Bytes from_node to_node place sent taken) = IsByteBetween nodes ps from_node to_node place sent taken
IsByteFault nodes ps NoMemory = Unit {0}

-- if the fault is `Failed`, the dialer's count of faults rose, or is at its limit; else it stayed
-- as it was
abbrev pub HasPassCause : {T : Type 0} → ℕ → ℕ → Result T PassFault → Type 0
HasPassCause old new (Ok value) = new ≡ old
HasPassCause old new (Err Failed) = (old ≤ new) × Rose old new
HasPassCause old new (Err (Bytes from_node to_node place sent taken)) = new ≡ old
HasPassCause old new (Err NoMemory) = new ≡ old

-- the fault is not that of a dialer or a wire
abbrev pub IsNoFailure : PassFault → Type 0
IsNoFailure Failed = ⊥
IsNoFailure (Bytes from_node to_node place sent taken) = Unit {0}
IsNoFailure NoMemory = Unit {0}
