-- Why an exchange failed, and what a fault says of a dialer's count.
use Rattle.std.specs.Prelude.{◌≡◌, ℕ, ◌≤◌, List, Result, Ok, Err}
use Rattle.dcop_edge.specs.Faults.{Rose}
use Rattle.worker_laws.specs.Wires.{Wire}
use Rattle.link_records.specs.Differences.{Differs as DifferKept}
use Rattle.node_exchange.specs.declared.fault.PassFault.{PassFault}
use Rattle.node_exchange.specs.declared.fault.PassFault.TheVariants.{Failed as pass_failed, Bytes as pass_bytes, NoMemory as no_pass_memory}
use Rattle.node_exchange.specs.Faults.{IsByteBetween}
use Rattle.node_exchange.specs.Passings.{Passing}
use Rattle.tcp_links.specs.declared.fault.Difference.{Difference}
use Rattle.tcp_links.specs.declared.fault.Difference.TheVariants.{Message, Bytes}
use Rattle.tcp_links.specs.declared.fault.NodeFault.{NodeFault}
use Rattle.tcp_links.specs.declared.fault.NodeFault.TheVariants.{Failed, Differs, NoMemory}

-- the fault of an exchange after `round` rounds
abbrev pub node_fault : ℕ → PassFault → NodeFault
node_fault round pass_failed = Failed
node_fault round (pass_bytes from_node to_node place sent taken) = Differs (Bytes round from_node to_node place sent taken)
node_fault round no_pass_memory = NoMemory

-- the fault is not a difference
abbrev pub IsOtherFault : NodeFault → Type 0
IsOtherFault Failed = Unit {0}
IsOtherFault (Differs d) = ⊥
IsOtherFault NoMemory = Unit {0}

-- a difference is one of bytes between two nodes, met in the exchange after `round` rounds; other
-- faults say nothing
abbrev pub IsByteFaultAfter : ℕ → ℕ → List Passing → NodeFault → Type 0
IsByteFaultAfter nodes round ps Failed = Unit {0}
IsByteFaultAfter nodes round ps (Differs (Message from to at sent taken)) = ⊥
IsByteFaultAfter nodes round ps (Differs (Bytes behind from_node to_node place sent taken)) = (behind ≡ round) × IsByteBetween nodes ps from_node to_node place sent taken
IsByteFaultAfter nodes round ps NoMemory = Unit {0}

-- this is the first difference between what was drained of links and what arrived on them
abbrev pub IsKeptDifference : List Wire → Difference → Type 0
IsKeptDifference ws (Message from to at sent taken) = DifferKept ws from to at sent taken
IsKeptDifference ws (Bytes round from_node to_node place sent taken) = ⊥

-- if the fault is `Failed`, the dialer's count of faults rose, or is at its limit; else it stayed
-- as it was
abbrev pub HasNodeCause : {T : Type 0} → ℕ → ℕ → Result T NodeFault → Type 0
HasNodeCause old new (Ok value) = new ≡ old
HasNodeCause old new (Err Failed) = (old ≤ new) × Rose old new
HasNodeCause old new (Err (Differs d)) = new ≡ old
HasNodeCause old new (Err NoMemory) = new ≡ old
