-- How the agents of a problem are connected, and what a call on them says about the links between
-- nodes.
use Rattle.std.specs.Prelude.{◌≡◌, ℕ, ◌<◌, ◌≤◌, Result, Ok, Err}
use Rattle.dcop_edge.specs.Faults.{Rose}
use Rattle.dcop_base.specs.Problem.{Dcop}
use Rattle.delivery_core.specs.declared.start.Start.{Start}
use Rattle.wire_pump.specs.Wire.{Told}
use Rattle.wire_pump.specs.Dialer.{IsNew}
use Rattle.tcp_links.specs.declared.fault.NodeFault.{NodeFault}
use Rattle.tcp_links.specs.declared.fault.NodeFault.TheVariants.{Failed, Differs, NoMemory}
use Rattle.tcp_links.specs.Plans.{IsNewPlan, IsHonest}
use Rattle.solve_agents.specs.declared.nodes.Wiring.{Wiring}
use Rattle.solve_agents.specs.declared.nodes.Wiring.TheVariants.{Rings, Nodes}
use Rattle.solve_agents.specs.Differing.{HaveDiffered}

module _ {W : Type 0} where
  -- the number of nodes of a wiring
  abbrev pub nodes_in : Wiring W → ℕ
  nodes_in Rings = 1
  nodes_in (Nodes plan) = plan.nodes

  -- a wiring for this number of agents: rings, or a plan for them of more than one node that has no
  -- link yet
  abbrev pub IsWiringFor : ℕ → Wiring W → Type 0
  IsWiringFor agents Rings = Unit {0}
  IsWiringFor agents (Nodes plan) = IsNewPlan agents plan.nodes plan × (1 < plan.nodes)

module _ {W : Type 0} (told : W → Told) (is_joined : W → W → Type 0) where
  -- the two wires of each pair of nodes are joined
  abbrev pub IsHonestWiring : Wiring W → Type 0
  IsHonestWiring Rings = Unit {0}
  IsHonestWiring (Nodes plan) = IsHonest told is_joined plan

-- some wire is the end of a new stream. (Code that is generic over the dialer can get such a wire
-- only from its dialer.)
pub record HasNewWire {W : Type 0} (told : W → Told) : Type 0 where
  pub wire : W
  pub new : IsNew (told wire)

-- some wire is the end of a new stream, and `honest`, the statement that the dialer is honest, does
-- not hold
abbrev pub HasUntrustedWire : {W : Type 0} → (W → Told) → Type 0 → Type 0
HasUntrustedWire told honest = (¬ honest) × HasNewWire told

-- one of three faults of a problem's agents in this number of nodes, in a phase of this kind. The
-- links failed; then the dialer's count of faults rose, and only then. Or it is a difference that
-- agents of the problem may find; then `untrusted` holds, the statement that the wires between the
-- nodes, or the dialer that gave them, are not honest. Or memory ran out. With one node, no fault
-- but the last one happens
abbrev pub IsNodesFaultOf : Dcop → (Start → ℕ → Type 0) → ℕ → Type 0 → ℕ → ℕ → NodeFault → Type 0
IsNodesFaultOf p is_phase nodes untrusted old new Failed = (1 < nodes) × (old ≤ new) × Rose old new
IsNodesFaultOf p is_phase nodes untrusted old new (Differs d) = (1 < nodes) × (new ≡ old) × untrusted × HaveDiffered p is_phase nodes d
IsNodesFaultOf p is_phase nodes untrusted old new NoMemory = new ≡ old

-- a call on a problem's agents leaves the dialer's count of faults unchanged, or ends in such a
-- fault
abbrev pub MayFail : {T : Type 0} → Dcop → (Start → ℕ → Type 0) → ℕ → Type 0 → ℕ → ℕ → Result T NodeFault → Type 0
MayFail p is_phase nodes untrusted old new (Ok value) = new ≡ old
MayFail p is_phase nodes untrusted old new (Err fault) = IsNodesFaultOf p is_phase nodes untrusted old new fault
