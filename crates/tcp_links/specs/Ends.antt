-- How a run in nodes ended.
use Rattle.std.specs.Prelude.{◌≡◌, ℕ, ◌+◌, ◌<◌, ◌⊎◌, List, length, Option}
use Rattle.std.specs.declared.dyn_box.DynBox.{DynBox}
use Rattle.std.specs.declared.alloc.Global.{Global}
use Rattle.protocol_steps.specs.declared.message.Message.{Message as Sent}
use Rattle.protocol_steps.specs.View.{View}
use Rattle.worker_laws.specs.Cells.{CellState, EachAre}
use Rattle.worker_laws.specs.CellRounds.{AreStarted, total}
use Rattle.worker_laws.specs.OneNode.{home}
use Rattle.worker_laws.specs.Wires.{Wire, HaveHeld}
use Rattle.worker_laws.specs.Exchanges.{IsExchange}
use Rattle.worker_laws.specs.NodeRounds.{IsNodeEnd, ArePlayedOver}
use Rattle.worker_laws.specs.NodeStamps.{AreBrokenOver}
use Rattle.worker_laws.specs.StampCounts.{IsMoved}
use Rattle.agent_cells.specs.declared.cell.Cell.{Cell}
use Rattle.agent_cells.specs.declared.fault.VisitFault.TheVariants.{NoMemory as no_visit_memory}
use Rattle.agent_workers.specs.Joined.{states_of}
use Rattle.agent_workers.specs.Turns.{sprint_limit}
use Rattle.agent_workers.specs.Run.{views_of}
use Rattle.agent_workers.specs.Broken.{ArePartlyPlayed, HaveStartedPartly}
use Rattle.link_records.specs.Left.{IsRenewed}
use Rattle.link_records.specs.Differences.{Differs as DifferKept}
use Rattle.tcp_links.specs.declared.fault.Difference.{Difference}
use Rattle.tcp_links.specs.declared.fault.Difference.TheVariants.{Message, Bytes}
use Rattle.tcp_links.specs.declared.fault.NodeFault.{NodeFault}
use Rattle.tcp_links.specs.declared.fault.NodeFault.TheVariants.{Failed, Differs, NoMemory}
use Rattle.tcp_links.specs.declared.plan.InnerEnds.{InnerEnds}
use Rattle.tcp_links.specs.declared.plan.NodePlan.{NodePlan}
use Rattle.node_exchange.specs.Faults.{IsByteBetween}
use Rattle.node_exchange.specs.Passings.{Passing}
use Rattle.tcp_links.specs.Broken.{IsPartExchange, IsLostExchange}
use Rattle.tcp_links.specs.Kept.{AreLinksKept}
use Rattle.tcp_links.specs.Over.{IsDrainedOf}

-- from the start on, cells were played in `count` rounds, the last of which may have been broken
-- off
abbrev pub AreThere : (ℕ → ℕ) → ℕ → List Wire → List CellState → List Wire → List CellState → ℕ → Type 0
AreThere node budget begun started wires now count =
    ((p : ArePlayedOver node budget begun started wires now) × (length p.rounds ≡ count))
    ⊎ ((stood : List CellState) × (b : AreBrokenOver node budget begun started wires stood now) × (length b.played.rounds + 1 ≡ count))

-- after `round` rounds, an exchange was broken off before any link had passed anything
pub record HasLostOver (node : ℕ → ℕ) (budget : ℕ) (begun : List Wire) (started : List CellState) (round : ℕ) (left : List Wire) (last : List CellState) : Type 0 where
  pub wires : List Wire
  pub now : List CellState
  pub there : AreThere node budget begun started wires now round
  pub lost : IsLostExchange wires left now last

-- after `round` rounds, an exchange was broken off before any link had passed anything. In it, one
-- node sent to another what its agents had sent to agents of the other, except what earlier
-- exchanges had drained already. What came is not the frames of letters on the links from the one
-- to the other, and this is the first byte that differs from what was sent
pub record HasOtherByte (nodes : ℕ) (node : ℕ → ℕ) (budget : ℕ) (begun : List Wire) (started : List CellState) (left : List Wire) (last : List CellState) (round from_node to_node place : ℕ) (sent taken : Option ℕ) : Type 0 where
  pub behind : HasLostOver node budget begun started round left last
  pub passings : List Passing
  pub drained : EachAre (IsDrainedOf node behind.now) left passings
  pub other : IsByteBetween nodes passings from_node to_node place sent taken

-- after the rounds, one exchange more and a last settling: on the lowest link that differs, these
-- are the envelope that was drained and the one that arrived at the first place where they differ;
-- one of them may be missing. At that time each link's passages had exactly what went through its
-- inner ends; afterwards the link that differs was replaced by a new one (`IsRenewed`)
pub record HasOtherMessage (node : ℕ → ℕ) (budget : ℕ) (begun : List Wire) (started : List CellState) (left : List Wire) (ends : List InnerEnds) (last : List CellState) (from to at : ℕ) (sent taken : Option (ℕ × Sent)) : Type 0 where
  pub count : ℕ
  pub wires : List Wire
  pub now : List CellState
  pub there : AreThere node budget begun started wires now count
  pub passed : List Wire
  pub end : IsNodeEnd node wires passed now last
  pub noted : AreLinksKept passed ends
  pub differs : DifferKept passed from to at sent taken
  pub renewed : IsRenewed passed from to left

-- what holds when a run met this difference: `HasOtherMessage` if it is one of two envelopes,
-- `HasOtherByte` if it is one of two bytes
abbrev pub IsDifference : ℕ → (ℕ → ℕ) → ℕ → List Wire → List CellState → List Wire → List InnerEnds → List CellState → Difference → Type 0
IsDifference nodes node budget begun started left ends last (Message from to at sent taken) = HasOtherMessage node budget begun started left ends last from to at sent taken
IsDifference nodes node budget begun started left ends last (Bytes round from_node to_node place sent taken) = HasOtherByte nodes node budget begun started left last round from_node to_node place sent taken

-- after some rounds, an exchange was broken off
pub record HasPartExchange (node : ℕ → ℕ) (budget : ℕ) (begun : List Wire) (started : List CellState) (left : List Wire) (last : List CellState) : Type 0 where
  pub count : ℕ
  pub wires : List Wire
  pub now : List CellState
  pub there : AreThere node budget begun started wires now count
  pub part : IsPartExchange wires left now last

module _ {X : Type 0} {F : X → Type 0} where
  -- after some rounds under the budget and one exchange more, a part of a round was played; in it
  -- at most `workers` cells have failed because memory ran out
  pub record HavePlayedPartly (meaning : DynBox X Global F → View) (node : ℕ → ℕ) (workers budget : ℕ) (begun : List Wire) (started : List CellState) (left : List Wire) (last : List (Cell X F)) : Type 0 where
    pub wires : List Wire
    pub now : List CellState
    pub played : ArePlayedOver node budget begun started wires now
    pub less : total now < budget
    pub ready : List CellState
    pub exchange : IsExchange node wires left now ready
    pub partly : ArePartlyPlayed meaning no_visit_memory IsMoved sprint_limit workers ready last

  -- what holds when cells that had started met this fault: the rounds in which they had been
  -- played, and the state in which the links and their inner ends were left
  abbrev pub IsFaultOver : (DynBox X Global F → View) → ℕ → (ℕ → ℕ) → ℕ → ℕ → List Wire → List CellState → List Wire → List InnerEnds → List (Cell X F) → NodeFault → Type 0
  IsFaultOver meaning nodes node workers budget begun started left ends last Failed = (round : ℕ) × HasLostOver node budget begun started round left (states_of meaning last)
  IsFaultOver meaning nodes node workers budget begun started left ends last (Differs d) = IsDifference nodes node budget begun started left ends (states_of meaning last) d
  IsFaultOver meaning nodes node workers budget begun started left ends last NoMemory = HasPartExchange node budget begun started left (states_of meaning last) ⊎ HavePlayedPartly meaning node workers budget begun started left last

module _ {W : Type 0} where
  -- agents made with these views have started; their cells were played in rounds over the links of
  -- the plan, and one exchange more and a last settling followed; on each link exactly what each
  -- exchange drained arrived
  pub record HasHeldOver (budget : ℕ) (made : List View) (p : NodePlan W) (last : List CellState) : Type 0 where
    pub started : List CellState
    pub starts : AreStarted made started
    pub wires : List Wire
    pub now : List CellState
    pub played : ArePlayedOver (home p.nodes p.agents) budget p.kept.items started wires now
    pub passed : List Wire
    pub end : IsNodeEnd (home p.nodes p.agents) wires passed now last
    pub held : HaveHeld passed

module _ {X : Type 0} {F : X → Type 0} {W : Type 0} where
  -- the agents of these cells have started, and their run over the links of the plan has come to
  -- this fault
  pub record HasComeTo (meaning : DynBox X Global F → View) (workers budget : ℕ) (p : NodePlan W) (made : List (Cell X F)) (left : List Wire) (ends : List InnerEnds) (last : List (Cell X F)) (e : NodeFault) : Type 0 where
    pub started : List CellState
    pub starts : AreStarted (views_of meaning made) started
    pub fault : IsFaultOver meaning p.nodes (home p.nodes p.agents) workers budget p.kept.items started left ends last e

  -- memory ran out before all agents had started; no link has passed anything, and its inner ends
  -- are as they were
  pub record HasNotStarted (meaning : DynBox X Global F → View) (p : NodePlan W) (made : List (Cell X F)) (left : List Wire) (ends : List InnerEnds) (last : List (Cell X F)) : Type 0 where
    pub none : left ≡ p.kept.items
    pub same : ends ≡ p.ends.items
    pub cells : (last ≡ made) ⊎ HaveStartedPartly meaning made last

  -- what a fault leaves of cells, of the links of a plan and of their inner ends
  abbrev pub IsLeftBy : (DynBox X Global F → View) → ℕ → ℕ → NodePlan W → List (Cell X F) → List Wire → List InnerEnds → List (Cell X F) → NodeFault → Type 0
  IsLeftBy meaning workers budget p made left ends last Failed = HasComeTo meaning workers budget p made left ends last Failed
  IsLeftBy meaning workers budget p made left ends last (Differs d) = HasComeTo meaning workers budget p made left ends last (Differs d)
  IsLeftBy meaning workers budget p made left ends last NoMemory = HasNotStarted meaning p made left ends last ⊎ HasComeTo meaning workers budget p made left ends last NoMemory
