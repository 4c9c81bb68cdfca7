-- The agents of a problem in nodes, each with the ends of its links.
use Rattle.std.specs.Prelude.{◌≡◌, List}
use Rattle.dcop_base.specs.Problem.{Dcop}
use Rattle.agent_cells.specs.Links.{Tail, Head}
use Rattle.delivery_core.specs.declared.start.Start.{Start}
use Rattle.agent_links.specs.declared.seat.Seat.{Seat}
use Rattle.agent_links.specs.Seats.{all_neighbours, AreSeated}
use Rattle.tcp_links.specs.declared.plan.NodePlan.{NodePlan}
use Rattle.tcp_links.specs.Plans.{IsPlan}
use Rattle.node_seats.specs.Links.{AreLinksOver}

module _ {W : Type 0} where
  -- a plan is still valid, and has the same agents, nodes and wires as before
  pub record IsSameFrame (before after : NodePlan W) : Type 0 where
    pub plan : IsPlan after
    pub agents : after.agents ≡ before.agents
    pub nodes : after.nodes ≡ before.nodes
    pub wires : after.wires.items ≡ before.wires.items

  -- the agents of a start in the nodes of a plan, each with the ends of the links to and from its
  -- neighbours
  pub record AreSeatsOver (p : Dcop) (start : Start) (plan : NodePlan W) (seats : List Seat) : Type 0 where
    pub tails : List (List Tail)
    pub heads : List (List Head)
    pub linked : AreLinksOver (all_neighbours p) plan tails heads
    pub seated : AreSeated p start tails heads seats
