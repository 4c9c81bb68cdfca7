-- Cells whose links between nodes are those of a plan.
use Rattle.std.specs.Prelude.{◌≡◌, ◌≢◌, ℕ, List, [], length, Some, slice_get}
use Rattle.std.specs.List.{Contains}
use Rattle.std.specs.declared.dyn_box.DynBox.{DynBox}
use Rattle.std.specs.declared.alloc.Global.{Global}
use Rattle.protocol_steps.specs.View.{View}
use Rattle.worker_laws.specs.Cells.{peers}
use Rattle.worker_laws.specs.OneNode.{home}
use Rattle.worker_laws.specs.Wires.{Wire}
use Rattle.fifo_links.specs.Link.{sent_on, taken_from}
use Rattle.agent_cells.specs.declared.cell.Cell.{Cell}
use Rattle.agent_cells.specs.Settled.{TailJoins, HeadJoins}
use Rattle.agent_cells.specs.State.{state_of, tails_in, heads_in}
use Rattle.tcp_links.specs.declared.plan.InnerEnds.{InnerEnds}
use Rattle.tcp_links.specs.declared.plan.NodePlan.{NodePlan}

module _ {X : Type 0} {F : X → Type 0} where
  -- the inner ends of a link belong to its two cells, and nothing has passed on it
  pub record LeadsOver (from to : Cell X F) (w : Wire) (ends : InnerEnds) : Type 0 where
    pub drains : TailJoins (tails_in from) w.receiver ends.drain
    pub feeds : HeadJoins (heads_in to) w.sender ends.feed
    pub unsent : sent_on ends.feed ≡ []
    pub untaken : taken_from ends.drain ≡ []
    pub unpassed : w.passages ≡ []

  -- there is one cell for each agent; each link of the plan leads from a cell to one of its peers,
  -- and nothing has passed on it; each cell has a link to each of its peers in another node
  pub record AreLinkedOver {W : Type 0} (meaning : DynBox X Global F → View) (p : NodePlan W) (cells : List (Cell X F)) : Type 0 where
    pub size : length cells ≡ p.agents
    pub leads : (k : ℕ) (w : Wire) (ends : InnerEnds) (from to : Cell X F) → slice_get p.kept.items k ≡ Some w → slice_get p.ends.items k ≡ Some ends
        → slice_get cells w.sender ≡ Some from → slice_get cells w.receiver ≡ Some to → LeadsOver from to w ends
    pub peers_are : (k : ℕ) (w : Wire) (from : Cell X F) → slice_get p.kept.items k ≡ Some w → slice_get cells w.sender ≡ Some from → Contains (peers (state_of meaning from).sent) w.receiver
    pub every : (i j : ℕ) (from : Cell X F) → slice_get cells i ≡ Some from → Contains (peers (state_of meaning from).sent) j → home p.nodes p.agents i ≢ home p.nodes p.agents j
        → (k : ℕ) × (w : Wire) × (slice_get p.kept.items k ≡ Some w) × (w.sender ≡ i) × (w.receiver ≡ j)
