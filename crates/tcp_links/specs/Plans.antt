-- A plan of nodes: its wires and its links.
use Rattle.std.specs.Prelude.{◌≡◌, ◌≢◌, ℕ, ◌-◌, ◌*◌, ◌/◌, ◌<◌, ◌≤◌, List, [], length, Some, slice_get}
use Rattle.std.specs.List.{All, insert}
use Rattle.dcop_base.specs.Limits.{variable_limit, node_limit}
use Rattle.protocol_steps.specs.declared.message.Message.{Message}
use Rattle.worker_laws.specs.OneNode.{home}
use Rattle.worker_laws.specs.Wires.{Wire, AreApart}
use Rattle.link_records.specs.Differences.{IsLowerLink}
use Rattle.link_records.specs.Left.{fresh_link}
use Rattle.fifo_links.specs.declared.ends.LinkTail.{LinkTail}
use Rattle.fifo_links.specs.declared.ends.LinkHead.{LinkHead}
use Rattle.fifo_links.specs.Link.{AreEnds, sent_on, taken_from}
use Rattle.wire_pump.specs.Wire.{Told}
use Rattle.wire_pump.specs.Dialer.{IsNew}
use Rattle.node_exchange.specs.Honest.{AreHonest}
use Rattle.tcp_links.specs.declared.plan.InnerEnds.{InnerEnds}
use Rattle.tcp_links.specs.declared.plan.NodePlan.{NodePlan}

-- the number of pairs of nodes
abbrev pub pair_count : ℕ → ℕ
pair_count nodes = nodes * (nodes - 1) / 2

-- a link leads from one agent to another in a different node
pub record IsBetween (agents nodes : ℕ) (w : Wire) : Type 0 where
  pub sender : w.sender < agents
  pub receiver : w.receiver < agents
  pub apart : home nodes agents w.sender ≢ home nodes agents w.receiver

-- links are in order, by sender and then receiver
abbrev pub AreOrdered : List Wire → Type 0
AreOrdered ws = (k l : ℕ) (v w : Wire) → slice_get ws k ≡ Some v → slice_get ws l ≡ Some w → k < l → IsLowerLink v w

-- a new link from one agent to another belongs at this position among others: those below come
-- before it, and it comes before the rest
pub record BelongsAt (ws : List Wire) (from to place : ℕ) : Type 0 where
  pub inside : place ≤ length ws
  pub below : (k : ℕ) (w : Wire) → slice_get ws k ≡ Some w → k < place → IsLowerLink w (fresh_link from to)
  pub above : (k : ℕ) (w : Wire) → slice_get ws k ≡ Some w → place ≤ k → IsLowerLink (fresh_link from to) w

module _ {W : Type 0} where
  -- a plan: up to 1,000 agents in up to 8 nodes, a pair of wires for each pair of nodes, and inner
  -- ends for each link; the links lead between different nodes, are in order, and no two have the
  -- same sender and receiver
  pub record IsPlan (p : NodePlan W) : Type 0 where
    pub agents : (0 < p.agents) × (p.agents ≤ variable_limit)
    pub nodes : (0 < p.nodes) × (p.nodes ≤ node_limit)
    pub wires : length p.wires.items ≡ pair_count p.nodes
    pub ends : length p.ends.items ≡ length p.kept.items
    pub between : All (IsBetween p.agents p.nodes) p.kept.items
    pub apart : AreApart p.kept.items
    pub ordered : AreOrdered p.kept.items

  -- a plan for this many agents in this many nodes, without links
  pub record IsNewPlan (agents nodes : ℕ) (p : NodePlan W) : Type 0 where
    pub plan : IsPlan p
    pub agents_are : p.agents ≡ agents
    pub nodes_are : p.nodes ≡ nodes
    pub no_link : p.kept.items ≡ []

  -- there is no link from this agent to that one
  pub record HasNoLink (p : NodePlan W) (from to : ℕ) : Type 0 where
    pub none : (k : ℕ) (w : Wire) → slice_get p.kept.items k ≡ Some w → w.sender ≡ from → w.receiver ≢ to

  -- the plan has one link more, from this agent to that one, at its position among the others;
  -- nothing has passed on it, and these are its outer ends
  pub record IsNewLink (before : NodePlan W) (from to : ℕ) (tail : LinkTail (ℕ × Message)) (head : LinkHead (ℕ × Message)) (after : NodePlan W) : Type 0 where
    pub place : ℕ
    pub ends : InnerEnds
    pub at : BelongsAt before.kept.items from to place
    pub kept_is : after.kept.items ≡ insert before.kept.items place (fresh_link from to)
    pub ends_is : after.ends.items ≡ insert before.ends.items place ends
    pub drains : AreEnds tail ends.drain
    pub feeds : AreEnds ends.feed head
    pub unsent : (sent_on tail ≡ []) × (sent_on ends.feed ≡ [])
    pub untaken : (taken_from ends.drain ≡ []) × (taken_from head ≡ [])
    pub same : (after.agents ≡ before.agents) × (after.nodes ≡ before.nodes) × (after.wires.items ≡ before.wires.items)

  -- the plan has the same agents, nodes, wires and links as before
  pub record IsSamePlan (before after : NodePlan W) : Type 0 where
    pub agents : after.agents ≡ before.agents
    pub nodes : after.nodes ≡ before.nodes
    pub wires : after.wires.items ≡ before.wires.items
    pub kept : after.kept.items ≡ before.kept.items
    pub ends : after.ends.items ≡ before.ends.items

-- both wires of each pair are ends of new streams
abbrev pub AreNewWires : {W : Type 0} → (W → Told) → List (W × W) → Type 0
AreNewWires told pairs = All (λ pair. IsNew (told pair.0) × IsNew (told pair.1)) pairs

module _ {W : Type 0} (told : W → Told) (is_joined : W → W → Type 0) where
  -- the two wires of each pair are joined, and each has received all that the other has sent
  abbrev pub IsHonest : NodePlan W → Type 0
  IsHonest p = AreHonest told is_joined p.wires.items
