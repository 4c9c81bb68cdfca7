-- Links between agents in the nodes of a plan.
use Rattle.std.specs.Prelude.{◌≡◌, ◌≢◌, ℕ, List, [], ◌++◌, length, Some, slice_get, slice_index_or}
use Rattle.std.specs.List.{All, Contains}
use Rattle.protocol_steps.specs.declared.message.Message.{Message}
use Rattle.worker_laws.specs.OneNode.{home}
use Rattle.worker_laws.specs.Wires.{Wire}
use Rattle.link_records.specs.Differences.{IsLowerLink}
use Rattle.fifo_links.specs.Link.{AreEnds, sent_on, taken_from}
use Rattle.fifo_links.specs.declared.ends.LinkTail.{LinkTail}
use Rattle.fifo_links.specs.declared.ends.LinkHead.{LinkHead}
use Rattle.agent_cells.specs.Links.{Tail, Head}
use Rattle.agent_cells.specs.Settled.{StandsAt, TailJoins, HeadJoins}
use Rattle.agent_links.specs.Links.{AreLinksIn, AreNewLinks, pairs_to, row}
use Rattle.tcp_links.specs.declared.plan.InnerEnds.{InnerEnds}
use Rattle.tcp_links.specs.declared.plan.NodePlan.{NodePlan}
use Rattle.link_records.specs.Left.{fresh_link}
use Rattle.tcp_links.specs.Plans.{IsNewLink, IsSamePlan}

-- a link of the plan leads from a tail of its sender to a head of its receiver, and nothing has
-- passed on it
pub record LeadsBetween (tails : List (List Tail)) (heads : List (List Head)) (w : Wire) (ends : InnerEnds) : Type 0 where
  pub drains : TailJoins (slice_index_or tails w.sender []) w.receiver ends.drain
  pub feeds : HeadJoins (slice_index_or heads w.receiver []) w.sender ends.feed
  pub unsent : sent_on ends.feed ≡ []
  pub untaken : taken_from ends.drain ≡ []
  pub unpassed : w.passages ≡ []

-- of these pairs of a sender and a receiver, each whose two agents are in different nodes has a
-- link from the sender to the receiver; and each link has the sender and the receiver of one of
-- these pairs
pub record KeepsPairs (node : ℕ → ℕ) (links : List Wire) (pairs : List (ℕ × ℕ)) : Type 0 where
  pub each : (i j : ℕ) → Contains pairs (i, j) → node i ≢ node j → (k : ℕ) × (w : Wire) × (slice_get links k ≡ Some w) × (w.sender ≡ i) × (w.receiver ≡ j)
  pub no_other : (k : ℕ) (w : Wire) → slice_get links k ≡ Some w → Contains pairs (w.sender, w.receiver)

module _ {W : Type 0} where
  -- the node of an agent of a plan
  abbrev pub node_in : NodePlan W → ℕ → ℕ
  node_in p agent = home p.nodes p.agents agent

  -- each link of a plan leads from a tail of its sender to a head of its receiver, and nothing has
  -- passed on it
  pub record AllLead (p : NodePlan W) (tails : List (List Tail)) (heads : List (List Head)) : Type 0 where
    pub each : (k : ℕ) (w : Wire) (e : InnerEnds) → slice_get p.kept.items k ≡ Some w → slice_get p.ends.items k ≡ Some e → LeadsBetween tails heads w e

  -- every link so far comes before one from this agent to that
  pub record AreLinksBefore (p : NodePlan W) (from to : ℕ) (tails : List (List Tail)) (heads : List (List Head)) : Type 0 where
    pub kept : All (λ (w : Wire). IsLowerLink w (fresh_link from to)) p.kept.items
    pub at_tails : (i k : ℕ) (t : Tail) → StandsAt (slice_index_or tails i []) k t → IsLowerLink (fresh_link i t.0) (fresh_link from to)
    pub at_heads : (j k : ℕ) (h : Head) → StandsAt (slice_index_or heads j []) k h → IsLowerLink (fresh_link h.0 j) (fresh_link from to)

  -- agents with these neighbours are linked in the nodes of a plan; the plan has a link from each
  -- agent to each of its neighbours in another node, and no other, and nothing has passed on these
  -- links
  pub record AreLinksOver (lists : List (List ℕ)) (p : NodePlan W) (tails : List (List Tail)) (heads : List (List Head)) : Type 0 where
    pub linked : AreLinksIn (node_in p) lists tails heads
    pub leads : AllLead p tails heads
    pub keeps : KeepsPairs (node_in p) p.kept.items (pairs_to lists (length lists))

  -- the outer ends of a new link from one agent to another: in one node those of a ring, with the
  -- plan unchanged; in different nodes those of a link that is added to the plan
  pub record IsNodeLink (before : NodePlan W) (from to : ℕ) (tail : LinkTail (ℕ × Message)) (head : LinkHead (ℕ × Message)) (after : NodePlan W) : Type 0 where
    pub inside : node_in before from ≡ node_in before to → AreEnds tail head × (sent_on tail ≡ []) × (taken_from head ≡ []) × IsSamePlan before after
    pub between : node_in before from ≢ node_in before to → IsNewLink before from to tail head after

  -- new links between these pairs of agents, in the nodes of a plan with this many agents; the plan
  -- has those between nodes and no other
  pub record AreNewOver (p : NodePlan W) (pairs : List (ℕ × ℕ)) (count : ℕ) (tails : List (List Tail)) (heads : List (List Head)) : Type 0 where
    pub links : AreNewLinks (node_in p) pairs count tails heads
    pub leads : AllLead p tails heads
    pub keeps : KeepsPairs (node_in p) p.kept.items pairs

  -- if these were new links, then they are new links still after those from one agent to each of
  -- `tos` were added
  abbrev pub AddLinksOver : ℕ → List ℕ → NodePlan W → List (List Tail) → List (List Head) → NodePlan W → List (List Tail) → List (List Head) → Type 0
  AddLinksOver from tos plan tails heads more more_tails more_heads =
      (pairs : List (ℕ × ℕ)) (count : ℕ) → AreNewOver plan pairs count tails heads → AreNewOver more (pairs ++ row from tos) count more_tails more_heads

  -- if there were no links, then there is now a new link from each agent to each of its neighbours
  abbrev pub AddAllLinksOver : List (List ℕ) → NodePlan W → List (List Tail) → List (List Head) → NodePlan W → List (List Tail) → List (List Head) → Type 0
  AddAllLinksOver lists plan tails heads more more_tails more_heads =
      AreNewOver plan (pairs_to lists 0) (length lists) tails heads → AreNewOver more (pairs_to lists (length lists)) (length lists) more_tails more_heads
