-- The agents of a start, as they are made.
use Rattle.std.specs.Prelude.{◌≤◌, List}
use Rattle.dcop_base.specs.Problem.{Dcop}
use Rattle.dcop_base.specs.Limits.{amount_limit}
use Rattle.pseudotree.specs.Pseudotree.{RootedTree, IsPseudotreeOf, IsLinked}
use Rattle.protocol_steps.specs.View.{View}
use Rattle.protocol_steps.specs.TreeAgents.{token_agents, dpop_agents, adopt_agents}
use Rattle.protocol_steps.specs.Network.{Network, start_state}
use Rattle.delivery_core.specs.declared.start.Start.{Start}
use Rattle.delivery_core.specs.declared.start.Start.TheVariants.{Token, Dpop, Adopt}

-- a tree on which the agents of a problem run: a pseudotree of the problem with its separators and
-- lower neighbours, in which each variable except the root is a neighbour of its parent
pub record IsTreeFor (p : Dcop) (tree : RootedTree) : Type 0 where
  pub pseudotree : IsPseudotreeOf p tree
  pub linked : IsLinked p tree.paths

-- a start of the agents of this problem: its tree, if it has one, is one on which they run, and its
-- requested error, if it has one, is at most 2^62
abbrev pub IsStartFor : Dcop → Start → Type 0
IsStartFor p Token = Unit {0}
IsStartFor p (Dpop tree) = IsTreeFor p tree
IsStartFor p (Adopt tree error) = IsTreeFor p tree × (error ≤ amount_limit)

-- the views of the agents of a start, as they are made
abbrev pub agents_of : Dcop → Start → List View
agents_of p Token = token_agents p
agents_of p (Dpop tree) = dpop_agents p tree.paths
agents_of p (Adopt tree error) = adopt_agents p tree.paths error

-- the network in which all agents of a start have started
abbrev pub network_of : Dcop → Start → Network
network_of p start = start_state (agents_of p start)
