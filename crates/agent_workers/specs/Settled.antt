-- What settling links does to cells.
use Rattle.std.specs.Prelude.{◌≡◌, ◌≢◌, ℕ, ◌<◌, ◌≤◌, ◌⊎◌, List, length, Some, slice_get, slice_index_or}
use Rattle.std.specs.declared.dyn_box.DynBox.{DynBox}
use Rattle.std.specs.declared.alloc.Global.{Global}
use Rattle.protocol_steps.specs.View.{View}
use Rattle.worker_laws.specs.Cells.{peers, known_from}
use Rattle.worker_laws.specs.Visits.{IsQuiet}
use Rattle.worker_laws.specs.CellRounds.{IsSettled}
use Rattle.worker_laws.specs.OneNode.{home}
use Rattle.agent_cells.specs.declared.cell.Cell.{Cell}
use Rattle.dcop_base.specs.Table.{has}
use Rattle.agent_cells.specs.State.{state_of, begun_in, fault_in, visits_in, IsCell, KeepsLinks}
use Rattle.agent_workers.specs.Joined.{EachBecomes, HaveJoinedEnds}

-- the list has the node of each agent at its place, for this many nodes and agents
pub record AreHomes (nodes agents : ℕ) (homes : List ℕ) : Type 0 where
  pub size : agents ≤ length homes
  pub each : (k d : ℕ) → k < agents → slice_index_or homes k d ≡ home nodes agents k

module _ {X : Type 0} {F : X → Type 0} where
  -- the link from one cell to another may be settled
  pub record CanSettle (meaning : DynBox X Global F → View) (from to : Cell X F) : Type 0 where
    pub from_cell : IsCell meaning from
    pub to_cell : IsCell meaning to
    pub joined : HaveJoinedEnds from to
    pub alike : has (peers (state_of meaning from).sent) to.me ≡ has (peers (state_of meaning to).taken) from.me

  -- nothing of a cell has changed except what it knows of its links
  pub record StaysQuiet (meaning : DynBox X Global F → View) (before after : Cell X F) : Type 0 where
    pub cell : IsCell meaning before → IsCell meaning after
    pub quiet : IsQuiet (state_of meaning before) (state_of meaning after)
    pub links : KeepsLinks before after
    pub begun : begun_in after ≡ begun_in before
    pub fault : fault_in after ≡ fault_in before
    pub visits : visits_in after ≡ visits_in before

  -- the link from one cell to another was settled; the first knows what it knew of its links, and
  -- so does the second of all other links
  pub record HasSettled (meaning : DynBox X Global F → View) (from to from_after to_after : Cell X F) : Type 0 where
    pub from_quiet : StaysQuiet meaning from from_after
    pub from_known : (state_of meaning from_after).known ≡ (state_of meaning from).known
    pub to_quiet : StaysQuiet meaning to to_after
    pub to_known : (k : ℕ) → k ≢ from.me → known_from k (state_of meaning to_after).known ≡ known_from k (state_of meaning to).known
    pub settled : IsSettled to.me from.me (state_of meaning to_after) (state_of meaning from_after)

  -- the link to agent i from agent j was settled, and no other cell has changed
  pub record HasSettledOne (meaning : DynBox X Global F → View) (i j : ℕ) (before after : List (Cell X F)) : Type 0 where
    pub size : length after ≡ length before
    pub did : (d : Cell X F) → HasSettled meaning (slice_index_or before j d) (slice_index_or before i d) (slice_index_or after j d) (slice_index_or after i d)
    pub rest : (k : ℕ) (d : Cell X F) → k ≢ i → k ≢ j → slice_index_or after k d ≡ slice_index_or before k d

  -- the link to agent i from its peer at place p was settled if the peer is in its node; otherwise
  -- nothing has changed
  pub record HasSettledPlace (meaning : DynBox X Global F → View) (node : ℕ → ℕ) (i p : ℕ) (before after : List (Cell X F)) : Type 0 where
    pub peer : ℕ
    pub at : (c : Cell X F) → slice_get before i ≡ Some c → slice_get (peers (state_of meaning c).taken) p ≡ Some peer
    pub did : ((node i ≡ node peer) × HasSettledOne meaning i peer before after) ⊎ ((node i ≢ node peer) × (after ≡ before))

  -- of the links to agent i, those from its first `count` peers were settled if the peer is in its
  -- node; agent i knows what it knew of links from other nodes, and every other cell what it knew
  -- of all its links
  pub record HasSettledTo (meaning : DynBox X Global F → View) (node : ℕ → ℕ) (i count : ℕ) (before after : List (Cell X F)) : Type 0 where
    pub quiet : EachBecomes (StaysQuiet meaning) before after
    pub others : (k : ℕ) (a b : Cell X F) → slice_get before k ≡ Some a → slice_get after k ≡ Some b → k ≢ i → (state_of meaning b).known ≡ (state_of meaning a).known
    pub settled : (p j : ℕ) (to from : Cell X F) → slice_get after i ≡ Some to → slice_get after j ≡ Some from → node i ≡ node j → p < count → slice_get (peers (state_of meaning to).taken) p ≡ Some j → IsSettled i j (state_of meaning to) (state_of meaning from)
    pub kept : (j : ℕ) (a b : Cell X F) → slice_get before i ≡ Some a → slice_get after i ≡ Some b → node i ≢ node j → known_from j (state_of meaning b).known ≡ known_from j (state_of meaning a).known

  -- all links to the first `count` agents from agents of the same node were settled; of links
  -- between nodes each cell knows what it knew
  pub record HaveSettled (meaning : DynBox X Global F → View) (node : ℕ → ℕ) (count : ℕ) (before after : List (Cell X F)) : Type 0 where
    pub quiet : EachBecomes (StaysQuiet meaning) before after
    pub settled : (i j : ℕ) (to from : Cell X F) → slice_get after i ≡ Some to → slice_get after j ≡ Some from → node i ≡ node j → i < count → IsSettled i j (state_of meaning to) (state_of meaning from)
    pub kept : (i j : ℕ) (a b : Cell X F) → slice_get before i ≡ Some a → slice_get after i ≡ Some b → node i ≢ node j → known_from j (state_of meaning b).known ≡ known_from j (state_of meaning a).known
