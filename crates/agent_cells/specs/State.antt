-- What contracts see of a cell. The view of its machine is given by `meaning`.
use Rattle.std.specs.Prelude.{◌≡◌, ℕ, Bool, true, false, List, [], Option, None}
use Rattle.std.specs.List.Sorted.{IsStrictlyIncreasing}
use Rattle.std.specs.declared.dyn_box.DynBox.{DynBox}
use Rattle.std.specs.declared.alloc.Global.{Global}
use Rattle.protocol_steps.specs.View.{View, private_of, started_of}
use Rattle.protocol_steps.specs.Stamps.{Deed}
use Rattle.worker_laws.specs.Cells.{CellState, peers, lane}
use Rattle.worker_laws.specs.Visits.{IsStarted}
use Rattle.worker_laws.specs.Acts.{IsLater}
use Rattle.agent_cells.specs.declared.fault.VisitFault.{VisitFault}
use Rattle.agent_cells.specs.declared.cell.Cell.{Cell}
use Rattle.agent_cells.specs.Links.{Tail, Head, lanes_sent, lanes_taken, known_of, AreSameTails, AreSameHeads}

-- an agent that has not started, with stamp 0, an empty journal and no message on its links
pub record IsFreshCell (s : CellState) : Type 0 where
  pub started : started_of s.view ≡ false
  pub stamp : s.stamp ≡ 0
  pub journal : s.journal ≡ []
  pub sent : (j : ℕ) → lane j s.sent ≡ []
  pub taken : (j : ℕ) → lane j s.taken ≡ []

-- the agent of the cell was started, which it had not been before, and made the activations of the
-- journal
pub record HasHistory (s : CellState) : Type 0 where
  pub made : View
  pub unstarted : started_of made ≡ false
  pub first : CellState
  pub deeds : List Deed
  pub started : IsStarted made first
  pub later : IsLater first deeds s

-- the invariant of a cell: its links are those of its agent's neighbours; before its start it is
-- fresh and has no fault; after its start, unless it has failed, it has come from the start by the
-- activations of its journal
pub record IsSoundCell (begun : Bool) (fault : Option VisitFault) (s : CellState) : Type 0 where
  pub me : (private_of s.view).me ≡ s.me
  pub sent : peers s.sent ≡ (private_of s.view).neighbours
  pub taken : peers s.taken ≡ (private_of s.view).neighbours
  pub ascend : IsStrictlyIncreasing (private_of s.view).neighbours
  pub fresh : begun ≡ false → IsFreshCell s
  pub unfailed : begun ≡ false → fault ≡ None
  pub running : begun ≡ true → fault ≡ None → HasHistory s

module _ {X : Type 0} {F : X → Type 0} where
  -- the cell as a plain value
  abbrev pub state_of : (DynBox X Global F → View) → Cell X F → CellState
  state_of meaning c = record {
    me = c.me;
    view = meaning c.machine;
    stamp = c.stamp;
    journal = c.journal;
    sent = lanes_sent c.tails.items;
    taken = lanes_taken c.heads.items;
    known = known_of c.heads.items;
  }

  -- whether the cell has begun: whether `begin` was called on it, even if that call failed
  abbrev pub begun_in : Cell X F → Bool
  begun_in c = c.begun

  -- the fault that the cell returns from now on, if it has failed
  abbrev pub fault_in : Cell X F → Option VisitFault
  fault_in c = c.fault

  -- how often the cell was visited; a visit of a cell that has failed does not count
  abbrev pub visits_in : Cell X F → ℕ
  visits_in c = c.visits.count

  -- the tails of the cell
  abbrev pub tails_in : Cell X F → List Tail
  tails_in c = c.tails.items

  -- the heads of the cell
  abbrev pub heads_in : Cell X F → List Head
  heads_in c = c.heads.items

  -- the cell is sound: what it holds satisfies the invariant of a cell
  abbrev pub IsCell : (DynBox X Global F → View) → Cell X F → Type 0
  IsCell meaning c = IsSoundCell c.begun c.fault (state_of meaning c)

  -- the same ends of links at the same places
  pub record KeepsLinks (before after : Cell X F) : Type 0 where
    pub tails : AreSameTails before.tails.items after.tails.items
    pub heads : AreSameHeads before.heads.items after.heads.items
