-- A round, and a run, that was broken off by a fault.
use Rattle.std.specs.Prelude.{◌≡◌, ◌≢◌, ℕ, ◌+◌, ◌*◌, ◌<◌, ◌≤◌, ◌⊎◌, true, if◌then◌else◌, List, length, Some, None, is_some, slice_get}
use Rattle.std.specs.List.{sum_by}
use Rattle.std.specs.declared.dyn_box.DynBox.{DynBox}
use Rattle.std.specs.declared.alloc.Global.{Global}
use Rattle.protocol_steps.specs.View.{View, made_of}
use Rattle.protocol_steps.specs.Stamps.{Deed}
use Rattle.worker_laws.specs.Cells.{CellState, EachAre}
use Rattle.worker_laws.specs.Acts.{IsLater}
use Rattle.worker_laws.specs.Visits.{IsQuiet}
use Rattle.worker_laws.specs.CellRounds.{total}
use Rattle.worker_laws.specs.Played.{ArePlayed}
use Rattle.worker_laws.specs.StampCounts.{IsMoved}
use Rattle.agent_cells.specs.declared.cell.Cell.{Cell}
use Rattle.agent_cells.specs.declared.fault.VisitFault.{VisitFault}
use Rattle.agent_cells.specs.declared.fault.VisitFault.TheVariants.{NoMemory, StampEnd}
use Rattle.agent_cells.specs.State.{state_of, begun_in, fault_in}
use Rattle.agent_cells.specs.Failed.{HasReachedEnd}
use Rattle.agent_workers.specs.Joined.{states_of, EachBecomes}
use Rattle.agent_workers.specs.Turns.{sprint_limit, SomeFailed}
use Rattle.agent_workers.specs.Run.{HasStarted}

-- a cell after some activations
pub record HasGoneOn (before after : CellState) : Type 0 where
  pub deeds : List Deed
  pub later : IsLater before deeds after

module _ {X : Type 0} {F : X → Type 0} where
  -- a visit of the cell from this state has failed with this fault: what its agent was made from
  -- has not changed, its journal is as it was, and if the fault is that stamps ran out, the visit
  -- has found the greatest stamp
  pub record HasFailedVisit (meaning : DynBox X Global F → View) (fault : VisitFault) (before : CellState) (after : Cell X F) : Type 0 where
    pub failed : fault_in after ≡ Some fault
    pub origin : made_of (state_of meaning after).view ≡ made_of before.view
    pub noted : (state_of meaning after).journal ≡ before.journal
    pub end : fault ≡ StampEnd → HasReachedEnd before (state_of meaning after)

  -- a visit of the cell from this state has failed; if `fault` is that stamps ran out, so is the
  -- cell's own fault
  abbrev pub FailsUnder : (DynBox X Global F → View) → VisitFault → CellState → Cell X F → Type 0
  FailsUnder meaning fault s c = (own : VisitFault) × (fault ≡ StampEnd → own ≡ StampEnd) × HasFailedVisit meaning own s c

  -- the cell is in this state and has not failed, or a visit from this state has failed
  abbrev pub StandsOrFails : (DynBox X Global F → View) → VisitFault → CellState → Cell X F → Type 0
  StandsOrFails meaning fault s c = ((state_of meaning c ≡ s) × (fault_in c ≡ None)) ⊎ FailsUnder meaning fault s c

  -- the cell has not changed, whether it had failed or not; or it had not failed, and a visit of it
  -- has failed
  abbrev pub StaysOrFails : (DynBox X Global F → View) → VisitFault → Cell X F → Cell X F → Type 0
  StaysOrFails meaning fault before after = (after ≡ before)
      ⊎ ((fault_in before ≡ None) × FailsUnder meaning fault (state_of meaning before) after)

  -- the given relation R holds between the cell's states before and after, and the cell has the
  -- same fault as before, or still none; of a cell that had failed, moreover, nothing has changed
  -- but what it knows of its links
  pub record GoesOn (meaning : DynBox X Global F → View) (R : CellState → CellState → Type 0) (before after : Cell X F) : Type 0 where
    pub gone : R (state_of meaning before) (state_of meaning after)
    pub fault : fault_in after ≡ fault_in before
    pub rests : fault_in before ≢ None → IsQuiet (state_of meaning before) (state_of meaning after)

  -- 1 if the cell has failed, and 0 if it has not
  abbrev pub failure : Cell X F → ℕ
  failure c = if is_some (fault_in c) then 1 else 0

  -- how many of these cells have failed
  abbrev pub failures : List (Cell X F) → ℕ
  failures cells = sum_by failure cells

  -- cells whose playing a fault has cut short; some may have failed before. Up to some moment each
  -- cell went on, with the relation R (`GoesOn`), and the cells together took at most `limit` times
  -- as many messages as there are cells. Since that moment each cell has not changed, or a visit of
  -- it has failed. At most `most_failed` more cells have failed than before
  pub record AreCutShort (meaning : DynBox X Global F → View) (fault : VisitFault) (R : CellState → CellState → Type 0) (limit most_failed : ℕ) (before after : List (Cell X F)) : Type 0 where
    pub stood : List (Cell X F)
    pub gone : EachBecomes (GoesOn meaning R) before stood
    pub most : total (states_of meaning stood) ≤ total (states_of meaning before) + length before * limit
    pub came : EachBecomes (StaysOrFails meaning fault) stood after
    pub few : failures after ≤ failures before + most_failed

  -- the same, told by the states of cells of which none had failed: for each cell, R holds of its
  -- state before and of a later state; up to these states the cells together took at most `limit`
  -- times as many messages as there are cells; since then each cell has not changed, or a visit of
  -- it has failed; at most `most_failed` cells have failed
  pub record ArePartlyPlayed (meaning : DynBox X Global F → View) (fault : VisitFault) (R : CellState → CellState → Type 0) (limit most_failed : ℕ) (before : List CellState) (after : List (Cell X F)) : Type 0 where
    pub stood : List CellState
    pub gone : EachAre R before stood
    pub most : total stood ≤ total before + length before * limit
    pub came : EachAre (StandsOrFails meaning fault) stood after
    pub few : failures after ≤ most_failed

  -- cells that had started were played in rounds under a budget, and then in a part of one more
  -- round; at most `workers` cells have failed in it
  pub record HaveBrokenOff (meaning : DynBox X Global F → View) (fault : VisitFault) (workers budget : ℕ) (started : List CellState) (after : List (Cell X F)) : Type 0 where
    pub before : List CellState
    pub played : ArePlayed budget started before
    pub less : total before < budget
    pub broken : ArePartlyPlayed meaning fault IsMoved sprint_limit workers before after

  -- the start of a cell has failed, since memory ran out; what its agent was made from has not
  -- changed
  pub record HasFailedStart (meaning : DynBox X Global F → View) (before after : Cell X F) : Type 0 where
    pub failed : fault_in after ≡ Some NoMemory
    pub begun : begun_in after ≡ true
    pub origin : made_of (state_of meaning after).view ≡ made_of (state_of meaning before).view

  -- each of the first `done` cells has started, the start of the next one has failed, and no other
  -- cell has changed
  pub record HaveStartedPartly (meaning : DynBox X Global F → View) (before after : List (Cell X F)) : Type 0 where
    pub done : ℕ
    pub inside : done < length before
    pub started : (i : ℕ) (a b : Cell X F) → slice_get before i ≡ Some a → slice_get after i ≡ Some b → i < done → HasStarted meaning a b
    pub failed : (a b : Cell X F) → slice_get before done ≡ Some a → slice_get after done ≡ Some b → HasFailedStart meaning a b
    pub rest : (i : ℕ) (a b : Cell X F) → slice_get before i ≡ Some a → slice_get after i ≡ Some b → done < i → b ≡ a

  -- all cells have started, and were played until a round ran out of memory
  pub record HaveRunShort (meaning : DynBox X Global F → View) (workers budget : ℕ) (made after : List (Cell X F)) : Type 0 where
    pub started : List (Cell X F)
    pub starts : EachBecomes (HasStarted meaning) made started
    pub broken : HaveBrokenOff meaning NoMemory workers budget (states_of meaning started) after
    pub failed : SomeFailed NoMemory after

  -- a run that ran out of memory, in a start or in a round
  abbrev pub HaveRunPartly : (DynBox X Global F → View) → ℕ → ℕ → List (Cell X F) → List (Cell X F) → Type 0
  HaveRunPartly meaning workers budget made after = HaveStartedPartly meaning made after ⊎ HaveRunShort meaning workers budget made after
