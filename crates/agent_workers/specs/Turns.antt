-- Turns, and sprints of turns.
use Rattle.std.specs.Prelude.{◌≡◌, ◌⊎◌, ℕ, ◌+◌, ◌*◌, ◌<◌, ◌≤◌, Bool, true, false, List, length, Some, None, slice_get}
use Rattle.std.specs.declared.dyn_box.DynBox.{DynBox}
use Rattle.std.specs.declared.alloc.Global.{Global}
use Rattle.dcop_base.specs.Limits.{variable_limit}
use Rattle.protocol_steps.specs.View.{View, ended_of}
use Rattle.protocol_steps.specs.Rounds.{most_events, link_share}
use Rattle.worker_laws.specs.Visits.{IsVisit}
use Rattle.worker_laws.specs.Sprints.{IsSprint}
use Rattle.worker_laws.specs.CellRounds.{total}
use Rattle.agent_cells.specs.declared.cell.Cell.{Cell}
use Rattle.agent_cells.specs.declared.fault.VisitFault.{VisitFault}
use Rattle.agent_cells.specs.State.{state_of, fault_in}
use Rattle.agent_workers.specs.Joined.{states_of, EachBecomes, HasBegun, IsSameCell}

-- the most messages that one visit of a cell takes
abbrev pub visit_limit : ℕ
visit_limit = link_share * variable_limit

-- the most messages that one round takes for one cell
abbrev pub sprint_limit : ℕ
sprint_limit = most_events * visit_limit

module _ {X : Type 0} {F : X → Type 0} where
  -- a cell that may be visited until it has ended, with at most 1,000 peers
  pub record IsReady (meaning : DynBox X Global F → View) (c : Cell X F) : Type 0 where
    pub begun : HasBegun meaning c
    pub few : length (state_of meaning c).taken ≤ variable_limit

  -- the cell of the same agent, with the same links, which may be visited again
  pub record StaysReady (meaning : DynBox X Global F → View) (before after : Cell X F) : Type 0 where
    pub same : IsSameCell before after
    pub ready : IsReady meaning after

  -- a cell before and after its turn, in which it took `count` messages: if it had ended, it is
  -- unchanged and `count` is 0; if not, it was visited, and it had failed neither before nor
  -- afterwards
  pub record HasTurned (meaning : DynBox X Global F → View) (count : ℕ) (before after : Cell X F) : Type 0 where
    pub rests : ended_of (state_of meaning before).view ≡ true → (after ≡ before) × (count ≡ 0)
    pub visit : ended_of (state_of meaning before).view ≡ false → IsVisit (state_of meaning before) count (state_of meaning after) × (fault_in after ≡ None)
    pub fine : ended_of (state_of meaning before).view ≡ false → fault_in before ≡ None

  -- the same; or, if not `all` cells have a turn, the cell has not changed and took nothing
  abbrev pub MayHaveTurned : (DynBox X Global F → View) → Bool → ℕ → Cell X F → Cell X F → Type 0
  MayHaveTurned meaning all count before after = HasTurned meaning count before after ⊎ ((all ≡ false) × (after ≡ before) × (count ≡ 0))

  -- the cell has not changed; or it had not failed, and has not failed since
  abbrev pub StaysFine : Cell X F → Cell X F → Type 0
  StaysFine before after = (after ≡ before) ⊎ ((fault_in before ≡ None) × (fault_in after ≡ None))

  -- a cell was visited at most `visits` times; if it had failed, it has not changed
  pub record HasSprinted (meaning : DynBox X Global F → View) (visits : ℕ) (before after : Cell X F) : Type 0 where
    pub sprint : IsSprint visits (state_of meaning before) (state_of meaning after)
    pub fault : StaysFine before after

  -- a cell has failed with this fault
  pub record SomeFailed (fault : VisitFault) (cells : List (Cell X F)) : Type 0 where
    pub place : ℕ
    pub cell : Cell X F
    pub at : slice_get cells place ≡ Some cell
    pub is : fault_in cell ≡ Some fault

  -- each of the first `done` cells had its turn, or was passed over if not `all` have one, and
  -- together they took `count` messages; no other cell has changed
  pub record AreTurning (meaning : DynBox X Global F → View) (all : Bool) (done count : ℕ) (before after : List (Cell X F)) : Type 0 where
    pub ready : EachBecomes (StaysReady meaning) before after
    pub turned : (i : ℕ) (a b : Cell X F) → slice_get before i ≡ Some a → slice_get after i ≡ Some b → i < done → (n : ℕ) × MayHaveTurned meaning all n a b
    pub rest : (i : ℕ) (a b : Cell X F) → slice_get before i ≡ Some a → slice_get after i ≡ Some b → done ≤ i → b ≡ a
    pub counted : total (states_of meaning after) ≡ total (states_of meaning before) + count
    pub most : count ≤ done * visit_limit

  -- each cell had `turns` turns, which took `count` messages together
  pub record AreSprinting (meaning : DynBox X Global F → View) (turns count : ℕ) (before after : List (Cell X F)) : Type 0 where
    pub ready : EachBecomes (StaysReady meaning) before after
    pub none : turns ≡ 0 → after ≡ before
    pub some : 0 < turns → EachBecomes (HasSprinted meaning turns) before after
    pub counted : total (states_of meaning after) ≡ total (states_of meaning before) + count
    pub most : count ≤ turns * (length before * visit_limit)

  -- each cell had at most 32 turns, which took `count` messages together
  pub record HavePlayed (meaning : DynBox X Global F → View) (count : ℕ) (before after : List (Cell X F)) : Type 0 where
    pub sprints : EachBecomes (HasSprinted meaning most_events) before after
    pub counted : total (states_of meaning after) ≡ total (states_of meaning before) + count
    pub most : count ≤ length before * sprint_limit
