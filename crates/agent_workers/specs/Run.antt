-- A run of cells: their start, and how playing them has ended.
use Rattle.std.specs.Prelude.{◌≡◌, ◌≢◌, ℕ, ◌<◌, ◌≤◌, true, false, List, [], ◌∷◌, map, Some, None, slice_get}
use Rattle.std.specs.declared.dyn_box.DynBox.{DynBox}
use Rattle.std.specs.declared.alloc.Global.{Global}
use Rattle.protocol_steps.specs.declared.run_end.RunEnd.{RunEnd}
use Rattle.protocol_steps.specs.declared.run_end.RunEnd.TheVariants.{AllEnded, Spent, Still}
use Rattle.protocol_steps.specs.View.{View}
use Rattle.worker_laws.specs.Cells.{CellState, EachAre}
use Rattle.worker_laws.specs.Visits.{IsStarted, IsQuiet}
use Rattle.worker_laws.specs.CellRounds.{AreSettled, AreStarted, IsCellRound, AreCellRounds, total}
use Rattle.worker_laws.specs.CellRuns.{all_ended}
use Rattle.worker_laws.specs.Played.{ArePlayed}
use Rattle.agent_cells.specs.declared.cell.Cell.{Cell}
use Rattle.agent_cells.specs.State.{state_of, fault_in}
use Rattle.agent_workers.specs.Joined.{EachBecomes, HasBegun, IsSameCell}

module _ {X : Type 0} {F : X → Type 0} where
  -- the views of the agents
  abbrev pub views_of : (DynBox X Global F → View) → List (Cell X F) → List View
  views_of meaning cells = map (λ c. (state_of meaning c).view) cells

  -- a cell has started its agent, and has not failed
  pub record HasStarted (meaning : DynBox X Global F → View) (before after : Cell X F) : Type 0 where
    pub same : IsSameCell before after
    pub begun : HasBegun meaning after
    pub fine : fault_in after ≡ None
    pub started : IsStarted (state_of meaning before).view (state_of meaning after)

  -- each of the first `done` cells has started, and no other cell has changed
  pub record AreStarting (meaning : DynBox X Global F → View) (done : ℕ) (before after : List (Cell X F)) : Type 0 where
    pub same : EachBecomes IsSameCell before after
    pub started : (i : ℕ) (a b : Cell X F) → slice_get before i ≡ Some a → slice_get after i ≡ Some b → i < done → HasStarted meaning a b
    pub rest : (i : ℕ) (a b : Cell X F) → slice_get before i ≡ Some a → slice_get after i ≡ Some b → done ≤ i → b ≡ a

-- when each of these rounds began, some agent had not ended; and each round took something; the
-- list has the cells after each round
abbrev pub AreBusy : List CellState → List (List CellState) → Type 0
AreBusy before [] = Unit {0}
AreBusy before (next ∷ rounds) = (all_ended before ≡ false) × (total before < total next) × AreBusy next rounds

-- when each of these rounds began, some agent had not ended; and each round but the last took
-- something; the list has the cells after each round
abbrev pub AreDue : List CellState → List (List CellState) → Type 0
AreDue before [] = Unit {0}
AreDue before (next ∷ rounds) = (all_ended before ≡ false) × (rounds ≢ [] → total before < total next) × AreDue next rounds

-- cells that had started were played in rounds under a budget, and `Such` holds of these rounds
pub record ArePlayedIn (budget : ℕ) (Such : List CellState → List (List CellState) → Type 0) (started now : List CellState) : Type 0 where
  pub rounds : List (List CellState)
  pub are : AreCellRounds budget started rounds now
  pub such : Such started rounds

-- cells whose agents were made with these views have started and were played in rounds under a
-- budget; when each round began, some agent had not ended; each round but the last took something;
-- at the end every link is settled
pub record AreDulyPlayed (budget : ℕ) (made : List View) (last : List CellState) : Type 0 where
  pub started : List CellState
  pub played : List CellState
  pub starts : AreStarted made started
  pub rounds : ArePlayedIn budget AreDue started played
  pub quiet : EachAre IsQuiet played last
  pub settled : AreSettled last

-- the last round took nothing, and the deliveries before it were below the budget
pub record IsIdleRound (budget : ℕ) (started now : List CellState) : Type 0 where
  pub before : List CellState
  pub played : ArePlayed budget started before
  pub less : total before < budget
  pub round : IsCellRound before now
  pub none : total now ≡ total before

-- how playing cells in rounds under a budget has ended
abbrev pub HasStopped : ℕ → List CellState → List CellState → RunEnd → Type 0
HasStopped budget started now (AllEnded n) = (n ≡ total now) × (all_ended now ≡ true)
HasStopped budget started now (Spent n) = (n ≡ total now) × (all_ended now ≡ false) × (budget ≤ total now)
HasStopped budget started now (Still n) = (n ≡ total now) × (all_ended now ≡ false) × IsIdleRound budget started now

-- cells were played in due rounds under a budget, and playing has ended with this answer
pub record ArePlayedOut (budget : ℕ) (started now : List CellState) (answer : RunEnd) : Type 0 where
  pub played : ArePlayedIn budget AreDue started now
  pub stopped : HasStopped budget started now answer

-- the last of these rounds took nothing
abbrev pub EndIdle : List CellState → List (List CellState) → Type 0
EndIdle before [] = ⊥
EndIdle before (last ∷ []) = total last ≡ total before
EndIdle before (next ∷ (later ∷ rounds)) = EndIdle next (later ∷ rounds)

-- if a run ended with the answer `Still` (some agent had not ended, and nothing was pending), P
-- holds
abbrev pub AtStill : RunEnd → Type 0 → Type 0
AtStill (AllEnded n) P = Unit {0}
AtStill (Spent n) P = Unit {0}
AtStill (Still n) P = P

-- cells that had started were played in due rounds, and the last round took nothing
pub record AreIdle (budget : ℕ) (started now : List CellState) : Type 0 where
  pub played : ArePlayedIn budget AreDue started now
  pub idle : EndIdle started played.rounds

-- cells whose agents were made with these views were duly played, and the last round took nothing
-- while an agent had not ended
pub record HaveComeToRest (budget : ℕ) (made : List View) (last : List CellState) : Type 0 where
  pub duly : AreDulyPlayed budget made last
  pub idle : EndIdle duly.started duly.rounds.rounds
  pub awake : all_ended last ≡ false

-- if the answer is Still, the cells have come to rest
pub record RestsAtStill (budget : ℕ) (made : List View) (last : List CellState) (answer : RunEnd) : Type 0 where
  pub rest : AtStill answer (HaveComeToRest budget made last)
