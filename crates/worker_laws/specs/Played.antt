-- Cells are played in rounds until all agents have ended, the budget is spent, or a round takes nothing.
use Rattle.std.specs.Prelude.{◌≡◌, ℕ, ◌<◌, false, List}
use Rattle.protocol_steps.specs.declared.run_end.RunEnd.{RunEnd}
use Rattle.protocol_steps.specs.declared.run_end.RunEnd.TheVariants.{Still}
use Rattle.protocol_steps.specs.View.{View}
use Rattle.worker_laws.specs.Cells.{CellState, EachAre}
use Rattle.worker_laws.specs.Visits.{IsQuiet}
use Rattle.worker_laws.specs.CellRounds.{AreSettled, AreStarted, IsCellRound, AreCellRounds, total}
use Rattle.worker_laws.specs.CellRuns.{all_ended, IsCellEnd, MakesARun}

-- cells that had started were played in rounds under a budget
pub record ArePlayed (budget : ℕ) (started now : List CellState) : Type 0 where
  pub rounds : List (List CellState)
  pub are : AreCellRounds budget started rounds now

-- `ArePlayed` holds of cells before any round; and after one more round it still holds, if the
-- deliveries before that round were below the budget. If the cells had started, then cells of which
-- it holds have made a run once every link is settled again; the run ended as they show. It ended
-- with nothing pending if the last round took nothing and some agent has not ended
pub record PlayedCellsMakeRuns : Type 0 where
  pub none : (budget : ℕ) (cells : List CellState) → ArePlayed budget cells cells
  pub more : (budget : ℕ) (started now next : List CellState) → ArePlayed budget started now → total now < budget → IsCellRound now next → ArePlayed budget started next
  pub ends : (budget : ℕ) (made : List View) (started now last : List CellState) (answer : RunEnd) → AreStarted made started → ArePlayed budget started now
      → EachAre IsQuiet now last → AreSettled last → IsCellEnd budget last answer → MakesARun budget made last answer
  pub rests : (budget : ℕ) (made : List View) (started now next last : List CellState) → AreStarted made started → ArePlayed budget started now
      → total now < budget → IsCellRound now next → total next ≡ total now → EachAre IsQuiet next last → AreSettled last → all_ended last ≡ false
      → MakesARun budget made last (Still (total last))
