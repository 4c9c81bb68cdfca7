-- Laws on cells.
use Rattle.std.specs.Prelude.{◌≡◌, ℕ, ◌+◌, List}
use Rattle.protocol_steps.specs.declared.run_end.RunEnd.{RunEnd}
use Rattle.protocol_steps.specs.declared.outcome.Outcome.{Outcome}
use Rattle.protocol_steps.specs.View.{View}
use Rattle.protocol_steps.specs.Network.{Network}
use Rattle.protocol_steps.specs.RunEnds.{IsRunEnd}
use Rattle.protocol_steps.specs.Outcomes.{IsOutcomeOf}
use Rattle.worker_laws.specs.Cells.{CellState, EachAre}
use Rattle.worker_laws.specs.Visits.{IsQuiet, IsVisit}
use Rattle.worker_laws.specs.CellRounds.{AreSettled, AreStarted, IsCellRound, AreCellRounds, taken_by, total}
use Rattle.worker_laws.specs.CellRuns.{IsRunOfCells, NothingWaits, IsCellEnd, IsCellOutcome}

-- cells that have started, were played in rounds under a budget, and have every link settled at the end, have made a run in rounds under the budget that ends in their views and links
abbrev pub WorkersMakeARun : Type 0
WorkersMakeARun = (budget : ℕ) (made : List View) (cells after last : List CellState) (rounds : List (List CellState))
    → AreStarted made cells → AreCellRounds budget cells rounds after → EachAre IsQuiet after last → AreSettled last
    → (end : Network) × IsRunOfCells budget made last end

-- the run ended in the way that the cells show
abbrev pub CellsTellEnds : Type 0
CellsTellEnds = (budget : ℕ) (made : List View) (cells : List CellState) (end : Network) (answer : RunEnd) → IsRunOfCells budget made cells end → IsCellEnd budget cells answer
    → IsRunEnd budget end answer

-- the outcome of the run is that of the cells
abbrev pub CellsTellOutcomes : Type 0
CellsTellOutcomes = (budget : ℕ) (made : List View) (cells : List CellState) (end : Network) (outcome : Outcome) → IsRunOfCells budget made cells end → IsCellOutcome cells outcome
    → IsOutcomeOf end outcome

-- after a round in which nothing was taken, nothing waits for an agent that has not ended
abbrev pub IdleRoundsLeaveNothing : Type 0
IdleRoundsLeaveNothing = (before after last : List CellState) → IsCellRound before after → total after ≡ total before → EachAre IsQuiet after last → NothingWaits last

-- a visit adds the messages that it took to the total, and settling adds none
pub record TotalsAdd : Type 0 where
  pub visit : (before after : CellState) (count : ℕ) → IsVisit before count after → taken_by after.journal ≡ taken_by before.journal + count
  pub quiet : (before after : List CellState) → EachAre IsQuiet before after → total after ≡ total before
