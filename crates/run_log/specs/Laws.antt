-- The law about the stamps of merged journals.
use Rattle.std.specs.Prelude.{◌≡◌, ℕ, List, Some}
use Rattle.protocol_steps.specs.View.{View}
use Rattle.protocol_steps.specs.Network.{Network, start_state}
use Rattle.protocol_steps.specs.Run.{run}
use Rattle.worker_laws.specs.Cells.{CellState}
use Rattle.worker_laws.specs.Merges.{IsMerge}
use Rattle.worker_laws.specs.CellRuns.{journals_of, IsRunOfCells}
use Rattle.run_log.specs.declared.log.LogEvent.{LogEvent}
use Rattle.run_log.specs.Logs.{entries_of, events_of}
use Rattle.run_log.specs.LogStamps.{HasRightStamps}

-- a log is a run of the agents with these start views; it leads to this network, and its stamps are
-- right
pub record IsStampedRun (made : List View) (log : List LogEvent) (end : Network) : Type 0 where
  pub leads : run (start_state made) (events_of log) ≡ Some end
  pub right : HasRightStamps made log

-- the merged journals of a run of cells are a log of that run, and its stamps are right
abbrev pub MergedStampsAreRight : Type 0
MergedStampsAreRight = (budget : ℕ) (made : List View) (cells : List CellState) (end : Network) (log : List LogEvent) → IsRunOfCells budget made cells end → IsMerge (journals_of cells) (entries_of log)
    → IsStampedRun made log end
