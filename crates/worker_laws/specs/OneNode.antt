-- Rounds of cells in several nodes: a round settles only the links inside each node.
use Rattle.std.specs.Prelude.{◌≡◌, ◌≢◌, ℕ, ◌*◌, ◌/◌, ◌<◌, List, length, Some, slice_get}
use Rattle.protocol_steps.specs.Rounds.{most_events}
use Rattle.worker_laws.specs.Cells.{CellState, known_from, EachAre}
use Rattle.worker_laws.specs.Visits.{IsQuiet}
use Rattle.worker_laws.specs.Sprints.{IsSprint}
use Rattle.worker_laws.specs.CellRounds.{IsSettled, AreSettled, IsCellRound}

-- the node of agent i when there are `agents` agents in `nodes` nodes
abbrev pub home : ℕ → ℕ → ℕ → ℕ
home nodes agents i = i * nodes / agents

-- every link inside a node was settled; nothing else changed, not even what cells know of the links between nodes
pub record IsSettling (node : ℕ → ℕ) (before after : List CellState) : Type 0 where
  pub quiet : EachAre IsQuiet before after
  pub settled : (i j : ℕ) (to from : CellState) → slice_get after i ≡ Some to → slice_get after j ≡ Some from → node i ≡ node j → IsSettled i j to from
  pub kept : (i j : ℕ) (old new : CellState) → slice_get before i ≡ Some old → slice_get after i ≡ Some new → j < length before → node i ≢ node j
      → known_from j new.known ≡ known_from j old.known

-- one round of cells in nodes: every link inside a node is settled, and then each cell has a sprint of at most 32 visits
pub record IsPartRound (node : ℕ → ℕ) (before after : List CellState) : Type 0 where
  pub middle : List CellState
  pub settling : IsSettling node before middle
  pub sprints : EachAre (IsSprint most_events) middle after

-- with one node, settling the links inside nodes settles every link
pub record OneNodeIsAll : Type 0 where
  pub settling : (before after : List CellState) → IsSettling (home 1 (length before)) before after → EachAre IsQuiet before after × AreSettled after
  pub round : (before after : List CellState) → IsPartRound (home 1 (length before)) before after → IsCellRound before after
