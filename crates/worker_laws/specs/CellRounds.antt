-- Rounds of cells: every link is settled, and then each cell has a sprint.
use Rattle.std.specs.Prelude.{◌≡◌, ℕ, ◌<◌, ◌≤◌, List, [], ◌∷◌, ◌++◌, length, Some, min, slice_get}
use Rattle.std.specs.List.{sum_by}
use Rattle.protocol_steps.specs.declared.message.Message.{Message}
use Rattle.protocol_steps.specs.declared.event.Entry.{Entry}
use Rattle.protocol_steps.specs.Rounds.{most_events, link_share}
use Rattle.protocol_steps.specs.View.{View}
use Rattle.worker_laws.specs.Cells.{CellState, lane, known_from, IsWired, EachAre}
use Rattle.worker_laws.specs.Visits.{IsStarted, IsQuiet}
use Rattle.worker_laws.specs.Sprints.{IsSprint}

-- as the cells of both show, the link from agent j to agent i is settled: what the receiver took
-- followed by what waits is what the sender sent, and the receiver knows of at least 64 of the
-- waiting messages, or of all if they are fewer
pub record IsSettled (i j : ℕ) (to from : CellState) : Type 0 where
  pub waiting : List (ℕ × Message)
  pub whole : lane j to.taken ++ waiting ≡ lane i from.sent
  pub known : min link_share (length waiting) ≤ known_from j to.known

-- every link is settled
abbrev pub AreSettled : List CellState → Type 0
AreSettled cells = (i j : ℕ) (to from : CellState) → slice_get cells i ≡ Some to → slice_get cells j ≡ Some from → IsSettled i j to from

-- the cells of agents made with these views have started: cell i is that of agent i, and its peers are agents
pub record AreStarted (made : List View) (cells : List CellState) : Type 0 where
  pub started : EachAre IsStarted made cells
  pub wired : (i : ℕ) (c : CellState) → slice_get cells i ≡ Some c → IsWired (length cells) i c

-- the number of messages that these entries take
abbrev pub taken_by : List Entry → ℕ
taken_by es = sum_by (λ e. sum_by (λ t. t.count) e.takes) es

-- the number of messages that all cells have taken
abbrev pub total : List CellState → ℕ
total cells = sum_by (λ c. taken_by c.journal) cells

-- one round of cells: every link is settled, and then each cell has a sprint of at most 32 visits
pub record IsCellRound (before after : List CellState) : Type 0 where
  pub middle : List CellState
  pub quiet : EachAre IsQuiet before middle
  pub settled : AreSettled middle
  pub sprints : EachAre (IsSprint most_events) middle after

-- rounds of cells under a budget of deliveries: each begins with fewer deliveries than the budget; the list has the cells after each round
abbrev pub AreCellRounds : ℕ → List CellState → List (List CellState) → List CellState → Type 0
AreCellRounds budget before [] after = before ≡ after
AreCellRounds budget before (next ∷ rounds) after = (total before < budget) × IsCellRound before next × AreCellRounds budget next rounds after
