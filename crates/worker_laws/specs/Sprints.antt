-- Sprints: what the visits of one cell in one round add up to.
use Rattle.std.specs.Prelude.{◌≡◌, ℕ, ◌+◌, ◌≤◌, true, false, List, length}
use Rattle.std.specs.List.{All}
use Rattle.protocol_steps.specs.View.{ended_of}
use Rattle.protocol_steps.specs.Stamps.{Deed}
use Rattle.protocol_steps.specs.Deeds.{gained_from}
use Rattle.worker_laws.specs.Cells.{CellState, known_from}
use Rattle.worker_laws.specs.Visits.{IsFew, IsVisit}
use Rattle.worker_laws.specs.Acts.{moved, IsLater}

-- from each sender an activation takes at most link_share messages
abbrev pub TakesFew : Deed → Type 0
TakesFew d = All IsFew d.gains

-- at most `visits` visits of a cell: its activations, each of at most 64 messages from a sender; together they took from each link at least what the cell knew to be waiting there, unless its agent had already ended
pub record IsSprint (visits : ℕ) (before after : CellState) : Type 0 where
  pub deeds : List Deed
  pub later : IsLater before deeds after
  pub few : length deeds ≤ visits
  pub bounded : All TakesFew deeds
  pub served : ended_of before.view ≡ false → (j : ℕ) → known_from j before.known ≤ length (gained_from j (moved before deeds).gains)

-- how visits make up sprints: the first visit of a cell whose agent has not ended is a sprint; a
-- sprint with one more visit is a sprint; a sprint within a limit of visits is one within any
-- greater limit; and if the agent has ended, a sprint may have no visit at all
pub record SprintsAreVisits : Type 0 where
  pub first : (before after : CellState) (count : ℕ) → ended_of before.view ≡ false → IsVisit before count after → IsSprint 1 before after
  pub next : (visits count : ℕ) (before middle after : CellState) → IsSprint visits before middle → IsVisit middle count after → IsSprint (visits + 1) before after
  pub fewer : (visits more : ℕ) (before after : CellState) → visits ≤ more → IsSprint visits before after → IsSprint more before after
  pub rests : (visits : ℕ) (cell : CellState) → ended_of cell.view ≡ true → IsSprint visits cell cell
