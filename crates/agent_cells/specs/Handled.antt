-- What a cell does with what it took.
use Rattle.std.specs.Prelude.{◌≡◌, ℕ, ◌+◌, List, [], ◌∷◌, ◌++◌, max}
use Rattle.dcop_base.specs.Limits.{amount_limit}
use Rattle.protocol_steps.specs.declared.message.Message.{Message}
use Rattle.protocol_steps.specs.declared.event.Take.{Take}
use Rattle.protocol_steps.specs.Machine.{IsStep}
use Rattle.protocol_steps.specs.Stamps.{post}
use Rattle.protocol_steps.specs.Deeds.{posted_to}
use Rattle.worker_laws.specs.Cells.{CellState, grown}
use Rattle.agent_cells.specs.Receivers.{GoToNeighbours}

-- the agent has made one step on what was taken: the new stamp is 1 plus the greatest, what the
-- agent sends is on the links with this stamp, and the entry is in the journal
pub record IsHandled (before : CellState) (letters : List (ℕ × Message)) (takes : List Take) (greatest : ℕ) (after : CellState) : Type 0 where
  pub sends : List (ℕ × Message)
  pub step : IsStep before.view letters after.view sends
  pub receivers : GoToNeighbours before.view sends
  pub stamped : after.stamp ≡ max before.stamp greatest + 1
  pub sent : after.sent ≡ grown (λ j. posted_to j (post after.stamp sends)) before.sent
  pub noted : after.journal ≡ before.journal ++ record { stamp = after.stamp; takes = takes } ∷ []

-- the greatest of the cell's stamp and the taken stamps is amount_limit, above which there is no
-- stamp: the agent has made no step, and nothing was sent
pub record IsAtEnd (before : CellState) (greatest : ℕ) (after : CellState) : Type 0 where
  pub last : max before.stamp greatest ≡ amount_limit
  pub viewed : after.view ≡ before.view
  pub stamped : after.stamp ≡ before.stamp
  pub sent : after.sent ≡ before.sent
  pub noted : after.journal ≡ before.journal
