-- Feeding a cell with what arrived from another node.
use Rattle.std.specs.Prelude.{◌≡◌, ℕ, ◌≤◌, List, ◌++◌, length, min}
use Rattle.protocol_steps.specs.declared.message.Message.{Message}
use Rattle.protocol_steps.specs.Rounds.{link_share}
use Rattle.fifo_links.specs.declared.ends.LinkTail.{LinkTail}
use Rattle.fifo_links.specs.Link.{sent_on}
use Rattle.worker_laws.specs.Cells.{CellState, lane, known_from}

-- what the cell took from an agent, and then what waits for it, is all that was fed to the link; of
-- what waits it knows 64 messages, or all if there are fewer
pub record AllWaits (to : CellState) (from : ℕ) (inner : LinkTail (ℕ × Message)) : Type 0 where
  pub waiting : List (ℕ × Message)
  pub whole : lane from to.taken ++ waiting ≡ sent_on inner
  pub known : min link_share (length waiting) ≤ known_from from to.known
