-- An exchange between nodes: what agents sent to other nodes is drained, and what arrived there can be taken.
use Rattle.std.specs.Prelude.{◌≡◌, ◌≢◌, ℕ, ◌≤◌, List, ◌++◌, length, Some, min, slice_get}
use Rattle.protocol_steps.specs.declared.message.Message.{Message}
use Rattle.protocol_steps.specs.Rounds.{link_share}
use Rattle.worker_laws.specs.Cells.{CellState, lane, known_from, EachAre}
use Rattle.worker_laws.specs.Visits.{IsQuiet}
use Rattle.worker_laws.specs.Wires.{Wire, drained_in, arrived_in, ArePassedOn}

-- as the cells of both show, the link to agent i from agent j of another node has had its exchange:
-- all that was sent has been drained; what was taken followed by what waits is what arrived; and
-- the receiver knows of at least 64 of the waiting messages, or of all if they are fewer
pub record IsExchanged (wires : List Wire) (i j : ℕ) (to from : CellState) : Type 0 where
  pub drained : drained_in i j wires ≡ lane i from.sent
  pub waiting : List (ℕ × Message)
  pub arrived : lane j to.taken ++ waiting ≡ arrived_in i j wires
  pub known : min link_share (length waiting) ≤ known_from j to.known

-- one exchange: each link between nodes was exchanged, and nothing of the cells has changed but what they know
pub record IsExchange (node : ℕ → ℕ) (wires more : List Wire) (before after : List CellState) : Type 0 where
  pub passed : ArePassedOn wires more
  pub quiet : EachAre IsQuiet before after
  pub exchanged : (i j : ℕ) (to from : CellState) → slice_get after i ≡ Some to → slice_get after j ≡ Some from → node i ≢ node j → IsExchanged more i j to from
