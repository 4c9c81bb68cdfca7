-- An exchange, link by link.
use Rattle.std.specs.Prelude.{◌≡◌, ◌≢◌, ℕ, ◌≤◌, List, [], ◌++◌, length, Some, min, slice_get}
use Rattle.std.specs.List.{flat_map}
use Rattle.protocol_steps.specs.declared.message.Message.{Message}
use Rattle.protocol_steps.specs.Rounds.{link_share}
use Rattle.worker_laws.specs.Cells.{CellState, lane, known_from}
use Rattle.worker_laws.specs.Wires.{Wire, AreApart}
use Rattle.worker_laws.specs.Exchanges.{IsExchanged}

-- as the cells at its ends show, one link has had its exchange: all that was sent has been drained;
-- what was taken followed by what waits is what arrived; and the receiver knows of at least 64 of
-- the waiting messages, or of all if they are fewer
pub record IsLinkExchanged (w : Wire) (to from : CellState) : Type 0 where
  pub drained : flat_map (λ p. p.drained) w.passages ≡ lane w.receiver from.sent
  pub waiting : List (ℕ × Message)
  pub arrived : lane w.sender to.taken ++ waiting ≡ flat_map (λ p. p.arrived) w.passages
  pub known : min link_share (length waiting) ≤ known_from w.sender to.known

-- no link leads to agent i from agent j
abbrev pub LeadsNone : List Wire → ℕ → ℕ → Type 0
LeadsNone ws i j = (k : ℕ) (w : Wire) → slice_get ws k ≡ Some w → w.receiver ≡ i → w.sender ≢ j

-- if no link leads from one agent to an agent in another node, the one has sent nothing to the
-- other, and the other has taken nothing from it
abbrev pub SayNothing : (ℕ → ℕ) → List Wire → List CellState → Type 0
SayNothing node wires cells = (i j : ℕ) (to from : CellState) → slice_get cells i ≡ Some to → slice_get cells j ≡ Some from → node i ≢ node j → LeadsNone wires i j
    → (lane i from.sent ≡ []) × (lane j to.taken ≡ [])

-- if no two links of a list have the same sender and the same receiver, if each link of the list
-- has had its exchange, and if agents of different nodes passed nothing where no link of the list
-- leads, then `IsExchanged` holds of every two agents of different nodes
abbrev pub LinksAreExchanged : Type 0
LinksAreExchanged = (node : ℕ → ℕ) (wires : List Wire) (cells : List CellState) → AreApart wires
    → ((k : ℕ) (w : Wire) (to from : CellState) → slice_get wires k ≡ Some w → slice_get cells w.receiver ≡ Some to → slice_get cells w.sender ≡ Some from → IsLinkExchanged w to from)
    → SayNothing node wires cells → (i j : ℕ) (to from : CellState) → slice_get cells i ≡ Some to → slice_get cells j ≡ Some from → node i ≢ node j → IsExchanged wires i j to from
