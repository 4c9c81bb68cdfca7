-- Stamps do not run out in nodes, if in each exchange exactly what was sent arrived.
use Rattle.std.specs.Prelude.{◌≡◌, ℕ, ◌≤◌, List, Some, slice_get, max}
use Rattle.std.specs.List.{All}
use Rattle.protocol_steps.specs.Stamps.{Gain}
use Rattle.protocol_steps.specs.Deeds.{greatest_of, gained_from}
use Rattle.protocol_steps.specs.View.{View}
use Rattle.worker_laws.specs.Cells.{CellState, peers, grown, EachAre}
use Rattle.worker_laws.specs.Visits.{IsFrom}
use Rattle.worker_laws.specs.CellRounds.{AreStarted, total}
use Rattle.worker_laws.specs.StampCounts.{IsMoved, IsCellWithin}
use Rattle.worker_laws.specs.Wires.{Wire, HaveHeld}
use Rattle.worker_laws.specs.Exchanges.{IsExchange}
use Rattle.worker_laws.specs.NodeRounds.{IsNodeEnd, ArePlayedOver}

-- a cell has taken these messages from its peers, or none, and its agent has made no step on them
pub record HasOnlyTaken (before after : CellState) : Type 0 where
  pub gains : List Gain
  pub senders : All (IsFrom (peers before.taken)) gains
  pub taken : after.taken ≡ grown (λ j. gained_from j gains) before.taken
  pub sent : after.sent ≡ before.sent

-- cells in nodes were played in rounds, and then in one more that was broken off after its exchange: each cell had made some activations by then, and may have taken messages without a step
pub record AreBrokenOver (node : ℕ → ℕ) (budget : ℕ) (begun : List Wire) (cells : List CellState) (wires : List Wire) (stood now : List CellState) : Type 0 where
  pub before : List CellState
  pub passed : List Wire
  pub played : ArePlayedOver node budget begun cells passed before
  pub ready : List CellState
  pub exchange : IsExchange node passed wires before ready
  pub moved : EachAre IsMoved ready stood
  pub taken : EachAre HasOnlyTaken stood now

-- cells were played until a round broke off, and may then have taken messages on which they made no
-- step. If in each exchange, and in one more at the end, exactly what was sent arrived, then no
-- stamp of a cell or of such messages is above the number of messages on which cells have made
-- steps
abbrev pub NodeStampsAreFew : Type 0
NodeStampsAreFew = (node : ℕ → ℕ) (budget : ℕ) (made : List View) (begun wires more : List Wire) (cells stood now last : List CellState) → AreStarted made cells
    → AreBrokenOver node budget begun cells wires stood now → IsNodeEnd node wires more now last → HaveHeld more
    → (i : ℕ) (s c : CellState) (gains : List Gain) → slice_get stood i ≡ Some s → slice_get now i ≡ Some c → All (IsFrom (peers s.taken)) gains → c.taken ≡ grown (λ j. gained_from j gains) s.taken
    → IsCellWithin (total stood) s × (max s.stamp (greatest_of gains) ≤ total stood)
