-- Exchanges that were broken off.
use Rattle.std.specs.Prelude.{◌≡◌, ◌⊎◌, List, Some, slice_get}
use Rattle.std.specs.List.{flat_map}
use Rattle.worker_laws.specs.Cells.{CellState, lane, EachAre}
use Rattle.worker_laws.specs.Visits.{IsQuiet}
use Rattle.worker_laws.specs.Wires.{Wire, HasPassed}

-- one more exchange on a link: it drained all that the link's sender had sent, except what earlier
-- exchanges had drained already
pub record HasPassedAll (cells : List CellState) (before after : Wire) : Type 0 where
  pub link : HasPassed before after
  pub drained : (from : CellState) → slice_get cells before.sender ≡ Some from → flat_map (λ p. p.drained) after.passages ≡ lane before.receiver from.sent

-- one more exchange on the link drained all of this (`HasPassedAll`), or the link is as it was
abbrev pub MayHavePassed : List CellState → Wire → Wire → Type 0
MayHavePassed cells before after = (after ≡ before) ⊎ HasPassedAll cells before after

-- an exchange that may have been broken off: some links have passed all that `HasPassedAll` says,
-- the others are as they were, and nothing of the cells has changed but what they know
pub record IsPartExchange (wires more : List Wire) (before after : List CellState) : Type 0 where
  pub passed : EachAre (MayHavePassed before) wires more
  pub quiet : EachAre IsQuiet before after

-- an exchange that was broken off before any link had passed anything
pub record IsLostExchange (wires more : List Wire) (before after : List CellState) : Type 0 where
  pub none : more ≡ wires
  pub quiet : EachAre IsQuiet before after
