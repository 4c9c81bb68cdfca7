-- A visit that failed.
use Rattle.std.specs.Prelude.{◌≡◌, ◌<◌, List, length, max}
use Rattle.std.specs.List.{All, sum_by}
use Rattle.dcop_base.specs.Limits.{amount_limit}
use Rattle.protocol_steps.specs.Stamps.{Gain}
use Rattle.protocol_steps.specs.Deeds.{greatest_of, gained_from}
use Rattle.worker_laws.specs.Cells.{CellState, peers, grown}
use Rattle.worker_laws.specs.Visits.{IsFew, IsFrom}

-- something was taken from the cell's peers, and the greatest of the cell's stamp and the taken
-- stamps is amount_limit, above which there is no stamp: the agent has made no step, and nothing
-- was sent
pub record HasReachedEnd (before after : CellState) : Type 0 where
  pub gains : List Gain
  pub senders : All (IsFrom (peers before.taken)) gains
  pub each : All IsFew gains
  pub some : 0 < sum_by (λ g. length g.envelopes) gains
  pub last : max before.stamp (greatest_of gains) ≡ amount_limit
  pub taken : after.taken ≡ grown (λ j. gained_from j gains) before.taken
  pub viewed : after.view ≡ before.view
  pub stamped : after.stamp ≡ before.stamp
  pub sent : after.sent ≡ before.sent
  pub noted : after.journal ≡ before.journal
