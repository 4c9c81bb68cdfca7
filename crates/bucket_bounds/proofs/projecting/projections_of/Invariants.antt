use Rattle.std.proofs.Common.{take}
use Rattle.std.specs.List.{AllZip}
use Rattle.util_project.specs.Projection.{IsProjection}
use Rattle.bucket_bounds.proofs.projecting.projections_of.Given as goal

abbrev pub invariant-loop-table : goal.invariant-loop-table
invariant-loop-table l = AllZip (λ t less. IsProjection t l.var less) (take l.table-index l.tables) l.projections.items
