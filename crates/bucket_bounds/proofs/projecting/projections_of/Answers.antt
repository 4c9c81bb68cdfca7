use Rattle.std.proofs.Common.{◌+◌, List, take, sym, subst}
use Rattle.std.specs.List.{AllZip}
use Rattle.std.proofs.lemmas.List.Elements.{all_zip_more}
use Rattle.dcop_base.specs.Table.{CostTable}
use Rattle.util_project.specs.Projection.{IsProjection}
use Rattle.bucket_bounds.proofs.projecting.projections_of.Goals as goal

pub loop-table-preserved : goal.loop-table-preserved
loop-table-preserved c =
    subst (λ (ls : List CostTable). AllZip (λ t less. IsProjection t c.args.var less) (take (c.loop-table.table-index + 1) c.args.tables.now) ls) (sym c.in_ok-push.ensures.items)
    (all_zip_more (λ t less. IsProjection t c.args.var less) c.args.tables.now c.loop-table.projections.items c.loop-table.table-index c.table-item.result c.in_ok-project.field-0 c.loop-table-test.true c.table-item.is c.loop-table.invariant c.in_ok-project.ensures)
