use Rattle.std.proofs.Common.{List, subst, sym}
use Rattle.std.proofs.Common.{take, ◌+◌}
use Rattle.std.proofs.lemmas.List.Elements.{all_zip_more}
use Rattle.dcop_base.specs.Table.{CostTable}
use Rattle.shared_costs.specs.Scales.{IsScaled, AreScaled}
use Rattle.shared_costs.proofs.scale.scaled_tables.Goals as goal

pub loop-table-preserved : goal.loop-table-preserved
loop-table-preserved c =
    let k = c.loop-table.table-index in
    subst (λ (ts : List CostTable). AreScaled c.args.scale (take (k + 1) c.args.tables.now) ts) (sym {A = List CostTable} c.in_ok-push.ensures.items)
    (all_zip_more (IsScaled c.args.scale) c.args.tables.now _ k c.table-item.result _ c.loop-table-test.true c.table-item.is c.loop-table.invariant c.in_ok-scaled-2.ensures)
