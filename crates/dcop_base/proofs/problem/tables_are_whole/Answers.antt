use Rattle.std.proofs.Common.{subst}
use Rattle.std.proofs.lemmas.List.Elements.{All-more}
use Rattle.dcop_base.specs.Table.{IsTable}
use Rattle.dcop_base.proofs.problem.tables_are_whole.Goals as goal

pub loop-table-preserved : goal.loop-table-preserved
loop-table-preserved c =
    All-more IsTable c.args.tables.now c.loop-table.table-index c.table-item.result c.loop-table-test.true c.loop-table.invariant
    (subst IsTable c.table-item.is (subst IsTable c.table.view_is c.table.invariant))
