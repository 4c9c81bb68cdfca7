use Rattle.problem_order.proofs.TableLaws.{zip_more}
use Rattle.problem_order.proofs.reordering.tables_in.Goals as goal

pub loop-table-preserved : goal.loop-table-preserved
loop-table-preserved c =
    zip_more c.args.order.now c.args.tables.now c.loop-table.table-index c.table-item.result c.in_ok-table_in.field-0 c.loop-table.new.items c.push.new.self.items c.loop-table-test.true
    c.table-item.is c.loop-table.invariant c.in_ok-table_in.ensures c.in_ok-push.ensures.items
