use Rattle.bucket_bounds.proofs.JoinLaws.{gained_more}
use Rattle.bucket_bounds.proofs.joining.add_all.Goals as goal

pub loop-table-preserved : goal.loop-table-preserved
loop-table-preserved c =
    gained_more c.args.tables.now c.loop-table.table-index c.args.joined.now c.loop-table.joined c.table-item.result c.add.new.self c.loop-table-test.true c.table-item.is c.loop-table.invariant c.add.ensures
