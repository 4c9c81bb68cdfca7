use Rattle.std.proofs.Common.{arith}
use Rattle.bucket_bounds.proofs.ByCellsLaws.{rising_at}
use Rattle.bucket_bounds.proofs.KeptLaws.{kept_more}
use Rattle.bucket_bounds.proofs.keeping.kept_of.Goals as goal

pub loop-table-preserved : goal.loop-table-preserved
loop-table-preserved c =
    let ts = c.args.projections.now in
    let k = c.loop-table.table-index in
    let t = c.table-item.result in
    kept_more ts k c.args.room t c.loop-table.kept c.keep.new.kept c.loop-table-test.true (omega arith) c.table-item.is (rising_at ts k t c.requires c.loop-table-test.true c.table-item.is) c.loop-table.invariant c.in_ok-keep.ensures
