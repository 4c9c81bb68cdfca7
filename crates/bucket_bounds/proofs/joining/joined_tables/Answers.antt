use Rattle.bucket_bounds.proofs.JoinLaws.{joined_more}
use Rattle.bucket_bounds.proofs.joining.joined_tables.Goals as goal

pub loop-group-preserved : goal.loop-group-preserved
loop-group-preserved c =
    joined_more c.args.sizes.now c.args.groups.now c.loop-group.group-index c.group-item.result c.loop-group.tables.items c.push.new.self.items c.in_ok-joined_of.field-0
    c.loop-group-test.true c.group-item.is c.loop-group.invariant c.in_ok-joined_of.ensures c.in_ok-push.ensures.items
