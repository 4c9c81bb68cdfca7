use Rattle.util_project.proofs.LeastLaws.{appends-none, appends-more}
use Rattle.util_project.proofs.leasts.append_by_cell.Goals as goal

pub loop-place-init : goal.loop-place-init
loop-place-init c = appends-none c.args.block.now c.args.size c.args.inner c.args.kept.now.items

pub loop-place-preserved : goal.loop-place-preserved
loop-place-preserved c =
    appends-more c.args.block.now c.args.size c.args.inner c.loop-place.place c.args.kept.now.items c.loop-place.kept.items c.push.new.self.items c.least_at.result c.loop-place.invariant c.least_at.ensures c.in_ok-push.ensures.items
