use Rattle.std.proofs.Common.{◌*◌, refl, arith}
use Rattle.shared_costs.proofs.ScaleLaws.{twice-power}
use Rattle.shared_costs.proofs.scale.scale_of.Goals as goal

pub loop-scale-init : goal.loop-scale-init
loop-scale-init c = let sum = c.sum_of_greatest-sum.ensures in let most = c.requires in record { power = (0, refl); some = omega arith; few = omega arith; within = omega (arith, sum, most) }

pub loop-scale-preserved : goal.loop-scale-preserved
loop-scale-preserved c =
    let before = c.loop-scale.invariant in
    let small = c.loop-scale-test.true in
    let some = before.some in
    record { power = twice-power c.loop-scale.scale (c.loop-scale.scale * 2) refl before.power; some = omega (arith, some); few = omega (arith, small); within = c.if-scale-sum-le-CAP.true }
