use Rattle.std.proofs.Common.{◌+◌, min, arith}
use Rattle.util_kernel.proofs.LaneLaws.{block-turn, one-turn, all-turns}
use Rattle.util_kernel.proofs.least.least_lanes.Goals as goal

pub loop-into-preserved : goal.loop-into-preserved
loop-into-preserved c = record {
  inside = omega arith;
  so_far = block-turn min 8 c.loop-into.at (c.loop-into.at + 8) c.args.into.now c.loop-into.into c.least_block.new.into c.args.from.now c.loop-into.invariant.so_far c.least_block.ensures (omega arith) (omega arith) c.requires;
}

pub loop-at-preserved : goal.loop-at-preserved
loop-at-preserved c = record {
  inside = omega arith;
  so_far = one-turn min c.loop-at.at c.min.result c.args.into.now c.loop-at.into c.args.from.now c.loop-at.invariant.so_far c.min.ensures (omega arith) c.requires;
}

pub returns : goal.returns
returns c = all-turns min c.loop-at.at c.args.into.now c.loop-at.into c.args.from.now c.loop-at.invariant.so_far (omega arith) c.requires
