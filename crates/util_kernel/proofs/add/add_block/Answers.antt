use Rattle.util_kernel.proofs.LaneLaws.{sum-block}
use Rattle.std.specs.Simd.Lanes.{chunk}
use Rattle.util_kernel.proofs.add.add_block.Goals as goal

pub returns-clause-sums : goal.returns-clause-sums
returns-clause-sums c = sum-block (chunk c.args.at 4 c.args.into.now) (chunk c.args.at 4 c.args.from.now) c.requires.into c.requires.from
