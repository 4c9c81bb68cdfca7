use Rattle.std.proofs.Common.{ap, List, ℕ}
use lib.Lanes.{chunk, put_chunk}
use Rattle.util_kernel.proofs.LaneLaws.{least-block}
use Rattle.util_kernel.proofs.least.least_block.Goals as goal

pub returns : goal.returns
returns c =
    let into = c.args.into.now in
    ap (λ (ys : List ℕ). put_chunk c.args.at into ys) (least-block (chunk c.args.at 8 into) (chunk c.args.at 8 c.args.from.now))
