use Rattle.std.proofs.Common.{◌≤◌, bit_or, arith}
use Rattle.std.proofs.lemmas.Bool.{ltb-false}
use lib.Lanes.{fold_l}
use Rattle.util_kernel.proofs.CapLaws.{fold-all}
use Rattle.util_kernel.proofs.cap.may_exceed.Goals as goal

pub returns : goal.returns
returns c none k d lt =
    let low : fold_l bit_or 0 c.args.bits ≤ 4611686018427387904 = ltb-false 4611686018427387904 (fold_l bit_or 0 c.args.bits) none in
    let lane = fold-all 0 c.args.bits k d lt in
    omega (arith, low, lane)
