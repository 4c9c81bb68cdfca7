use Rattle.std.proofs.Common.{◌≡◌, ◌≤◌, ◌+◌, ◌*◌, ◌-◌, List, ℕ, [], length, ap, ◌∙◌, subst, arith}
use Rattle.std.proofs.Math.Nat.{mul-le-mul_right}
use Rattle.std.proofs.lemmas.Simd.{length-chunk}
use borrow.Rule.Slice.PartMut.{mid_of}
use Rattle.util_join.specs.Strides.{along, AreRowSums}
use Rattle.util_join.proofs.BlockLaws.{part-more, row-block}
use Rattle.util_join.proofs.add.add_rows.Goals as goal

pub loop-k-preserved : goal.loop-k-preserved
loop-k-preserved c =
    let row = c.args.row in
    let at = c.loop-k.k * row.count in
    let many = at + row.count - at in
    let more : c.loop-k.k + 1 ≤ c.args.size = omega (arith, c.loop-k-test.true) in
    let room : at + many ≤ length c.args.cells.now = omega (arith, mul-le-mul_right row.count more, c.requires.full) in
    let one : row.count ≡ 1 * row.count = omega arith in
    let long : length (mid_of at many c.loop-k.cells) ≡ row.count = length-chunk at many c.loop-k.cells (omega (arith, room, c.loop-k.auto.cells)) ∙ omega arith in
    part-more c.args.from.now [] [] row.count (along row.width row.step) c.args.stride c.loop-k.k at many c.args.cells.now c.loop-k.cells c.add_alike.new.cells
    (ap (λ n. c.loop-k.k * n) one) (omega arith) room c.loop-k.invariant
    (row-block _ row.count row.width row.step (mid_of at many c.loop-k.cells) c.add_alike.new.cells long
    (subst (λ (xs : List ℕ). AreRowSums xs row.width row.step (mid_of at many c.loop-k.cells) c.add_alike.new.cells) c.split_at.ensures.back c.add_alike.ensures))
