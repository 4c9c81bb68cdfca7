use Rattle.std.proofs.Common.{◌≡◌, ◌≤◌, ◌+◌, ◌*◌, ◌-◌, List, ℕ, [], length, take, drop, refl, ap, ◌∙◌, subst, sym, arith}
use Rattle.std.proofs.Math.Nat.{mul-le-mul_left, mul-le-mul_right}
use Rattle.std.proofs.lemmas.Simd.{length-chunk}
use Rattle.std.proofs.lemmas.List.{length-drop}
use borrow.Rule.Slice.PartMut.{mid_of}
use Rattle.util_kernel.specs.Lanes.{sums}
use Rattle.util_join.specs.Strides.{along}
use Rattle.util_join.proofs.BlockLaws.{part-more, row-block}
use Rattle.util_join.proofs.RowLaws.{row-sums, rows-one}
use Rattle.util_join.proofs.add.add_near_rows.Goals as goal

pub loop-k-preserved : goal.loop-k-preserved
loop-k-preserved c =
    let width = c.args.width in
    let at = c.loop-k.k * width in
    let many = at + width - at in
    let here = mid_of at many c.loop-k.cells in
    let behind = drop (c.args.stride * c.loop-k.k) c.args.from.now in
    let more : c.loop-k.k + 1 ≤ c.args.size = omega (arith, c.loop-k-test.true) in
    let room : at + many ≤ length c.args.cells.now = omega (arith, mul-le-mul_right width more, c.requires.full) in
    let one : width ≡ 1 * width = omega arith in
    let long : length here ≡ width = length-chunk at many c.loop-k.cells (omega (arith, room, c.loop-k.auto.cells)) ∙ omega arith in
    let reach : width ≤ length behind = omega (arith, ap (λ (xs : List ℕ). length xs) c.split_at.ensures.back, c.split_at.ensures.back_len, length-drop (c.args.stride * c.loop-k.k) c.args.from.now, mul-le-mul_left c.args.stride (let last : c.loop-k.k ≤ c.args.size - 1 = omega (arith, more) in last)) in
    let row = row-sums behind 1 width here c.add_lanes.new.into refl (sym long) reach
    (subst (λ (xs : List ℕ). c.add_lanes.new.into ≡ sums here (take width xs)) c.split_at.ensures.back c.add_lanes.ensures) in
    part-more c.args.from.now [] [] width (along width 1) c.args.stride c.loop-k.k at many c.args.cells.now c.loop-k.cells c.add_lanes.new.into
    (ap (λ n. c.loop-k.k * n) one) (omega arith) room c.loop-k.invariant
    (row-block behind width width 1 here c.add_lanes.new.into long (rows-one behind width 1 here c.add_lanes.new.into (omega (arith, long)) row))
