use Rattle.std.proofs.Common.{◌≡◌, ◌≤◌, ◌<◌, ◌+◌, ◌*◌, ◌-◌, List, ℕ, length, ap, ◌∙◌, subst, sym, arith}
use Rattle.std.specs.List.{All}
use Rattle.std.proofs.lemmas.List.Elements.{All-take, All-drop}
use Rattle.std.proofs.lemmas.Simd.{length-chunk}
use Rattle.std.proofs.lemmas.List.{length-drop}
use borrow.Rule.Slice.PartMut.{mid_of}
use Rattle.util_join.specs.Strides.{strides, offset, last_values, along, IsBlockSum}
use Rattle.util_join.proofs.BlockLaws.{part-room, inside-more, part-more}
use Rattle.util_join.proofs.add.+add_block.Goals as goal

pub overflow_mul-at : goal.overflow_mul-at
overflow_mul-at t c =
    let lt : c.loop-k.k < c.in-Some-split_first.size.now = omega (arith, c.from-k-end.ensures) in
    let fits : length c.args.cells.now ≤ 18446744073709551615 = omega arith in
    let room = part-room c.args.sizes.now c.in-Some-split_first.sizes.now c.in-Some-split_first.size.now c.args.row.count c.loop-k.k (length c.args.cells.now) 18446744073709551615 c.product_of.result c.saturating_mul-block.result c.in-Some-split_first.ensures.cases.0 c.requires.full lt fits c.product_of.ensures c.saturating_mul-block.ensures in
    omega (arith, room)

pub overflow_add-at : goal.overflow_add-at
overflow_add-at t c =
    let lt : c.loop-k.k < c.in-Some-split_first.size.now = omega (arith, c.from-k-end.ensures) in
    let fits : length c.args.cells.now ≤ 18446744073709551615 = omega arith in
    let room = part-room c.args.sizes.now c.in-Some-split_first.sizes.now c.in-Some-split_first.size.now c.args.row.count c.loop-k.k (length c.args.cells.now) 18446744073709551615 c.product_of.result c.saturating_mul-block.result c.in-Some-split_first.ensures.cases.0 c.requires.full lt fits c.product_of.ensures c.saturating_mul-block.ensures in
    omega (arith, room)

pub offset_bounds-cells-at : goal.offset_bounds-cells-at
offset_bounds-cells-at t c =
    let lt : c.loop-k.k < c.in-Some-split_first.size.now = omega (arith, c.from-k-end.ensures) in
    let fits : length c.args.cells.now ≤ 18446744073709551615 = omega arith in
    let room = part-room c.args.sizes.now c.in-Some-split_first.sizes.now c.in-Some-split_first.size.now c.args.row.count c.loop-k.k (length c.args.cells.now) 18446744073709551615 c.product_of.result c.saturating_mul-block.result c.in-Some-split_first.ensures.cases.0 c.requires.full lt fits c.product_of.ensures c.saturating_mul-block.ensures in
    omega (arith, room)

pub slice_bounds-add_block-end : goal.slice_bounds-add_block-end
slice_bounds-add_block-end t c =
    let lt : c.loop-k.k < c.in-Some-split_first.size.now = omega (arith, c.from-k-end.ensures) in
    let fits : length c.args.cells.now ≤ 18446744073709551615 = omega arith in
    let room = part-room c.args.sizes.now c.in-Some-split_first.sizes.now c.in-Some-split_first.size.now c.args.row.count c.loop-k.k (length c.args.cells.now) 18446744073709551615 c.product_of.result c.saturating_mul-block.result c.in-Some-split_first.ensures.cases.0 c.requires.full lt fits c.product_of.ensures c.saturating_mul-block.ensures in
    omega (arith, room)

pub add_block-requires : goal.add_block-requires
add_block-requires t c =
    let lt : c.loop-k.k < c.in-Some-split_first.size.now = omega (arith, c.from-k-end.ensures) in
    let fits : length c.args.cells.now ≤ 18446744073709551615 = omega arith in
    let room = part-room c.args.sizes.now c.in-Some-split_first.sizes.now c.in-Some-split_first.size.now c.args.row.count c.loop-k.k (length c.args.cells.now) 18446744073709551615 c.product_of.result c.saturating_mul-block.result c.in-Some-split_first.ensures.cases.0 c.requires.full lt fits c.product_of.ensures c.saturating_mul-block.ensures in
    let table = c.args.table.now in
    let at = c.loop-k.k * c.saturating_mul-block.result in
    let many = at + c.saturating_mul-block.result - at in
    let inside : at + many ≤ length c.loop-k.cells = omega (arith, room, c.loop-k.auto.cells) in
    let far = c.args.row.step * (c.args.row.width - 1) in
    let behind = inside-more table c.args.over.now c.in-Some.over.now c.args.sizes.now c.in-Some-split_first.sizes.now c.in-Some.var.now c.in-Some-split_first.size.now c.stride_of-stride.result c.loop-k.k far (length c.args.from.now) c.in-Some.ensures.cases.0 c.in-Some-split_first.ensures.cases.0 c.stride_of-stride.ensures lt c.requires.inside in
    let fewer = ap (λ (xs : List ℕ). length xs) c.in-Some.ensures.cases.0 in
    let long : length c.in-Some-split_first.sizes.now ≡ length c.in-Some.over.now = omega (arith, c.requires.sized, fewer, ap (λ (xs : List ℕ). length xs) c.in-Some-split_first.ensures.cases.0) in
    let reach : offset (strides table c.in-Some.over.now) (last_values c.in-Some-split_first.sizes.now) + far < length c.split_at.result.1.now = omega (arith, behind, ap (λ (xs : List ℕ). length xs) c.split_at.ensures.back, length-drop (c.stride_of-stride.result * c.loop-k.k) c.args.from.now) in (
      omega (arith, c.decreases, fewer),
      (
        long,
        (
          length-chunk at many c.loop-k.cells inside ∙ omega (arith, room),
          (
            c.requires.some,
            (
              reach,
              (
                c.requires.table,
                (
                  All-take (λ n. n ≤ 4611686018427387904) many _ (All-drop (λ n. n ≤ 4611686018427387904) at c.loop-k.cells c.loop-k.invariant.small),
                  subst (λ (xs : List ℕ). All (λ n. n ≤ 4611686018427387904) xs) (sym c.split_at.ensures.back) (All-drop (λ n. n ≤ 4611686018427387904) (c.stride_of-stride.result * c.loop-k.k) c.args.from.now c.requires.from),
                ),
              ),
            ),
          ),
        ),
      ),
    )

pub loop-k-preserved : goal.loop-k-preserved
loop-k-preserved t c =
    let lt : c.loop-k.k < c.in-Some-split_first.size.now = omega (arith, c.from-k-end.ensures) in
    let fits : length c.args.cells.now ≤ 18446744073709551615 = omega arith in
    let room = part-room c.args.sizes.now c.in-Some-split_first.sizes.now c.in-Some-split_first.size.now c.args.row.count c.loop-k.k (length c.args.cells.now) 18446744073709551615 c.product_of.result c.saturating_mul-block.result c.in-Some-split_first.ensures.cases.0 c.requires.full lt fits c.product_of.ensures c.saturating_mul-block.ensures in
    let at = c.loop-k.k * c.saturating_mul-block.result in
    let many = at + c.saturating_mul-block.result - at in
    part-more c.args.from.now (strides c.args.table.now c.in-Some.over.now) c.in-Some-split_first.sizes.now c.args.row.count (along c.args.row.width c.args.row.step) c.stride_of-stride.result c.loop-k.k at many c.args.cells.now c.loop-k.cells c.add_block.new.cells
    (ap (λ n. c.loop-k.k * n) room.0) (omega (arith, room)) (omega (arith, room)) c.loop-k.invariant
    (subst (λ (xs : List ℕ). IsBlockSum xs (strides c.args.table.now c.in-Some.over.now) c.in-Some-split_first.sizes.now c.args.row.count (along c.args.row.width c.args.row.step) (mid_of at many c.loop-k.cells) c.add_block.new.cells) c.split_at.ensures.back c.add_block.ensures)
