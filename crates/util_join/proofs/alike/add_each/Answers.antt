use Rattle.std.proofs.Common.{◌≡◌, ◌+◌, ◌-◌, ◌<◌, length, refl, arith}
use borrow.Rule.Slice.PartMut.{put_mid}
use Rattle.util_join.proofs.AlikeLaws.{done-more, done-all}
use Rattle.util_join.proofs.alike.add_each.Goals as goal

pub loop-cells-preserved : goal.loop-cells-preserved
loop-cells-preserved c =
    let at = c.loop-cells.at in
    let width = c.args.width in
    let rows = c.loop-cells.invariant.whole.0 in
    let many = at + width - at in
    let next : at + width < length c.args.cells.now = omega (arith, c.loop-cells-test.true, c.loop-cells.invariant.done.count) in
    record {
      inside = next;
      whole = (rows + 1, omega (arith, c.loop-cells.invariant.whole.1));
      done = done-more c.args.from.now width c.args.step rows at many (at + width) c.args.cells.now c.loop-cells.cells c.add_row.new.cells
          c.loop-cells.invariant.whole.1 (omega arith) (omega arith) (omega (arith, next)) c.loop-cells.invariant.done c.add_row.ensures;
    }

pub returns : goal.returns
returns c =
    let at = c.loop-cells.at in
    let now = c.loop-cells.cells in
    let size = length now - at in
    let all : length c.args.cells.now ≡ at + size = omega (arith, c.loop-cells.invariant.inside, c.loop-cells.invariant.done.count) in
    done-all c.args.from.now c.args.width c.args.step (length c.args.cells.now) c.args.cells.now (put_mid at size now c.add_row-2.new.cells) refl
    (done-more c.args.from.now c.args.width c.args.step c.loop-cells.invariant.whole.0 at size (length c.args.cells.now) c.args.cells.now now c.add_row-2.new.cells
    c.loop-cells.invariant.whole.1 (omega (arith, c.loop-cells-test.false)) all (omega arith) c.loop-cells.invariant.done c.add_row-2.ensures)
