use Rattle.std.proofs.Common.{◌≡◌, ◌*◌, ◌-◌, length, refl, ap, arith}
use Rattle.util_join.proofs.RowLaws.{row-raised, row-sums}
use Rattle.util_join.proofs.row.add_row.Goals as goal

pub returns-in-0 : goal.returns-in-0
returns-in-0 c = row-raised c.args.from.now c.args.step c.args.cells.now c.add_one_lanes.new.into c.in-0.is c.add_one_lanes.ensures

pub returns-in-1 : goal.returns-in-1
returns-in-1 c = row-sums c.args.from.now c.args.step _ c.args.cells.now c.add_lanes.new.into c.in-1.is refl (let one : c.args.step * (length c.args.cells.now - 1) ≡ 1 * (length c.args.cells.now - 1) = ap (λ n. n * (length c.args.cells.now - 1)) c.in-1.is in omega (arith, one)) c.add_lanes.ensures
