use Rattle.std.proofs.Common.{arith}
use Rattle.edit_session.proofs.CellLaws.{most_small}
use Rattle.edit_session.proofs.edit.sum_of.Goals as goal

pub overflow_add-sum : goal.overflow_add-sum
overflow_add-sum c =
    let most = most_small c.args.cells.now c.requires.cheap in
    let is = c.greatest_of.ensures in
    let top = c.requires.top in
    let within = c.requires.within in
    omega (arith, most, is, top, within)
