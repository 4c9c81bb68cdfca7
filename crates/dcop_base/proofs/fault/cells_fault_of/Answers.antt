use Rattle.std.proofs.Common.{sym, arith}
use Rattle.dcop_base.proofs.FaultLaws.{greatest-le-none}
use Rattle.dcop_base.proofs.fault.cells_fault_of.Goals as goal

pub overflow_add-before-2 : goal.overflow_add-before-2
overflow_add-before-2 c =
    let none = c.in_default.ensures in
    omega (arith, greatest-le-none 1125899906842624 c.args.cells.now (sym none), c.requires.most)
