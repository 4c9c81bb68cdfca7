use Rattle.std.proofs.Common.{sym, arith}
use Rattle.dcop_base.proofs.FaultLaws.{none-above}
use Rattle.dcop_base.proofs.fault.too_large.Goals as goal

pub returns-then-most-le-MAX_COST : goal.returns-then-most-le-MAX_COST
returns-then-most-le-MAX_COST c = sym (none-above 1125899906842624 c.args.cells.now (omega (arith, c.requires)))
