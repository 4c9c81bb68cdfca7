use Rattle.std.proofs.Common.{sym}
use Rattle.dcop_base.proofs.problem.Problem.new.Goals as goal

pub of_faultless-requires : goal.of_faultless-requires
of_faultless-requires c = rw (← c.as_slice.ensures, ← c.as_slice-2.ensures) (sym c.in_default.ensures)
