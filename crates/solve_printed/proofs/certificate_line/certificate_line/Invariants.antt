use Rattle.std.proofs.Common.{length}
use Rattle.solve_printed.proofs.LineLaws.{Sought}
use Rattle.solve_printed.proofs.certificate_line.certificate_line.Given as goal

abbrev pub invariant-loop-line : goal.invariant-loop-line
invariant-loop-line l = Sought l.text l.rest l.number

abbrev pub decreases-loop-line : goal.decreases-loop-line
decreases-loop-line l = length l.rest
