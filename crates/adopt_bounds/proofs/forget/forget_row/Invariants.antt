use Rattle.std.proofs.Common.{length}
use Rattle.adopt_bounds.specs.Rows.{entries_of}
use Rattle.adopt_bounds.proofs.ForgetLaws.{IsForgetting}
use Rattle.adopt_bounds.proofs.forget.forget_row.Given as goal

abbrev pub invariant-loop-k : goal.invariant-loop-k
invariant-loop-k l = IsForgetting l.known (entries_of l.fn.lower l.fn.upper l.fn.share l.fn.contexts) (length l.fn.lower) l.k l.lower l.upper l.share l.contexts l.totals
