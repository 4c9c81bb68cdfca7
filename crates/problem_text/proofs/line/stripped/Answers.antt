use Rattle.std.proofs.Common.{arith, sym}
use Rattle.std.proofs.lemmas.Bool.Decides.{nat_tests}
use Rattle.problem_text.proofs.SplitLaws.{without_last-there, without_last-other}
use Rattle.problem_text.proofs.line.stripped.Goals as goal

pub returns-then-byte-last : goal.returns-then-byte-last
returns-then-byte-last c = rw (c.in-Some.ensures.cases.0) (sym (without_last-there c.args.last c.in-Some.byte.now c.in-Some.front.now (grind (arith, nat_tests, c.if-byte-last.true))))

pub returns-else-byte-last : goal.returns-else-byte-last
returns-else-byte-last c = rw (c.in-Some.ensures.cases.0) (sym (without_last-other c.args.last c.in-Some.byte.now c.in-Some.front.now (grind (arith, nat_tests, c.if-byte-last.false))))
