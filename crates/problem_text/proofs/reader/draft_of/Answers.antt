use Rattle.std.proofs.Common.{arith}
use Rattle.problem_text.proofs.ReadingLaws.{read-more}
use Rattle.problem_text.proofs.reader.draft_of.Goals as goal

pub loop-line-preserved : goal.loop-line-preserved
loop-line-preserved c =
    let step = rw c.in-Ok-Declares.field-0-is at c.in-Ok-Declares.ensures in
    (read-more _ c.loop-line.before c.loop-line.draft c.in-Ok-Declares.more _ _ _ _ c.in-Some.ensures.line step c.loop-line.invariant.0, omega (arith, c.in-Some.ensures.bytes, c.loop-line.invariant.1), omega (arith, c.in-Some.ensures.lines, c.loop-line.invariant.2), omega (arith, c.in-Some.ensures.forward, c.loop-line.invariant.3))
