use Rattle.std.proofs.Common.{arith}
use Rattle.report_reader.proofs.NumberLaws.{fault-line}
use Rattle.solve_printed.proofs.checking.check_answer.Goals as goal

pub overflow_add-result : goal.overflow_add-result
overflow_add-result c =
    let told = rw c.in-Err-Bad.field-0-is at c.in-Err-Bad.ensures.reads in
    let below = fault-line c.args.text.now c.args.file _ told in
    rw c.in-Err-Bad.field-0-is (omega (arith, below, c.requires.few))
