use Rattle.std.proofs.Common.{arith}
use Rattle.report_reader.proofs.NumberLaws.{fault-line}
use Rattle.solve_printed.proofs.reading.read_log.Goals as goal

pub overflow_add-result : goal.overflow_add-result
overflow_add-result c =
    let told = rw c.in-Err-Bad.field-0-is at c.in-Err-Bad.ensures.reads in
    let below = fault-line c.args.text.now c.args.file.now _ told in
    omega (arith, below, c.requires.few)
