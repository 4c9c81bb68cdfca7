use Rattle.std.proofs.Common.{subst}
use Rattle.dcop_base.specs.Whole.{IsProblem}
use Rattle.wcsp_text.specs.declared.reader.ReadWcsp.{ReadWcsp}
use Rattle.wcsp_text.proofs.ReadLaws.{has-values}
use Rattle.wcsp_text.proofs.reader.read_wcsp.Goals as goal

pub returns-in-Ok-clause-values : goal.returns-in-Ok-clause-values
returns-in-Ok-clause-values c =
    let whole = subst (λ (r : ReadWcsp). IsProblem r.file.problem) c.read.view_is c.problem_is_whole.ensures in
    has-values c.args.bytes.now c.in-Ok.read c.in-Ok.ensures.0 c.in-Ok.ensures.1 c.in-Ok.ensures.2 whole

pub returns-in-Err-Fault-clause-reads : goal.returns-in-Err-Fault-clause-reads
returns-in-Err-Fault-clause-reads c =
    let fault = rw c.in-Err-Fault.field-0-is at c.in-Err-Fault.ensures in
    (c.in-Err-Fault.fault.after, fault, c.line_of.ensures)
