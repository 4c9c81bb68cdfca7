use Rattle.std.proofs.Common.{sym, ◌∙◌}
use Rattle.message_code.proofs.CodeLaws.{codes_differ}
use Rattle.message_code.proofs.DecodeLaws.{finds_fault}
use Rattle.message_code.proofs.reader.decode.Goals as goal

pub returns-in-Ok-clause-only : goal.returns-in-Ok-clause-only
returns-in-Ok-clause-only c = λ e is same. codes_differ c.in-Ok.envelope e c.in-Ok.ensures.0 is (sym c.in-Ok.ensures.1 ∙ same)

pub returns-in-Err-clause-only : goal.returns-in-Err-clause-only
returns-in-Err-clause-only c = finds_fault c.args.bytes.now c.fault_of.result c.fault_of.ensures
