use Rattle.std.proofs.Common.{subst}
use Rattle.message_code.specs.declared.stop.Stop.{Stop}
use Rattle.message_code.specs.Form.{envelope, ended}
use Rattle.message_code.specs.Reading.{Stopped}
use Rattle.message_code.proofs.DecodeLaws.{place_of}
use Rattle.message_code.proofs.reader.fault_of.Goals as goal

pub returns-in-Bad : goal.returns-in-Bad
returns-in-Bad c = place_of c.args.bytes.now c.in-Bad.left (subst (λ (s : Stop). Stopped (λ (_ : Unit {0}). envelope ended) c.args.bytes.now s) c.in-Bad.is c.requires)
