use Rattle.std.proofs.Common.{rules}
use Rattle.std.proofs.lemmas.Nat.{be_bytes_8}
use Rattle.message_code.proofs.number.u64_of.Goals as goal

pub returns-clause-code : goal.returns-clause-code
returns-clause-code c = be_bytes_8 c.args.field c.from_be_bytes.result (search rules) (search rules) c.from_be_bytes.ensures
