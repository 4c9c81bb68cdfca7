use Rattle.std.proofs.Common.{rules}
use Rattle.node_exchange.proofs.PayloadLaws.{short_code}
use Rattle.node_exchange.proofs.payload.write_payload.Goals as goal

pub returns-clause-short : goal.returns-clause-short
returns-clause-short c = short_code c.from_vec.result c.args.from c.args.to c.args.envelope.now (search rules) c.in_ok-code.ensures.ranges
