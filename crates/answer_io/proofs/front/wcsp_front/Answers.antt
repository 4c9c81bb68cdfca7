use Rattle.answer_io.proofs.NetworkLaws.{network_used}
use Rattle.answer_io.proofs.front.wcsp_front.Goals as goal

pub returns-clause-within : goal.returns-clause-within
returns-clause-within c =
    network_used c.args.bytes.now c.in_ok-read.ensures.reads.0 c.in_ok-read.read.used c.in_ok-read.ensures.reads.1
