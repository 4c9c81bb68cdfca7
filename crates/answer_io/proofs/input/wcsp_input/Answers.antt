use Rattle.answer_io.proofs.NetworkLaws.{network_used}
use Rattle.answer_io.proofs.input.wcsp_input.Goals as goal

pub further_line-requires : goal.further_line-requires
further_line-requires c =
    network_used c.args.bytes.now c.in_ok-read.ensures.reads.0 c.in_ok-read.read.used c.in_ok-read.ensures.reads.1
