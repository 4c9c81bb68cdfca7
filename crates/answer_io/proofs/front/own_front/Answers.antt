use Rattle.answer_io.proofs.UsedLaws.{text_used}
use Rattle.answer_io.proofs.front.own_front.Goals as goal

pub returns-clause-within : goal.returns-clause-within
returns-clause-within c = text_used c.args.bytes.now _ c.in_ok-read.ensures
