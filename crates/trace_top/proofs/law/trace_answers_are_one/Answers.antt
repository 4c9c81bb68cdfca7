use Rattle.trace_top.proofs.OneLaws.{trace_answers_one}
use Rattle.trace_top.proofs.law.trace_answers_are_one.Goals as goal

pub returns : goal.returns
returns c = trace_answers_one
