use Rattle.program_frame.proofs.WorkLaws.{shown-works}
use Rattle.trace_top.specs.Tracing.{trace_program}
use Rattle.trace_top.proofs.AnswerLaws.{trace-sound}
use Rattle.trace_top.proofs.top.trace.Goals as goal

pub returns-in-Ok-clause-works : goal.returns-in-Ok-clause-works
returns-in-Ok-clause-works g c = shown-works trace_program trace-sound _ _ _ c.in-Ok.reply c.in-Ok.ensures.replied _ _ _ _ _ c.show_reply.ensures.shows
