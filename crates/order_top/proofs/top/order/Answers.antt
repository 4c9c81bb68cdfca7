use Rattle.program_frame.proofs.WorkLaws.{shown-works}
use Rattle.order_top.specs.Answering.{order_program}
use Rattle.order_top.proofs.AnswerLaws.{order-sound}
use Rattle.order_top.proofs.top.order.Goals as goal

pub returns-in-Ok-clause-works : goal.returns-in-Ok-clause-works
returns-in-Ok-clause-works g c = shown-works order_program order-sound _ _ _ c.in-Ok.reply c.in-Ok.ensures.replied _ _ _ _ _ c.show_reply.ensures.shows
