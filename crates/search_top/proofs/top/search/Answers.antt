use Rattle.program_frame.proofs.WorkLaws.{shown-works}
use Rattle.search_top.specs.Answering.{search_program}
use Rattle.search_top.proofs.AnswerLaws.{search-sound}
use Rattle.search_top.proofs.top.search.Goals as goal

pub returns-in-Ok-clause-works : goal.returns-in-Ok-clause-works
returns-in-Ok-clause-works g c = shown-works search_program search-sound _ _ _ c.in-Ok.reply c.in-Ok.ensures.replied _ _ _ _ _ c.show_reply.ensures.shows
