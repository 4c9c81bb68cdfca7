use Rattle.program_frame.proofs.WorkLaws.{text-replied, refused-replied}
use Rattle.trace_top.specs.Tracing.{trace_program}
use Rattle.trace_top.proofs.answering.reply_to.Goals as goal

pub returns-in-Text-clause-replied : goal.returns-in-Text-clause-replied
returns-in-Text-clause-replied g c =
    text-replied trace_program _ _ _ _ _ c.read_trace_words.ensures c.in_ok-asked.ensures.asked
    c.in-Text.asked c.in-Text.bytes c.as_slice.result.now c.text_reply.result c.in-Text.is c.as_slice.ensures c.text_reply.ensures.belongs

pub returns-in-Refused-clause-replied : goal.returns-in-Refused-clause-replied
returns-in-Refused-clause-replied g c =
    refused-replied trace_program _ _ _ _ _ c.read_trace_words.ensures c.in_ok-asked.ensures.asked c.in-Refused.refusal c.in-Refused.is
