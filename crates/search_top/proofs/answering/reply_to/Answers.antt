use Rattle.std.proofs.Common.{map, string_bytes}
use Rattle.program_frame.proofs.WorkLaws.{text-replied, refused-replied}
use Rattle.search_top.specs.Answering.{search_program}
use Rattle.search_top.proofs.WordLaws.{question-served}
use Rattle.search_top.proofs.answering.reply_to.Goals as goal

pub text_reply-requires : goal.text_reply-requires
text_reply-requires g c =
    question-served (map (λ w. string_bytes w) c.args.words.now) _ _ _ _ c.in-Text.asked c.in-Text.bytes c.read_search_words.ensures c.in_ok-asked.ensures.asked c.in-Text.is

pub returns-in-Text-clause-replied : goal.returns-in-Text-clause-replied
returns-in-Text-clause-replied g c =
    text-replied search_program _ _ _ _ _ c.read_search_words.ensures c.in_ok-asked.ensures.asked
    c.in-Text.asked c.in-Text.bytes c.as_slice.result.now c.text_reply.result c.in-Text.is c.as_slice.ensures c.text_reply.ensures.belongs

pub returns-in-Refused-clause-replied : goal.returns-in-Refused-clause-replied
returns-in-Refused-clause-replied g c =
    refused-replied search_program _ _ _ _ _ c.read_search_words.ensures c.in_ok-asked.ensures.asked c.in-Refused.refusal c.in-Refused.is
