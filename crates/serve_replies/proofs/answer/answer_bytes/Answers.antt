use Rattle.std.proofs.Common.{◌≡◌, map, string_bytes, ap, ◌∙◌}
use Rattle.dcop_edge.specs.Memory.{SteadyState}
use Rattle.serve_replies.specs.Reply.{dpop_words}
use Rattle.serve_replies.proofs.ReplyLaws.{answered_so, reply_written}
use Rattle.serve_replies.proofs.answer.answer_bytes.Goals as goal

pub returns : goal.returns
returns g c =
    let given = ap (λ (s : SteadyState). s.left) c.new-source.ensures ∙ c.in_ok-from_slice.ensures.items in
    let words : map string_bytes c.as_slice.result.now ≡ dpop_words = rw c.as_slice.ensures.value c.in_ok-words.ensures in
    reply_written c.text_of.result c.args.bytes.now c.in_ok-answer.answer (answered_so c.args.bytes.now _ _ _ _ _ c.in_ok-answer.answer given words c.in_ok-answer.ensures.answered) c.text_of.ensures
