use Rattle.serve_replies.proofs.ReplyLaws.{one_reply}
use Rattle.serve_replies.proofs.maker.SolveMakerMaker.keys_have_one_reply.Goals as goal

pub returns : goal.returns
returns c = one_reply c.dpop_answers_are_one.ensures
