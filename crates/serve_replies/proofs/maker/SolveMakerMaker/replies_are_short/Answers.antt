use Rattle.serve_replies.proofs.ShortLaws.{short_reply}
use Rattle.serve_replies.proofs.maker.SolveMakerMaker.replies_are_short.Goals as goal

pub returns : goal.returns
returns c = short_reply
