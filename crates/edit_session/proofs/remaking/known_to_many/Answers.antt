use Rattle.edit_session.proofs.LoopLaws.{known_all}
use Rattle.edit_session.proofs.remaking.known_to_many.Goals as goal

pub returns : goal.returns
returns c = known_all c.args.problem.now c.privates.result c.privates.ensures
