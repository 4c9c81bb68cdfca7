use Rattle.edit_session.proofs.LoopLaws.{HasRemade}
use Rattle.edit_session.proofs.remaking.remake_touched.Given as goal

abbrev pub invariant-loop-index : goal.invariant-loop-index
invariant-loop-index g l = HasRemade l.problem l.tree.paths l.touched l.order l.fn.kept.items l.kept.items l.fn.steps l.steps l.index
