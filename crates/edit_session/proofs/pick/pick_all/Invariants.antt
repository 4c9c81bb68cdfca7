use Rattle.edit_session.proofs.LoopLaws.{HasPicked}
use Rattle.edit_session.proofs.pick.pick_all.Given as goal

abbrev pub invariant-loop-var : goal.invariant-loop-var
invariant-loop-var l = HasPicked l.problem l.tree.paths l.kept l.order l.values.items l.var-index
