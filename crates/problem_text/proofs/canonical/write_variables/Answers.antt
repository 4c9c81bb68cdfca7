use Rattle.std.proofs.Common.{arith}
use Rattle.problem_text.proofs.LineLaws.{variable_lines-next, piece-next}
use Rattle.problem_text.proofs.canonical.write_variables.Goals as goal

pub loop-place-preserved : goal.loop-place-preserved
loop-place-preserved c =
    let next = variable_lines-next c.args.names.now c.args.sizes.now c.args.labels.now c.loop-place.place _ _ c.name.ensures (omega arith) (omega arith) c.index-labels-place.is in
    piece-next _ _ _ _ _ c.in_ok-write_variable.ensures (rw next at c.loop-place.invariant)
