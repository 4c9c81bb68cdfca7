use Rattle.std.proofs.Common.{arith, []}
use Rattle.std.proofs.lemmas.Grind.{common_steps}
use Rattle.std.proofs.lemmas.Option.{get_or_from_slice_get}
use Rattle.problem_text.proofs.canonical.write_scope.Goals as goal

pub loop-var-preserved : goal.loop-var-preserved
loop-var-preserved c =
    let name = get_or_from_slice_get c.args.names.now c.var-item.result c.name-name.result.now [] c.name-name.ensures in
    grind (arith, common_steps, name)
