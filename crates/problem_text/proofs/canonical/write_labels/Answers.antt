use Rattle.std.proofs.Common.{arith}
use Rattle.std.proofs.lemmas.Grind.{common_steps}
use Rattle.std.proofs.lemmas.Option.{get_or_from_slice_get}
use Rattle.problem_text.proofs.canonical.write_labels.Goals as goal

pub loop-value-preserved : goal.loop-value-preserved
loop-value-preserved c =
    let name = get_or_from_slice_get c.args.labels.now c.loop-value.value c.name-label.result.now c.name-label.result.now c.name-label.ensures in
    grind (arith, common_steps, name)
