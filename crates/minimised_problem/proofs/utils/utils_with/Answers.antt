use Rattle.std.proofs.Common.{◌∙◌}
use Rattle.minimised_problem.proofs.MadeLaws.{preorder_item}
use Rattle.minimised_problem.proofs.utils.utils_with.Goals as goal

pub util_of-requires : goal.util_of-requires
util_of-requires c =
    preorder_item c.args.tree.now.paths c.as_slice-vars.result.now c.loop-var.var-index c.var-item.result
    (c.as_slice-vars.ensures ∙ c.preorder.ensures) c.loop-var-test.true c.var-item.is
