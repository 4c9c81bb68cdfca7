use Rattle.std.proofs.Common.{◌∙◌}
use Rattle.solve_methods.proofs.RowLaws.{preorder_item}
use Rattle.solve_methods.proofs.tree.node_rows.Goals as goal

pub node_row-requires : goal.node_row-requires
node_row-requires c =
    preorder_item c.args.tree.now.paths c.as_slice-vars.result.now c.loop-var.var-index c.var-item.result
    (c.as_slice-vars.ensures ∙ c.preorder.ensures) c.loop-var-test.true c.var-item.is
