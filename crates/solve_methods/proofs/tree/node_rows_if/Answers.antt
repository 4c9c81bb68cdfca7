use Rattle.std.proofs.Common.{List, None, Some, sym, ap, ◌∙◌}
use Rattle.std.proofs.lemmas.Bool.{cond-true}
use Rattle.solve_report.specs.declared.tree.NodeRow.{NodeRow}
use Rattle.solve_methods.specs.Tree.{rows_of}
use Rattle.solve_methods.proofs.RowLaws.{rows_same}
use Rattle.solve_methods.proofs.tree.node_rows_if.Goals as goal

pub returns-in_ok-node_rows : goal.returns-in_ok-node_rows
returns-in_ok-node_rows c = λ p is.
    ap (λ (rows : List NodeRow). Some rows) (c.in_ok-node_rows.ensures ∙ rows_same p c.args.tree.now is)
    ∙ sym (cond-true c.args.wanted (Some (rows_of p c.args.tree.now.paths)) None c.if-wanted.true)
