use Rattle.std.proofs.Common.{◌∙◌, arith}
use Rattle.delivery_core.specs.State.{views_of}
use Rattle.solve_printed.specs.Rows.{rows_from}
use Rattle.solve_printed.proofs.RowLaws.{rows-more, rows-all}
use Rattle.solve_printed.proofs.rows.rows_of.Goals as goal

pub loop-at-preserved : goal.loop-at-preserved
loop-at-preserved c =
    rows-more (views_of c.args.core.now.seats) c.loop-at.at _ _ _ c.row_of.result c.row_of.ensures c.in_ok-push.ensures.items c.loop-at.invariant

pub returns : goal.returns
returns c = c.from_vec.ensures ∙ rows-all c.args.core.now.seats c.loop-at.at c.loop-at.rows.items (rows_from 0 (views_of c.args.core.now.seats)) (omega (arith, c.requires.all, c.loop-at-test.false)) c.loop-at.invariant
