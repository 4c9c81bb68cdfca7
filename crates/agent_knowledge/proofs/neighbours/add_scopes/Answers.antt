use Rattle.std.proofs.Common.{◌<◌, length, ap, ◌∙◌, arith}
use Rattle.dcop_base.specs.Table.{CostTable}
use Rattle.agent_knowledge.proofs.RowLaws.{scopes_more}
use Rattle.agent_knowledge.proofs.neighbours.add_scopes.Goals as goal

pub loop-table-preserved : goal.loop-table-preserved
loop-table-preserved c =
    let tables = c.args.tables.now in
    let lt : c.loop-table.table-index < length tables = omega (arith, c.loop-table-test.true, c.loop-table.auto.table-index-end) in
    record {
      added = scopes_more tables c.loop-table.table-index c.table-item.result c.as_slice.result.now c.args.rows.now c.loop-table.rows c.add_scope.new.rows lt c.table-item.is
          (c.as_slice.ensures ∙ ap (λ (t : CostTable). t.scope) c.table.view_is) c.loop-table.invariant.size c.loop-table.invariant.added c.in_ok-add_scope.ensures.added;
      size = c.add_scope.ensures.size ∙ c.loop-table.invariant.size;
    }
