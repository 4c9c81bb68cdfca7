use Rattle.std.proofs.Common.{◌≡◌, ℕ, ◌+◌, List, None, length, take, sym, ap, ◌∙◌, arith}
use Rattle.dcop_base.specs.Table.{CostTable, greatest}
use Rattle.dcop_base.specs.Faults.{next_fault}
use Rattle.dcop_base.proofs.FaultLaws.{next-none, faults-more, totals-more}
use Rattle.dcop_base.proofs.fault.tables_fault_of.Goals as goal

pub loop-table-preserved : goal.loop-table-preserved
loop-table-preserved c =
    let sizes = c.args.sizes.now in
    let tables = c.args.tables.now in
    let k = c.loop-table.table-index in
    let t = c.table-item.result in
    let before = c.loop-table.before in
    let invariant = c.loop-table.invariant in
    let none : next_fault sizes (take k tables) t ≡ None = sym (c.in_default.ensures (take k tables) invariant.totals) in
    let next = next-none sizes (take k tables) t none in
    let same = c.as_slice-cells.ensures ∙ ap (λ (t : CostTable). t.cells) c.table.view_is in
    let cells = c.totals_with-before.ensures.cells ∙ ap (λ (cells : List ℕ). before.cells + length cells) same in
    let most : c.greatest_of-most.result ≡ greatest t.cells = c.greatest_of-most.ensures ∙ ap greatest same in
    let sum = c.totals_with-before.ensures.sum ∙ ap (λ (n : ℕ). before.sum + n) most in
    record {
      totals = totals-more tables k t before c.totals_with-before.result c.loop-table-test.true c.table-item.is invariant.totals c.totals_with-before.ensures.tables cells sum;
      cells = omega (arith, next.cells, invariant.totals.cells, cells);
      sum = omega (arith, next.sums, invariant.totals.sum, sum);
      rest = sym (faults-more sizes tables k t c.loop-table-test.true c.table-item.is none) ∙ invariant.rest;
    }
