use Rattle.wcsp_text.proofs.CappedLaws.{capped-whole}
use Rattle.wcsp_text.proofs.problem.table_of.Goals as goal

pub invariant_of-result : goal.invariant_of-result
invariant_of-result c =
    rw c.in_ok-cells.ensures (capped-whole (record { scope = c.function.inside.scope; sizes = c.function.inside.sizes; cells = c.function.inside.cells }) c.args.top c.args.hard c.into_vec-cells.result.len c.into_vec-cells.result.items c.as_mut_slice.result.now c.raise.new.cells
    c.function.invariant c.into_vec-cells.ensures c.as_mut_slice.ensures.value c.raise.ensures c.as_mut_slice.ensures.len)
