use Rattle.std.proofs.Common.{◌≡◌, ◌≤◌, subst}
use Rattle.dcop_base.specs.Table.{CostTable, product}
use Rattle.util_join.specs.Strides.{stride}
use Rattle.util_join.proofs.StrideLaws.{stride-fits}
use Rattle.util_join.proofs.stride.stride_of.Goals as goal

pub returns : goal.returns
returns c =
    let is = rw (c.as_slice.ensures, c.as_slice-2.ensures) at c.stride_in.ensures in
    subst (λ (t : CostTable). product t.sizes ≤ 18446744073709551615 → c.stride_in.result ≡ stride t.scope t.sizes c.args.var) c.table.view_is
    (λ few. stride-fits c.table.inside.scope c.table.inside.sizes c.table.inside.cells c.args.var 18446744073709551615 c.stride_in.result c.table.invariant few is) c.requires
