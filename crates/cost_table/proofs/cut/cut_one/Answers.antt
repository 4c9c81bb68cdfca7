use Rattle.std.proofs.Common.{◌≤◌, length, ap}
use Rattle.dcop_base.specs.Table.{CostTable}
use Rattle.cost_table.specs.Cells.{place_in}
use Rattle.cost_table.proofs.CutLaws.{keeps-all}
use Rattle.cost_table.proofs.cut.cut_one.Goals as goal

pub returns-else-place-sizes : goal.returns-else-place-sizes
returns-else-place-sizes c =
    let t = c.args.table in
    let scope = ap (λ (w : CostTable). w.scope) c.table.view_is in
    let past : length t.sizes ≤ place_in t.scope c.args.var = rw (← c.table.view_is, ← c.as_slice-sizes.ensures, ← c.as_slice-scope.ensures, ← c.place_in-place.ensures) c.if-place-sizes.false in
    keeps-all t (place_in t.scope c.args.var) c.args.val c.requires.whole past
