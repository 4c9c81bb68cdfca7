use Rattle.std.proofs.Common.{◌<◌, length, rules}
use Rattle.dcop_base.proofs.TableLaws.{place-lt}
use Rattle.dcop_base.proofs.table.Table.eval.Goals as goal

pub offset_bounds-cells-place_at : goal.offset_bounds-cells-place_at
offset_bounds-cells-place_at c =
    let inside = c.self.inside in
    let within = rw (← c.self.view_is) at c.requires.sizes in
    let lt : c.place_at.result < length c.as_slice-cells.result.now = rw (c.place_at.ensures, c.as_slice-cells.ensures, c.as_slice-sizes.ensures, c.as_slice-scope.ensures) (place-lt inside.scope inside.sizes inside.cells c.args.values.now c.self.invariant within) in
    search rules

pub bounds-cells-place_at : goal.bounds-cells-place_at
bounds-cells-place_at c =
    let inside = c.self.inside in
    let within = rw (← c.self.view_is) at c.requires.sizes in
    rw (c.place_at.ensures, c.as_slice-cells.ensures, c.as_slice-sizes.ensures, c.as_slice-scope.ensures) (place-lt inside.scope inside.sizes inside.cells c.args.values.now c.self.invariant within)
