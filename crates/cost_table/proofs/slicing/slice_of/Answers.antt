use Rattle.std.proofs.Common.{◌<◌, length, arith}
use Rattle.dcop_base.proofs.TableLaws.{parts-of}
use Rattle.cost_table.proofs.PlaceLaws.{place_in-lt}
use Rattle.cost_table.proofs.SliceLaws.{slice-parts}
use Rattle.cost_table.proofs.slicing.slice_of.Goals as goal

pub invariant_of-result : goal.invariant_of-result
invariant_of-result c =
    let scope = c.args.scope.now in
    let sizes = c.args.sizes.now in
    let place = c.place_in-place.result in
    let parts = parts-of scope sizes c.args.cells.now c.requires.whole in
    let lt : place < length sizes = omega (arith, c.place_in-place.ensures, place_in-lt scope c.args.var c.requires.stands, parts.sized) in
    rw (c.in_ok-cells.ensures, c.in_ok-scope.ensures, c.in_ok-sizes.ensures) (slice-parts scope sizes c.args.cells.now place c.in_ok-kept.kept.items lt c.requires.whole c.in_ok-kept.ensures.count c.in_ok-kept.ensures.within)
