use Rattle.std.proofs.Common.{◌<◌, length, arith}
use Rattle.dcop_base.proofs.TableLaws.{parts-of}
use Rattle.cost_table.proofs.PlaceLaws.{place_in-lt}
use Rattle.util_project.proofs.LeastLaws.{projection-of}
use Rattle.util_project.proofs.projecting.project_of.Goals as goal

pub leasts_at-requires-clause-inside : goal.leasts_at-requires-clause-inside
leasts_at-requires-clause-inside c =
    let parts = parts-of c.args.scope.now c.args.sizes.now c.args.cells.now c.requires.whole in
    omega (arith, c.place_in-place.ensures, place_in-lt c.args.scope.now c.args.var c.requires.stands, parts.sized)

pub scope_without-requires : goal.scope_without-requires
scope_without-requires c = omega (arith, c.place_in-place.ensures, place_in-lt c.args.scope.now c.args.var c.requires.stands)

pub sizes_without-requires : goal.sizes_without-requires
sizes_without-requires c =
    let parts = parts-of c.args.scope.now c.args.sizes.now c.args.cells.now c.requires.whole in
    omega (arith, c.place_in-place.ensures, place_in-lt c.args.scope.now c.args.var c.requires.stands, parts.sized)

pub invariant_of-result : goal.invariant_of-result
invariant_of-result c =
    let scope = c.args.scope.now in
    let sizes = c.args.sizes.now in
    let place = c.place_in-place.result in
    let parts = parts-of scope sizes c.args.cells.now c.requires.whole in
    let lt : place < length sizes = omega (arith, c.place_in-place.ensures, place_in-lt scope c.args.var c.requires.stands, parts.sized) in
    (projection-of scope sizes c.args.cells.now c.args.var place c.in_ok-kept.kept.items c.in_ok-scope.scope c.in_ok-sizes.sizes c.in_ok-cells.cells c.place_in-place.ensures lt c.requires.whole c.in_ok-kept.ensures c.in_ok-scope.ensures c.in_ok-sizes.ensures c.in_ok-cells.ensures).whole

pub returns : goal.returns
returns c =
    let scope = c.args.scope.now in
    let sizes = c.args.sizes.now in
    let place = c.place_in-place.result in
    let parts = parts-of scope sizes c.args.cells.now c.requires.whole in
    let lt : place < length sizes = omega (arith, c.place_in-place.ensures, place_in-lt scope c.args.var c.requires.stands, parts.sized) in
    projection-of scope sizes c.args.cells.now c.args.var place c.in_ok-kept.kept.items c.in_ok-scope.scope c.in_ok-sizes.sizes c.in_ok-cells.cells c.place_in-place.ensures lt c.requires.whole c.in_ok-kept.ensures c.in_ok-scope.ensures c.in_ok-sizes.ensures c.in_ok-cells.ensures
