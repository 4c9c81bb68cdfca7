use Rattle.std.proofs.Common.{arith}
use Rattle.dcop_base.proofs.TableLaws.{parts-of}
use Rattle.cost_table.proofs.PlaceLaws.{place_in-lt}
use Rattle.shared_costs.proofs.table.lower_of.Goals as goal

pub lower_at-requires-clause-inside : goal.lower_at-requires-clause-inside
lower_at-requires-clause-inside c =
    let parts = parts-of c.args.scope.now c.args.sizes.now c.args.cells.now c.requires.whole in
    omega (arith, c.place_in.ensures, place_in-lt c.args.scope.now c.args.var c.requires.names, parts.sized)
