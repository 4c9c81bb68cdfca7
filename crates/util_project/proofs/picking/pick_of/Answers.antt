use Rattle.std.proofs.Common.{arith}
use Rattle.dcop_base.proofs.TableLaws.{parts-of}
use Rattle.cost_table.proofs.PlaceLaws.{place_in-lt}
use Rattle.util_project.proofs.picking.pick_of.Goals as goal

pub pick_at-requires-clause-inside : goal.pick_at-requires-clause-inside
pick_at-requires-clause-inside c =
    let parts = parts-of c.args.scope.now c.args.sizes.now c.args.cells.now c.requires.whole in
    omega (arith, c.place_in.ensures, place_in-lt c.args.scope.now c.args.var c.requires.stands, parts.sized)
