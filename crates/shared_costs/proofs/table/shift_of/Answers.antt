use Rattle.std.proofs.Common.{ℕ, refl, subst, arith}
use Rattle.shared_costs.specs.Runs.{IsShifted}
use Rattle.shared_costs.specs.Moves.{cells_behind}
use Rattle.dcop_base.proofs.TableLaws.{parts-of}
use Rattle.cost_table.proofs.PlaceLaws.{place_in-lt}
use Rattle.shared_costs.proofs.MoveLaws.{shifted-whole}
use Rattle.shared_costs.proofs.table.shift_of.Goals as goal

pub shift_at-requires-clause-inside : goal.shift_at-requires-clause-inside
shift_at-requires-clause-inside c =
    let parts = parts-of c.args.scope.now c.args.sizes.now c.args.cells.now c.requires.whole in
    omega (arith, c.place_in-place.ensures, place_in-lt c.args.scope.now c.args.var c.requires.names, parts.sized)

pub returns-clause-whole : goal.returns-clause-whole
returns-clause-whole c = shifted-whole c.args.scope.now c.args.sizes.now c.args.cells.now c.shift_at.new.cells _ c.args.lows.now c.args.gains.now c.requires.whole c.shift_at.ensures

pub returns-clause-moved : goal.returns-clause-moved
returns-clause-moved c = record {
  scope = refl;
  sizes = refl;
  whole = shifted-whole c.args.scope.now c.args.sizes.now c.args.cells.now c.shift_at.new.cells _ c.args.lows.now c.args.gains.now c.requires.whole c.shift_at.ensures;
  cells = subst (λ (n : ℕ). IsShifted (cells_behind c.args.sizes.now n) c.args.lows.now c.args.gains.now c.args.cells.now c.shift_at.new.cells) c.place_in-place.ensures c.shift_at.ensures;
}
