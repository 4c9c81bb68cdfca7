use Rattle.dcop_optimum.proofs.TurnedTableLaws.{cells_below}
use Rattle.std.proofs.Common.{ℕ, ◌≤◌, sym, subst}
use Rattle.std.specs.List.{All}
use Rattle.edit_session.proofs.edit.turn_cells.Goals as goal

pub cells_less-requires : goal.cells_less-requires
cells_less-requires c = subst (λ (most : ℕ). All (λ cell. cell ≤ most) c.args.cells.now) (sym c.greatest_of.ensures) (cells_below c.args.cells.now)
