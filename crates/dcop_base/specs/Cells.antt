-- Where a cell list holds its cells.
use Rattle.std.specs.Prelude.{List, ℕ}
use Rattle.std.specs.Arc.{arc_value}
use Rattle.dcop_base.specs.declared.cells.Block.{Block}
use Rattle.dcop_base.specs.declared.cells.Block.TheVariants.{Own, Shared}

-- the cells of a block, wherever it holds them
abbrev pub cells_in : Block → List ℕ
cells_in (Own cells) = cells.items
cells_in (Shared cells) = (arc_value cells).items
