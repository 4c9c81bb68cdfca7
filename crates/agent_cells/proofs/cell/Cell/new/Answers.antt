use Rattle.agent_cells.proofs.CellLaws.{fresh_cell}
use Rattle.std.proofs.Common.{refl}
use Rattle.std.proofs.Common.{◌∙◌}
use Rattle.agent_cells.proofs.cell.Cell.new.Goals as goal

pub returns-clause-cell : goal.returns-clause-cell
returns-clause-cell g c = fresh_cell _ c.requires.fresh c.requires.me c.requires.tails c.requires.heads c.requires.ascend refl (c.from_vec.ensures ∙ c.new.ensures.items) c.requires.unsent c.requires.untaken
