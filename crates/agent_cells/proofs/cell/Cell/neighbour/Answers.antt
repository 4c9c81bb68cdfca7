use Rattle.agent_cells.proofs.NeighbourLaws.{peer_at}
use Rattle.agent_cells.proofs.cell.Cell.neighbour.Goals as goal

pub returns : goal.returns
returns g c = λ d. peer_at c.args.self.now.heads.items c.args.place d c.index.result.now c.requires c.index.ensures
