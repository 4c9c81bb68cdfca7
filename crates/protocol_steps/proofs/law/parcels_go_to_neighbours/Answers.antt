use Rattle.protocol_steps.proofs.ParcelLaws as found
use Rattle.protocol_steps.proofs.law.parcels_go_to_neighbours.Goals as goal

pub returns : goal.returns
returns c = found.parcels_go_to_neighbours
