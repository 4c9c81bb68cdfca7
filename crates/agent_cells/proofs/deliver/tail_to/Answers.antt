use Rattle.agent_cells.proofs.SettleLaws.{tails_ascend}
use Rattle.agent_cells.proofs.deliver.tail_to.Goals as goal

pub place_of-requires : goal.place_of-requires
place_of-requires c = record { ascend = tails_ascend c.args.tails.now c.requires.ascend }
