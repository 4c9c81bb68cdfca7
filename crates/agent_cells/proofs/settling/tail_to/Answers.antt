use Rattle.agent_cells.proofs.SettleLaws.{tails_ascend}
use Rattle.agent_cells.proofs.settling.tail_to.Goals as goal

pub place_near-requires : goal.place_near-requires
place_near-requires c = record { ascend = tails_ascend c.args.tails.now c.requires.ascend }
