use Rattle.agent_cells.proofs.SettleLaws.{heads_ascend}
use Rattle.agent_cells.proofs.settling.head_from.Goals as goal

pub place_near-requires : goal.place_near-requires
place_near-requires c = record { ascend = heads_ascend c.args.heads.now c.requires.ascend }
