use Rattle.std.proofs.Common.{◌+◌, ◌-◌, ◌*◌, length}
use Rattle.agent_workers.proofs.parts.+parts.Given as goal

abbrev pub decreases-play_parts : goal.decreases-play_parts
decreases-play_parts g l = 4 * length l.all.now

abbrev pub decreases-play_beside : goal.decreases-play_beside
decreases-play_beside g l = 4 * (length l.part.now + length l.others.now) - 1

abbrev pub decreases-play_beside-rest : goal.decreases-play_beside-rest
decreases-play_beside-rest g l = 4 * length l.others.now + 1
