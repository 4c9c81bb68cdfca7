use Rattle.std.proofs.Common.{length, ◌+◌, ◌*◌}
use Rattle.solve_serve.proofs.turns.+turns.Given as goal

abbrev pub decreases-each_from : goal.decreases-each_from
decreases-each_from g l = 4 * length l.items.now

abbrev pub decreases-own_beside-behind : goal.decreases-own_beside-behind
decreases-own_beside-behind g l = 4 * length l.rest.now + 1

abbrev pub decreases-own_beside : goal.decreases-own_beside
decreases-own_beside g l = 4 * length l.rest.now + 2
