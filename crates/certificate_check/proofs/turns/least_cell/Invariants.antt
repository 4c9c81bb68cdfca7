use Rattle.std.proofs.Common.{◌≡◌, take}
use Rattle.certificate_check.specs.Cuts.{least_cell}
use Rattle.certificate_check.proofs.turns.least_cell.Given as goal

-- the least over the turns so far
abbrev pub invariant-loop-turn : goal.invariant-loop-turn
invariant-loop-turn l = l.least ≡ least_cell l.var (take l.turn-index l.turns)
