use Rattle.std.proofs.Common.{◌≡◌, None}
use Rattle.std.specs.List.{range_with_len}
use Rattle.certificate_check.specs.Cuts.{cells_in_turn}
use Rattle.certificate_check.specs.Differences.{first_of}
use Rattle.certificate_check.proofs.turns.cells_in_turns.Given as goal

abbrev pub invariant-loop-number : goal.invariant-loop-number
invariant-loop-number l = first_of (cells_in_turn l.problem l.tree.paths l.cut l.turns) (range_with_len 0 l.number) ≡ None
