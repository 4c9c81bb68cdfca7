use Rattle.std.proofs.Common.{◌≡◌}
use Rattle.problem_text.specs.Numbered.{numbered_names}
use Rattle.problem_text.proofs.numbered.number_names.Given as goal

abbrev pub invariant-loop-var : goal.invariant-loop-var
invariant-loop-var l = l.names ≡ numbered_names l.var-counter
