use Rattle.std.proofs.Common.{◌≡◌, [], replicate}
use Rattle.problem_text.proofs.numbered.no_labels.Given as goal

abbrev pub invariant-loop : goal.invariant-loop
invariant-loop l = l.labels.items ≡ replicate l.counter []
