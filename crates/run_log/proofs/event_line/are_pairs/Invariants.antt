use Rattle.std.proofs.Common.{◌≡◌, length}
use Rattle.problem_text.specs.Lines.{words}
use Rattle.run_log.specs.EventLine as lines
use Rattle.run_log.proofs.event_line.are_pairs.Given as goal

-- what is left is in pairs where the whole is
abbrev pub invariant-loop-behind : goal.invariant-loop-behind
invariant-loop-behind l = lines.are_pairs (words l.rest) ≡ lines.are_pairs (words l.text)

abbrev pub decreases-loop-behind : goal.decreases-loop-behind
decreases-loop-behind l = length (words l.rest)
