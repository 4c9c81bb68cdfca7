use Rattle.std.proofs.Common.{◌≡◌, ◌+◌, ◌≤◌, length}
use Rattle.problem_text.specs.Lines.{words}
use Rattle.report_reader.proofs.turn_line.word_count.Given as goal

-- so many were passed, and what is left are the others
abbrev pub invariant-loop-after : goal.invariant-loop-after
invariant-loop-after l =
    (l.count + length (words l.rest) ≡ length (words l.text))
    × (l.count + length (words l.rest) ≤ length l.text)

abbrev pub decreases-loop-after : goal.decreases-loop-after
decreases-loop-after l = length (words l.rest)
