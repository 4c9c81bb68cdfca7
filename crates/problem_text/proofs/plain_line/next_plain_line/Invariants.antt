use Rattle.std.proofs.Common.{◌≡◌, ◌+◌, ◌≤◌, length}
use Rattle.problem_text.specs.PlainLines.{plain_lines}
use Rattle.problem_text.proofs.plain_line.next_plain_line.Given as goal

-- the lines left are all lines with words
abbrev pub invariant-loop-rest : goal.invariant-loop-rest
invariant-loop-rest l =
    (plain_lines l.number l.rest ≡ plain_lines l.fn.number l.fn.text)
    × (l.number + length l.rest ≤ l.fn.number + length l.fn.text)
    × (l.fn.number ≤ l.number)

abbrev pub decreases-loop-rest : goal.decreases-loop-rest
decreases-loop-rest l = length l.rest
