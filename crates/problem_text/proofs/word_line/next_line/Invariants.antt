use Rattle.std.proofs.Common.{◌≡◌, ◌+◌, ◌≤◌, length}
use Rattle.problem_text.specs.Lines.{lines, numbered, with_words}
use Rattle.problem_text.proofs.word_line.next_line.Given as goal

-- the lines left are all lines with words
abbrev pub invariant-loop-rest : goal.invariant-loop-rest
invariant-loop-rest l =
    (with_words (numbered l.number l.used (lines l.rest)) ≡ with_words (numbered l.fn.number l.fn.used (lines l.fn.text)))
    × (l.used + length l.rest ≡ l.fn.used + length l.fn.text)
    × (l.number + length l.rest ≤ l.fn.number + length l.fn.text)
    × (l.fn.number ≤ l.number)

abbrev pub decreases-loop-rest : goal.decreases-loop-rest
decreases-loop-rest l = length l.rest
