use Rattle.std.proofs.Common.{◌≡◌, ◌+◌, ◌≤◌, length, nat_eq}
use Rattle.std.specs.Prelude.{count_by}
use Rattle.problem_text.specs.Lines.{lines, numbered, with_words}
use Rattle.problem_text.specs.Reading.{lines_read, text_read}
use Rattle.problem_text.proofs.reader.draft_of.Given as goal

-- what is left, read behind what was declared, is the whole text read
abbrev pub invariant-loop-line : goal.invariant-loop-line
invariant-loop-line l =
    (lines_read (1 + count_by (λ b. nat_eq b 10) l.bytes) l.before l.draft (with_words (numbered l.number l.used (lines l.rest))) ≡ text_read l.bytes)
    × (l.used + length l.rest ≡ length l.bytes)
    × (l.number + length l.rest ≤ length l.bytes + 1)
    × (l.before + 1 ≤ l.number)

abbrev pub decreases-loop-line : goal.decreases-loop-line
decreases-loop-line l = length (with_words (numbered l.number l.used (lines l.rest)))
