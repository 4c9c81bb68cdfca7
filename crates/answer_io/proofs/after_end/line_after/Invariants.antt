use Rattle.std.proofs.Common.{◌≡◌, ℕ, ◌+◌, ◌≤◌, List, length, Option, find, nat_lt}
use Rattle.problem_text.specs.Lines.{Line, lines, numbered, with_words}
use Rattle.answer_io.proofs.after_end.line_after.Given as goal

-- the first of these lines that has words and ends after more than `used` bytes
abbrev pub first_after : ℕ → ℕ → ℕ → List (List ℕ) → Option Line
first_after used number at ls = find (λ line. nat_lt used line.used) (with_words (numbered number at ls))

abbrev pub invariant-loop-line : goal.invariant-loop-line
invariant-loop-line l = record {
  same : first_after l.used 1 0 (lines l.text) ≡ first_after l.used l.number l.at (lines l.rest);
  size : l.at + length l.rest ≡ length l.text;
  count : l.number + length l.rest ≤ length l.text + 1;
}

abbrev pub decreases-loop-line : goal.decreases-loop-line
decreases-loop-line l = length (with_words (numbered l.number l.at (lines l.rest)))
