use Rattle.std.proofs.Common.{◌≡◌, ◌+◌, ◌≤◌, length}
use Rattle.problem_text.specs.Lines.{words}
use Rattle.report_reader.specs.Told.{amounts_of}
use Rattle.report_reader.proofs.UtilLineLaws.{counted}
use Rattle.report_reader.proofs.util_line.count_of.Given as goal

-- so many were read, and what is left decides
abbrev pub invariant-loop-word : goal.invariant-loop-word
invariant-loop-word l =
    (counted l.count (amounts_of (words l.rest)) ≡ counted 0 (amounts_of (words l.text)))
    × (l.count + length (words l.rest) ≤ length l.text)

abbrev pub decreases-loop-word : goal.decreases-loop-word
decreases-loop-word l = length (words l.rest)
