use Rattle.std.proofs.Common.{◌≡◌, ◌++◌, length}
use Rattle.problem_text.specs.Lines.{words}
use Rattle.problem_text.specs.Tables.{named_by}
use Rattle.report_reader.specs.UtilLine.{known_among}
use Rattle.report_reader.proofs.UtilLineLaws.{wholly}
use Rattle.report_reader.proofs.cut_line.named_in.Given as goal

-- what was read, with what is left, is all that the words name
abbrev pub invariant-loop-word : goal.invariant-loop-word
invariant-loop-word l =
    (l.known.items ++ known_among l.names (words l.rest) ≡ known_among l.names (words l.text))
    × (wholly l.whole l.known.items (named_by l.names (words l.rest)) ≡ named_by l.names (words l.text))

abbrev pub decreases-loop-word : goal.decreases-loop-word
decreases-loop-word l = length (words l.rest)
