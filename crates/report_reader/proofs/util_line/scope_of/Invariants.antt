use Rattle.std.proofs.Common.{◌≡◌, ◌++◌, length}
use Rattle.std.specs.List.{before_first}
use Rattle.problem_text.specs.Lines.{words}
use Rattle.problem_text.specs.Tables.{named_by, is_colon}
use Rattle.report_reader.specs.UtilLine.{known_among}
use Rattle.report_reader.proofs.UtilLineLaws.{wholly}
use Rattle.report_reader.proofs.util_line.scope_of.Given as goal

-- what was read, with what is left before the `:`, is the whole scope
abbrev pub invariant-loop-word : goal.invariant-loop-word
invariant-loop-word l =
    (l.known.items ++ known_among l.names (before_first is_colon (words l.rest)) ≡ known_among l.names (before_first is_colon (words l.text)))
    × (wholly l.whole l.known.items (named_by l.names (before_first is_colon (words l.rest))) ≡ named_by l.names (before_first is_colon (words l.text)))

abbrev pub decreases-loop-word : goal.decreases-loop-word
decreases-loop-word l = length (words l.rest)
