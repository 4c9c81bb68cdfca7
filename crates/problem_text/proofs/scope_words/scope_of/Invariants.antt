use Rattle.std.proofs.Common.{◌≡◌, length}
use Rattle.std.specs.List.{before_first}
use Rattle.problem_text.specs.Lines.{words}
use Rattle.problem_text.specs.Tables.{named_by, is_colon}
use Rattle.problem_text.proofs.CellLaws.{behind}
use Rattle.problem_text.proofs.scope_words.scope_of.Given as goal

-- the scope, with what is left before the `:`, is the whole scope
abbrev pub invariant-loop-word : goal.invariant-loop-word
invariant-loop-word l =
    behind l.scope (named_by l.names (before_first is_colon (words l.rest)))
    ≡ named_by l.names (before_first is_colon (words l.text))

abbrev pub decreases-loop-word : goal.decreases-loop-word
decreases-loop-word l = length (words l.rest)
