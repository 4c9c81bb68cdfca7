use Rattle.std.proofs.Common.{◌≡◌, length}
use Rattle.std.specs.List.{list_all}
use Rattle.problem_text.specs.Lines.{words}
use Rattle.problem_text.specs.Name.{is_name}
use Rattle.problem_text.proofs.name_word.are_names.Given as goal

-- what is left decides
abbrev pub invariant-loop-word : goal.invariant-loop-word
invariant-loop-word l = list_all is_name (words l.rest) ≡ list_all is_name (words l.text)

abbrev pub decreases-loop-word : goal.decreases-loop-word
decreases-loop-word l = length (words l.rest)
