use Rattle.std.proofs.Common.{◌≡◌, length, true, false, ◌++◌}
use Rattle.std.specs.List.{list_all}
use Rattle.problem_text.specs.Lines.{words}
use Rattle.problem_text.specs.Name.{is_name}
use Rattle.problem_text.specs.Variables.{has_twice}
use Rattle.problem_text.proofs.name_word.labels_of.Given as goal

-- the labels and what is left are all words, what is left are names, and no label stands twice
abbrev pub invariant-loop-word : goal.invariant-loop-word
invariant-loop-word l = (list_all is_name (words l.rest) ≡ true) × (l.labels ++ words l.rest ≡ words l.text) × (has_twice l.labels ≡ false)

abbrev pub decreases-loop-word : goal.decreases-loop-word
decreases-loop-word l = length (words l.rest)
