use Rattle.std.proofs.Common.{◌≡◌, ◌≤◌, ◌+◌, length}
use Rattle.std.specs.List.{list_any, position_or_len, after_first}
use Rattle.problem_text.specs.Lines.{words}
use Rattle.problem_text.specs.Tables.{is_colon}
use Rattle.problem_text.proofs.scope_words.past_colon.Given as goal

-- so many words were no `:`, and what is left decides
abbrev pub invariant-loop-word : goal.invariant-loop-word
invariant-loop-word l =
    (list_any is_colon (words l.rest) ≡ list_any is_colon (words l.text))
    × (l.count + position_or_len is_colon (words l.rest) ≡ position_or_len is_colon (words l.text))
    × (after_first is_colon (words l.rest) ≡ after_first is_colon (words l.text))
    × (l.count + length (words l.rest) ≤ length l.text)

abbrev pub decreases-loop-word : goal.decreases-loop-word
decreases-loop-word l = length (words l.rest)
