use Rattle.std.proofs.Common.{not, ap, ◌∙◌, ℕ, Option}
use Rattle.std.specs.Prelude.{unwrap_or, length}
use Rattle.problem_text.specs.Lines.{is_blank}
use Rattle.problem_text.proofs.SplitLaws.{unwrap-position}
use Rattle.problem_text.proofs.word.blanks_of.Goals as goal

pub returns : goal.returns
returns c = c.unwrap_or.ensures ∙ ap (λ (o : Option ℕ). unwrap_or o (length c.args.text.now)) c.first_word_byte.ensures ∙ unwrap-position (λ b. not (is_blank b)) c.args.text.now
