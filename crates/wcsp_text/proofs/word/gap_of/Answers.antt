use Rattle.std.proofs.Common.{not, ap, ◌∙◌, ℕ, Option}
use Rattle.std.specs.Prelude.{unwrap_or, length}
use Rattle.wcsp_text.specs.Words.{is_separator}
use Rattle.wcsp_text.proofs.WordLaws.{unwrap-position}
use Rattle.wcsp_text.proofs.word.gap_of.Goals as goal

pub returns : goal.returns
returns c = c.unwrap_or.ensures ∙ ap (λ (o : Option ℕ). unwrap_or o (length c.args.text.now)) c.first_word_byte.ensures ∙ unwrap-position (λ b. not (is_separator b)) c.args.text.now
