use Rattle.std.proofs.Common.{ap, ◌∙◌, ℕ, Option}
use Rattle.std.specs.Prelude.{unwrap_or, length}
use Rattle.wcsp_text.specs.Words.{is_separator}
use Rattle.wcsp_text.proofs.WordLaws.{unwrap-position}
use Rattle.wcsp_text.proofs.word.run_of.Goals as goal

pub returns : goal.returns
returns c = c.unwrap_or.ensures ∙ ap (λ (o : Option ℕ). unwrap_or o (length c.args.text.now)) c.first_separator.ensures ∙ unwrap-position is_separator c.args.text.now
