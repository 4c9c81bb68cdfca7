use Rattle.std.proofs.Common.{◌∙◌, ap, ℕ, Option}
use Rattle.std.specs.Prelude.{is_some}
use Rattle.std.specs.Str.{bytes_eq}
use Rattle.problem_text.proofs.NameLaws.{is_some-position}
use Rattle.problem_text.proofs.name_word.is_declared.Goals as goal

pub returns : goal.returns
returns c = c.is_some.ensures ∙ ap (λ (o : Option ℕ). is_some o) c.find.ensures ∙ is_some-position (bytes_eq c.args.name.now) c.args.names.now
