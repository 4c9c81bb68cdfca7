use Rattle.std.proofs.Common.{nat_eq, ap, ◌∙◌, ℕ, Option}
use Rattle.std.specs.Prelude.{unwrap_or, length}
use Rattle.problem_text.proofs.SplitLaws.{unwrap-position}
use Rattle.problem_text.proofs.line.place_of.Goals as goal

pub returns : goal.returns
returns c = c.unwrap_or.ensures ∙ ap (λ (o : Option ℕ). unwrap_or o (length c.args.bytes.now)) c.found.ensures ∙ unwrap-position (λ b. nat_eq b c.args.sought) c.args.bytes.now
