use Rattle.std.proofs.Common.{refl, nat_eq, position}
use Rattle.problem_text.proofs.SplitLaws.{first-position}
use Rattle.problem_text.proofs.line.found.Goals as goal

pub returns : goal.returns
returns c = first-position (λ b. nat_eq b c.args.sought) c.args.bytes.now c.memchr.result (position (λ b. nat_eq b c.args.sought) c.args.bytes.now) refl c.memchr.ensures
