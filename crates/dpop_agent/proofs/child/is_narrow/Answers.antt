use Rattle.std.proofs.Common.{ℕ, Option, is_some, ap, ◌∙◌}
use Rattle.dcop_base.specs.Table.{product}
use Rattle.dcop_base.specs.Limits.{joined_limit}
use Rattle.dpop_agent.proofs.TakeLaws.{within_limit}
use Rattle.dpop_agent.proofs.child.is_narrow.Goals as goal

pub returns : goal.returns
returns c = c.is_some.ensures ∙ ap (λ (o : Option ℕ). is_some o) c.cells_of.ensures ∙ within_limit joined_limit (product c.args.sizes.now)
