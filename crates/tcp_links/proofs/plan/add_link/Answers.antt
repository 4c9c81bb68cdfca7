use Rattle.std.proofs.Common.{List, ap, ◌∙◌}
use Rattle.std.specs.List.{remove}
use Rattle.tcp_links.specs.declared.plan.InnerEnds.{InnerEnds}
use Rattle.tcp_links.proofs.PlanLaws.{remove_insert}
use Rattle.tcp_links.proofs.plan.add_link.Goals as goal

pub returns-in-Err-clause-same : goal.returns-in-Err-clause-same
returns-in-Err-clause-same c = (
  c.in-Err.ensures.items,
  c.remove.ensures.items ∙ ap (λ (es : List InnerEnds). remove es c.args.place) c.in_ok-insert.ensures.items ∙ remove_insert c.args.ends.now.items c.args.place c.args.inner c.requires.inside.1,
)
