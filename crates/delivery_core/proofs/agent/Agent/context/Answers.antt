use Rattle.std.proofs.Common.{Some, sym, ap, ◌∙◌}
use Rattle.adopt_context.specs.Context.{Context}
use Rattle.protocol_steps.specs.Adopt.{AdoptView}
use Rattle.protocol_steps.specs.View.{context_of}
use Rattle.delivery_core.specs.Kinds.{view_of}
use Rattle.delivery_core.proofs.agent.Agent.context.Goals as goal

pub returns-in-Adopt : goal.returns-in-Adopt
returns-in-Adopt c =
    sym (ap (λ (k : Context). Some k) (c.context.ensures ∙ ap (λ (v : AdoptView). v.known) c.deref.ensures)
    ∙ ap context_of (ap view_of (sym c.in-Adopt.is) ∙ c.self.view_is))
