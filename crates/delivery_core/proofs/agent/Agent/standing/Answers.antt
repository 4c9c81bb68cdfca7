use Rattle.std.proofs.Common.{sym, ap, ◌∙◌}
use Rattle.protocol_steps.specs.Adopt.{AdoptView}
use Rattle.protocol_steps.specs.View.{AdoptKind, standing_of}
use Rattle.delivery_core.specs.Kinds.{view_of}
use Rattle.delivery_core.proofs.agent.Agent.standing.Goals as goal

pub returns-in-Adopt : goal.returns-in-Adopt
returns-in-Adopt c =
    c.standing-in-Adopt.ensures
    ∙ ap (λ (v : AdoptView). standing_of (AdoptKind v)) c.deref.ensures
    ∙ ap standing_of (ap view_of (sym c.in-Adopt.is) ∙ c.self.view_is)
