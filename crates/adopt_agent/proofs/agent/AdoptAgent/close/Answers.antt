use Rattle.std.proofs.Common.{ap, ◌∙◌}
use Rattle.protocol_steps.specs.Adopt.{AdoptView}
use Rattle.protocol_steps.specs.AdoptStep.{allotted, choose, settle}
use Rattle.adopt_agent.proofs.agent.AdoptAgent.close.Goals as goal

pub returns : goal.returns
returns c =
    c.settle.ensures ∙ ap settle c.allot.ensures ∙ ap (λ (v : AdoptView). settle (allotted v)) c.choose.ensures ∙ ap (λ (v : AdoptView). settle (allotted (choose v))) c.restore.ensures
