use Rattle.std.proofs.Common.{ap, ◌∙◌}
use Rattle.protocol_steps.specs.Adopt.{AdoptView}
use Rattle.protocol_steps.specs.AdoptBounds.{best_lower}
use Rattle.adopt_agent.specs.Stage.{view_at}
use Rattle.adopt_agent.proofs.BoundLaws.{best_lower_shown}
use Rattle.adopt_agent.proofs.agent.AdoptAgent.best_lower.Goals as goal

pub returns-clause-best : goal.returns-clause-best
returns-clause-best c =
    let a = c.self.inside in
    let s = c.self.invariant in
    let v : AdoptView = view_at a.own a.place a.error a.stage a.known a.value a.threshold a.last_received a.told_to_end a.bounds.rows in
    s.best_is.lowest_lower ∙ best_lower_shown v a.costs.items s.costed s.ground.own_fits.size.0 ∙ ap best_lower c.self.view_is
