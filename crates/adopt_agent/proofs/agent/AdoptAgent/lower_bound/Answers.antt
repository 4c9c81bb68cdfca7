use Rattle.std.proofs.Common.{◌≡◌, ℕ, ◌<◌, ap, ◌∙◌, arith}
use Rattle.protocol_steps.specs.Adopt.{AdoptView}
use Rattle.protocol_steps.specs.AdoptBounds.{best_lower, lower_bound, lower_of}
use Rattle.adopt_agent.specs.Stage.{view_at}
use Rattle.adopt_agent.proofs.BoundLaws.{lower_shown, best_lower_shown}
use Rattle.adopt_agent.proofs.agent.AdoptAgent.lower_bound.Goals as goal

pub returns-clause-bound : goal.returns-clause-bound
returns-clause-bound c =
    let a = c.self.inside in
    let s = c.self.invariant in
    let v : AdoptView = view_at a.own a.place a.error a.stage a.known a.value a.threshold a.last_received a.told_to_end a.bounds.rows in
    let best : ℕ = a.best.lower_value in
    let best_is : best ≡ best_lower v = s.best_is.lowest_lower ∙ best_lower_shown v a.costs.items s.costed s.ground.own_fits.size.0 in
    let below = s.best_is.lower_below in
    let size = s.costed.counted in
    let lt : best < a.own.size = omega (arith, below, size) in
    s.best_is.lower_is ∙ lower_shown v a.costs.items s.costed best lt ∙ ap (lower_of v) best_is ∙ ap lower_bound c.self.view_is
