use Rattle.std.proofs.Common.{◌≡◌, ℕ, ◌<◌, ap, ◌∙◌, arith}
use Rattle.protocol_steps.specs.Adopt.{AdoptView}
use Rattle.protocol_steps.specs.AdoptBounds.{best_upper, upper_bound, upper_of}
use Rattle.adopt_agent.specs.Stage.{view_at}
use Rattle.adopt_agent.proofs.BoundLaws.{upper_shown, best_upper_shown}
use Rattle.adopt_agent.proofs.agent.AdoptAgent.upper_bound.Goals as goal

pub returns-clause-bound : goal.returns-clause-bound
returns-clause-bound c =
    let a = c.self.inside in
    let s = c.self.invariant in
    let v : AdoptView = view_at a.own a.place a.error a.stage a.known a.value a.threshold a.last_received a.told_to_end a.bounds.rows in
    let best : ℕ = a.best.upper_value in
    let best_is : best ≡ best_upper v = s.best_is.lowest_upper ∙ best_upper_shown v a.costs.items s.costed a.knows_higher s.knows_higher_is s.ground.own_fits.size.0 in
    let below = s.best_is.upper_below in
    let size = s.costed.counted in
    let lt : best < a.own.size = omega (arith, below, size) in
    s.best_is.upper_is ∙ upper_shown v a.costs.items s.costed a.knows_higher s.knows_higher_is best lt ∙ ap (upper_of v) best_is ∙ ap upper_bound c.self.view_is
