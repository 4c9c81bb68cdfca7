use Rattle.std.proofs.Common.{◌≡◌, ℕ, ◌<◌, Option, length, get_or, ap, ap₂, ◌∙◌, arith}
use Rattle.std.proofs.lemmas.List.{get_or_read}
use Rattle.adopt_context.specs.Allot.{lower_to}
use Rattle.adopt_agent.proofs.BoundLaws.{goal_shown}
use Rattle.adopt_agent.proofs.agent.AdoptAgent.to_allot.Goals as goal

pub returns-clause-goal : goal.returns-clause-goal
returns-clause-goal c =
    let a = c.self.inside in
    let s = c.self.invariant in
    let at : c.from.result ≡ a.value = c.from.ensures ∙ c.value.view_is in
    let below = s.value_below in
    let size = s.costed.counted in
    let lt : c.from.result < length a.costs.items = omega (arith, at, below, size) in
    goal_shown a.own a.place a.error a.stage a.known a.value a.threshold a.last_received a.told_to_end a.bounds a.costs.items c.index-cost.result.now c.lower_to.result c.args.self.now
    c.self.view_is s.costed s.value_below
    (get_or_read a.costs.items c.from.result c.index-cost.result.now lt c.index-cost.ensures 0 ∙ ap (λ (k : ℕ). get_or a.costs.items k 0) at)
    (c.lower_to.ensures.bound ∙ ap₂ (λ (x : ℕ) (o : Option ℕ). lower_to x o) c.saturating_sub-left.ensures c.upper_sum_of.ensures)
