use Rattle.std.proofs.Common.{ℕ, List, get_or, ap, ◌∙◌}
use Rattle.adopt_context.specs.Bounds.{lower_at}
use Rattle.protocol_steps.specs.Adopt.{AdoptView}
use Rattle.protocol_steps.specs.AdoptBounds.{lower_of}
use Rattle.adopt_agent.specs.Stage.{view_at}
use Rattle.adopt_agent.proofs.BoundLaws.{lower_shown}
use Rattle.adopt_agent.proofs.agent.AdoptAgent.own_lower.Goals as goal

pub returns : goal.returns
returns c =
    let a = c.self.inside in
    let s = c.self.invariant in
    let v : AdoptView = view_at a.own a.place a.error a.stage a.known a.value a.threshold a.last_received a.told_to_end a.bounds.rows in
    c.lower_of.ensures.bound ∙ ap (λ (xs : List ℕ). lower_at (λ e. get_or xs e 0) a.bounds.rows a.value) c.as_slice.ensures.value
    ∙ lower_shown v a.costs.items s.costed a.value s.value_below ∙ ap (λ (w : AdoptView). lower_of w w.value) c.self.view_is
