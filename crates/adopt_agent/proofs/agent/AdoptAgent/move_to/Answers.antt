use Rattle.std.proofs.Common.{◌≡◌, sym, ap, subst, ◌∙◌}
use Rattle.protocol_steps.specs.Adopt.{AdoptView}
use Rattle.protocol_steps.specs.AdoptBounds.{at_context, restore}
use Rattle.adopt_agent.specs.Stage.{view_at}
use Rattle.adopt_agent.proofs.BoundLaws.{at_same}
use Rattle.adopt_agent.proofs.agent.AdoptAgent.move_to.Goals as goal

pub returns-then-are_same : goal.returns-then-are_same
returns-then-are_same c =
    let a = c.self.inside in
    let v : AdoptView = view_at a.own a.place a.error a.stage a.known a.value a.threshold a.last_received a.told_to_end a.bounds.rows in
    let same : a.known ≡ c.args.known = sym c.pairs.ensures.pairs ∙ c.are_same.ensures c.if-are_same.true ∙ c.pairs-2.ensures.pairs in
    let here : v ≡ at_context v c.args.known = at_same v c.args.known same c.self.invariant.backed.rest in
    c.restore.ensures ∙ ap (λ (w : AdoptView). restore w) (subst (λ (w : AdoptView). w ≡ at_context w c.args.known) c.self.view_is here)

pub returns : goal.returns
returns c = c.restore-2.ensures ∙ ap (λ (w : AdoptView). restore w) c.rest_on.ensures
