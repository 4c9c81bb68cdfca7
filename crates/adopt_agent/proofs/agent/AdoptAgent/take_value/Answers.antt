use Rattle.std.proofs.Common.{◌≡◌, true, sym, ap, subst, ◌∙◌}
use Rattle.std.proofs.lemmas.Bool.{cond-true}
use Rattle.adopt_context.specs.Context.{put}
use Rattle.protocol_steps.specs.Adopt.{AdoptView}
use Rattle.protocol_steps.specs.AdoptBounds.{at_context, restore}
use Rattle.protocol_steps.specs.AdoptMessage.{takes_value}
use Rattle.adopt_agent.specs.Stage.{view_at}
use Rattle.adopt_agent.proofs.BoundLaws.{at_same}
use Rattle.adopt_agent.proofs.agent.AdoptAgent.take_value.Goals as goal

pub returns-then-gives-clause-taken : goal.returns-then-gives-clause-taken
returns-then-gives-clause-taken c =
    let a = c.self.inside in
    let v : AdoptView = c.args.self.now in
    let from = c.args.from in
    let value = c.args.value in
    let w : AdoptView = view_at a.own a.place a.error a.stage a.known a.value a.threshold a.last_received a.told_to_end a.bounds.rows in
    let takes : takes_value v from value ≡ true = sym c.takes_value.ensures ∙ c.if-not-takes_value.false in
    let same : put a.known from value ≡ a.known = c.gives.ensures c.if-gives.true in
    let here : w ≡ at_context w (put w.known from value) = at_same w (put w.known from value) (sym same) c.self.invariant.backed.rest in
    let there : v ≡ at_context v (put v.known from value) = subst (λ (x : AdoptView). x ≡ at_context x (put x.known from value)) c.self.view_is here in
    c.restore.ensures ∙ ap (λ (x : AdoptView). restore x) there
    ∙ sym (cond-true (takes_value v from value) (restore (at_context v (put v.known from value))) v takes)
