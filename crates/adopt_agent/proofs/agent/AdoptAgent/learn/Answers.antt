use Rattle.std.proofs.Common.{◌≡◌, ℕ, true, cond, not, ◌||◌, List, sym, ap, subst, ◌∙◌}
use Rattle.std.specs.Prelude.{is_some}
use Rattle.std.specs.List.{fold}
use Rattle.std.proofs.lemmas.Bool.{cond-false}
use Rattle.dcop_base.specs.Table.{has}
use Rattle.adopt_context.specs.Context.{Context, put, value_in}
use Rattle.protocol_steps.specs.Adopt.{AdoptView}
use Rattle.protocol_steps.specs.AdoptBounds.{at_context, restore}
use Rattle.protocol_steps.specs.AdoptRange.{fits}
use Rattle.protocol_steps.specs.AdoptCost.{learned}
use Rattle.adopt_agent.specs.Stage.{view_at}
use Rattle.adopt_agent.proofs.BoundLaws.{at_same}
use Rattle.adopt_agent.proofs.LearnLaws.{learned_known}
use Rattle.adopt_agent.proofs.MessageLaws.{learned_fits}
use Rattle.adopt_agent.proofs.agent.AdoptAgent.learn.Goals as goal

pub move_to-requires : goal.move_to-requires
move_to-requires c =
    let a = c.self.inside in
    let v : AdoptView = c.args.self.now in
    let rest : Context = c.args.rest.now in
    let known : c.in_ok-known.known ≡ fold (learned v) v.known rest =
    c.in_ok-known.ensures ∙ ap (λ (ns : List ℕ). fold (λ x p. cond (not (has ns p.0) || not (is_some (value_in x p.0))) (put x p.0 p.1) x) a.known rest) c.as_slice.ensures
    ∙ ap (λ (w : AdoptView). fold (learned w) w.known rest) c.self.view_is in
    subst (λ (x : Context). fits v x ≡ true) (sym known)
    (learned_fits v rest v.known (subst (λ (w : AdoptView). fits w w.known ≡ true) c.self.view_is c.self.invariant.ground.known_fits) c.requires)

pub returns-clause-learned : goal.returns-clause-learned
returns-clause-learned c =
    let a = c.self.inside in
    let v : AdoptView = c.args.self.now in
    let rest : Context = c.args.rest.now in
    let known : c.in_ok-known.known ≡ fold (learned v) v.known rest =
    c.in_ok-known.ensures ∙ ap (λ (ns : List ℕ). fold (λ x p. cond (not (has ns p.0) || not (is_some (value_in x p.0))) (put x p.0 p.1) x) a.known rest) c.as_slice.ensures
    ∙ ap (λ (w : AdoptView). fold (learned w) w.known rest) c.self.view_is in
    c.move_to.ensures ∙ ap (λ (x : Context). restore (at_context v x)) known
    ∙ sym (cond-false v.told v (restore (at_context v (fold (learned v) v.known rest))) (ap (λ (w : AdoptView). w.told) (sym c.self.view_is) ∙ c.if-self.false))

pub returns-then-is_known-clause-learned : goal.returns-then-is_known-clause-learned
returns-then-is_known-clause-learned c =
    let a = c.self.inside in
    let v : AdoptView = c.args.self.now in
    let rest : Context = c.args.rest.now in
    let w : AdoptView = view_at a.own a.place a.error a.stage a.known a.value a.threshold a.last_received a.told_to_end a.bounds.rows in
    let same : fold (learned w) a.known rest ≡ a.known = learned_known w rest a.known c.is_known.ensures.ascend (c.is_known.ensures.part c.if-is_known.true) in
    let here : w ≡ at_context w (fold (learned w) w.known rest) = at_same w (fold (learned w) w.known rest) (sym same) c.self.invariant.backed.rest in
    let there : v ≡ at_context v (fold (learned v) v.known rest) = subst (λ (x : AdoptView). x ≡ at_context x (fold (learned x) x.known rest)) c.self.view_is here in
    c.restore.ensures ∙ ap (λ (x : AdoptView). restore x) there
    ∙ sym (cond-false v.told v (restore (at_context v (fold (learned v) v.known rest))) (ap (λ (x : AdoptView). x.told) (sym c.self.view_is) ∙ c.if-self.false))
