use Rattle.std.proofs.Common.{◌≡◌, ℕ, true, List, sym, ap, subst, ◌∙◌}
use Rattle.adopt_context.specs.Context.{names_all}
use Rattle.adopt_bounds.specs.Rows.{BoundsView}
use Rattle.protocol_steps.specs.Adopt.{AdoptView}
use Rattle.protocol_steps.specs.AdoptBounds.{at_context}
use Rattle.protocol_steps.specs.AdoptRange.{fits}
use Rattle.adopt_agent.specs.Best.{AreBest}
use Rattle.adopt_agent.specs.Stage.{view_at}
use Rattle.adopt_agent.specs.Sound.{AreCosts}
use Rattle.adopt_agent.proofs.BoundLaws.{written_back, backed_reset}
use Rattle.adopt_agent.proofs.agent.AdoptAgent.rest_on.Goals as goal

pub invariant_of-self : goal.invariant_of-self
invariant_of-self c =
    let a = c.self.inside in
    let s = c.self.invariant in
    let known = c.args.known in
    let new = c.renew-self-inside.new.costs in
    let size = s.costed.counted in
    let held = a.costs.ok in
    let same = c.renew-self-inside.ensures.costed.counted in
    record {
      ground = record { own_fits = s.ground.own_fits; placed = s.ground.placed; known_fits = subst (λ (v : AdoptView). fits v known ≡ true) (sym c.self.view_is) c.requires };
      costed = subst (λ (xs : List ℕ). AreCosts a.own a.place known xs) (sym (written_back a.costs.len new a.costs.items (held.0 ∙ size ∙ sym same))) c.renew-self-inside.ensures.costed;
      higher_is = s.higher_is;
      knows_higher_is = c.renew-self-inside.ensures.knows ∙ ap (λ (near : List ℕ). names_all known near) s.higher_is;
      backed = backed_reset a.own a.place a.known known a.bounds c.reset.new.self s.backed c.reset.ensures;
      best_is = subst (λ (xs : List ℕ). AreBest xs c.renew-self-inside.result c.reset.new.self.rows c.best_of-self-inside.result) c.as_slice.ensures.value c.best_of-self-inside.ensures;
      value_below = s.value_below;
      error_within = s.error_within;
      threshold_within = s.threshold_within;
      last_within = s.last_within;
    }

pub returns : goal.returns
returns c =
    let a = c.self.inside in
    let known = c.args.known in
    ap (λ (b : BoundsView). (view_at a.own a.place a.error a.stage known a.value a.threshold a.last_received a.told_to_end b.rows)) c.reset.ensures
    ∙ ap (λ (v : AdoptView). at_context v known) c.self.view_is
