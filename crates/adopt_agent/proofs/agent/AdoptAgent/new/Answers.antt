use Rattle.std.proofs.Common.{◌≡◌, ℕ, true, List, [], length, sym, ap, ap₂, subst, ◌∙◌, refl, arith}
use Rattle.std.specs.List.{filter}
use Rattle.dcop_base.specs.Table.{has}
use Rattle.adopt_context.specs.Context.{Context, names_all}
use Rattle.protocol_steps.specs.AdoptRange.{fits}
use Rattle.adopt_agent.specs.Best.{AreBest}
use Rattle.adopt_agent.specs.Stage.{knowing}
use Rattle.adopt_agent.specs.Sound.{AreCosts}
use Rattle.adopt_agent.proofs.BoundLaws.{written_back, backed_new}
use Rattle.adopt_agent.proofs.ChildLaws.{children_few}
use Rattle.adopt_agent.proofs.agent.AdoptAgent.new.Goals as goal

pub new-requires : goal.new-requires
new-requires c = children_few c.args.own c.args.place c.in_ok-copy_of.field-0 c.requires.known c.requires.placed (c.in_ok-copy_of.ensures ∙ c.as_slice.ensures)

pub invariant_of-result : goal.invariant_of-result
invariant_of-result c =
    let own = c.args.own in
    let place = c.args.place in
    let known : Context = c.new-known.result in
    let none : known ≡ [] = c.new-known.ensures in
    let new = c.set_costs.new.costs in
    let some = c.requires.known.size.0 in
    let higher_is : c.in_ok-higher.higher ≡ filter (has place.path) own.neighbours = c.in_ok-higher.ensures ∙ ap₂ (λ (path : List ℕ) (near : List ℕ). filter (has path) near) c.as_slice-3.ensures c.as_slice-2.ensures in
    record {
      ground = record { own_fits = c.requires.known; placed = c.requires.placed; known_fits = subst (λ (x : Context). fits (knowing own place x) x ≡ true) (sym none) refl };
      costed = subst (λ (xs : List ℕ). AreCosts own place known xs) (sym (written_back c.in_ok-costs.costs.len new c.in_ok-costs.costs.items (sym (c.set_costs.auto.costs ∙ c.as_mut_slice.ensures.len)))) c.set_costs.ensures;
      higher_is = higher_is;
      knows_higher_is = c.names_all-knows_higher.ensures ∙ ap (λ (near : List ℕ). names_all known near) higher_is;
      backed = backed_new own place known c.in_ok-bounds.bounds (length c.in_ok-copy_of.field-0) none (c.in_ok-bounds.ensures.children ∙ c.in_ok-copy_of.ensures ∙ c.as_slice.ensures) c.in_ok-bounds.ensures.rows;
      best_is = subst (λ (xs : List ℕ). AreBest xs c.names_all-knows_higher.result c.in_ok-bounds.bounds.rows c.best_of-best.result) c.as_slice-4.ensures.value c.best_of-best.ensures;
      value_below = omega (arith, some);
      error_within = c.requires.error;
      threshold_within = omega arith;
      last_within = omega arith;
    }
