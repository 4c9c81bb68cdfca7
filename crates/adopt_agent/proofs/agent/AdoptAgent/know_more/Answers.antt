use Rattle.std.proofs.Common.{◌≡◌, ℕ, ◌≤◌, true, List, None, sym, ap, subst, ◌∙◌}
use Rattle.std.specs.List.{All}
use Rattle.dcop_base.specs.Limits.{amount_limit}
use Rattle.adopt_context.specs.Context.{value_in}
use Rattle.protocol_steps.specs.Adopt.{AdoptView}
use Rattle.protocol_steps.specs.AdoptBounds.{restore}
use Rattle.protocol_steps.specs.AdoptRange.{in_range}
use Rattle.adopt_agent.specs.Best.{AreBest}
use Rattle.adopt_agent.specs.Stage.{knowing}
use Rattle.adopt_agent.specs.Sound.{AreCosts}
use Rattle.adopt_agent.proofs.BoundLaws.{written_back}
use Rattle.adopt_agent.proofs.GrowLaws.{costs_within, ground_grows, grown_shown, ranged_other, sound_grows}
use Rattle.adopt_agent.proofs.agent.AdoptAgent.know_more.Goals as goal

pub add_known-requires-clause-ground : goal.add_known-requires-clause-ground
add_known-requires-clause-ground c =
    let a = c.self.inside in
    let var = c.args.var in
    let value = c.args.value in
    let range : in_range (knowing a.own a.place a.known) var value ≡ true = subst (λ (w : AdoptView). in_range w var value ≡ true) (sym c.self.view_is) c.requires.range in
    ground_grows a.own a.place a.known var value c.set.new.self c.self.invariant.ground range c.in_ok-set.ensures.given

pub add_known-requires-clause-other : goal.add_known-requires-clause-other
add_known-requires-clause-other c =
    let a = c.self.inside in
    let var = c.args.var in
    let value = c.args.value in
    let range : in_range (knowing a.own a.place a.known) var value ≡ true = subst (λ (w : AdoptView). in_range w var value ≡ true) (sym c.self.view_is) c.requires.range in
    ranged_other a.own a.place a.known var value c.self.invariant.ground.placed range

pub add_known-requires-clause-within : goal.add_known-requires-clause-within
add_known-requires-clause-within c =
    let a = c.self.inside in
    subst (λ (xs : List ℕ). All (λ x. x ≤ amount_limit) xs) (sym c.as_mut_slice.ensures.value) (costs_within a.own a.place a.known a.costs.items c.self.invariant.costed)

pub invariant_of-self-2 : goal.invariant_of-self-2
invariant_of-self-2 c =
    let a = c.self.inside in
    let s = c.self.invariant in
    let var = c.args.var in
    let value = c.args.value in
    let x = c.set.new.self in
    let new = c.add_known.new.costs in
    let none : value_in a.known var ≡ None = subst (λ (w : AdoptView). value_in w.known var ≡ None) (sym c.self.view_is) c.requires.unnamed in
    let range : in_range (knowing a.own a.place a.known) var value ≡ true = subst (λ (w : AdoptView). in_range w var value ≡ true) (sym c.self.view_is) c.requires.range in
    sound_grows a.own a.place a.higher a.error a.known a.costs.items a.knows_higher a.bounds a.best a.value a.threshold a.last_received s var value x _ _ c.best_of-self-inside.result none range c.in_ok-set.ensures.given
    (λ before grown costed. subst (λ (xs : List ℕ). AreCosts a.own a.place x xs) (sym (written_back a.costs.len new a.costs.items (sym (c.add_known.auto.costs ∙ c.as_mut_slice.ensures.len))))
    (c.add_known.ensures before grown (subst (λ (xs : List ℕ). AreCosts a.own a.place before xs) (sym c.as_mut_slice.ensures.value) costed)))
    c.names_all-self-inside.ensures
    (subst (λ (xs : List ℕ). AreBest xs c.names_all-self-inside.result a.bounds.rows c.best_of-self-inside.result) c.as_slice.ensures.value c.best_of-self-inside.ensures)

pub returns-clause-known : goal.returns-clause-known
returns-clause-known c =
    let a = c.self.inside in
    let none : value_in a.known c.args.var ≡ None = subst (λ (w : AdoptView). value_in w.known c.args.var ≡ None) (sym c.self.view_is) c.requires.unnamed in
    c.restore.ensures
    ∙ ap (λ (w : AdoptView). restore w) (grown_shown a.own a.place a.error a.stage a.known a.value a.threshold a.last_received a.told_to_end a.bounds.rows c.args.self.now c.args.var c.args.value c.set.new.self c.self.view_is c.self.invariant.backed.rest none c.in_ok-set.ensures.given)
