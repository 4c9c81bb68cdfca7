use Rattle.std.proofs.Common.{◌≡◌, ℕ, ◌<◌, ◌==◌, List, Some, None, length, sym, ap, subst, ◌∙◌}
use Rattle.std.specs.List.{position}
use Rattle.std.specs.List.Sorted.{IsStrictlyIncreasing}
use Rattle.std.proofs.lemmas.Result.{on_ok_weaker}
use Rattle.pseudotree.specs.declared.agent.Place.{Place}
use Rattle.adopt_context.specs.Context.{value_in}
use Rattle.protocol_steps.specs.Adopt.{AdoptView}
use Rattle.protocol_steps.specs.AdoptCost.{without}
use Rattle.adopt_agent.proofs.CostLaws.{place_at, place_inside, cost_of_none, cost_unfit, cost_taken}
use Rattle.adopt_agent.proofs.agent.AdoptAgent.take_cost.Goals as goal

pub place_in-requires : goal.place_in-requires
place_in-requires c = record { ascend = subst IsStrictlyIncreasing (sym c.as_slice.ensures) c.self.invariant.ground.placed.children.0 }

pub store-requires-clause-place : goal.store-requires-clause-place
store-requires-clause-place c =
    let v : AdoptView = c.args.self.now in
    let from = c.args.from in
    let at : place_at v from ≡ Some c.in-Some.place =
    ap (λ (w : AdoptView). place_at w from) (sym c.self.view_is) ∙ ap (λ (cs : List ℕ). position (λ child. child == from) cs) (sym c.as_slice.ensures) ∙ sym c.place_in.ensures.place ∙ c.in-Some.is in
    subst (λ (p : Place). c.in-Some.place < length p.children) (sym c.learn.ensures.same.1) (place_inside v from c.in-Some.place at)

pub returns-in_default-clause-taken : goal.returns-in_default-clause-taken
returns-in_default-clause-taken c =
    let v : AdoptView = c.args.self.now in
    let from = c.args.from in
    let told = c.args.context.now in
    let at : place_at v from ≡ None =
    ap (λ (w : AdoptView). place_at w from) (sym c.self.view_is) ∙ ap (λ (cs : List ℕ). position (λ child. child == from) cs) (sym c.as_slice.ensures) ∙ sym c.place_in.ensures.place ∙ c.in_default.is in
    cost_of_none v (place_at v from) (value_in told v.own.me) (without v.own.me told) c.args.lower c.args.upper at

pub returns-then-not-takes_bounds-clause-taken : goal.returns-then-not-takes_bounds-clause-taken
returns-then-not-takes_bounds-clause-taken c =
    let v : AdoptView = c.args.self.now in
    let from = c.args.from in
    let told = c.args.context.now in
    let at : place_at v from ≡ Some c.in-Some.place =
    ap (λ (w : AdoptView). place_at w from) (sym c.self.view_is) ∙ ap (λ (cs : List ℕ). position (λ child. child == from) cs) (sym c.as_slice.ensures) ∙ sym c.place_in.ensures.place ∙ c.in-Some.is in
    let me : c.self.inside.own.me ≡ v.own.me = ap (λ (w : AdoptView). w.own.me) c.self.view_is in
    let named : value_in told v.own.me ≡ Some c.in-Some-get.d = ap (λ (m : ℕ). value_in told m) (sym me) ∙ sym c.get.ensures ∙ c.in-Some-get.is in
    let rest : c.in_ok-rest.rest ≡ without v.own.me told = c.in_ok-rest.ensures ∙ ap (λ (m : ℕ). without m told) me in
    cost_unfit v from c.in-Some.place c.in-Some-get.d told c.in_ok-rest.rest c.args.lower c.args.upper at named rest (sym c.takes_bounds.ensures ∙ c.if-not-takes_bounds.true)

pub returns-clause-taken : goal.returns-clause-taken
returns-clause-taken c =
    let v : AdoptView = c.args.self.now in
    let from = c.args.from in
    let told = c.args.context.now in
    let at : place_at v from ≡ Some c.in-Some.place =
    ap (λ (w : AdoptView). place_at w from) (sym c.self.view_is) ∙ ap (λ (cs : List ℕ). position (λ child. child == from) cs) (sym c.as_slice.ensures) ∙ sym c.place_in.ensures.place ∙ c.in-Some.is in
    let me : c.self.inside.own.me ≡ v.own.me = ap (λ (w : AdoptView). w.own.me) c.self.view_is in
    let named : value_in told v.own.me ≡ Some c.in-Some-get.d = ap (λ (m : ℕ). value_in told m) (sym me) ∙ sym c.get.ensures ∙ c.in-Some-get.is in
    let rest : c.in_ok-rest.rest ≡ without v.own.me told = c.in_ok-rest.ensures ∙ ap (λ (m : ℕ). without m told) me in
    on_ok_weaker c.store.result
    (λ stores. cost_taken v c.learn.new.self c.store.new.self from c.in-Some.place c.in-Some-get.d told c.in_ok-rest.rest c.args.lower c.args.upper at named rest
    (sym c.takes_bounds.ensures ∙ c.if-not-takes_bounds.false) c.in_ok-learn.ensures.learned stores)
    c.store.ensures.stored
