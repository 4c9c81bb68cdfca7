use Rattle.std.proofs.Common.{◌≡◌, ℕ, true, List, subst, ◌∙◌}
use Rattle.adopt_context.specs.Context.{Context}
use Rattle.adopt_agent.specs.Costs.{is_alike}
use Rattle.adopt_agent.proofs.KeptLaws.{AgreeOn, alike_agree, names_same, costs_kept}
use Rattle.adopt_agent.proofs.costs.renew.Goals as goal

pub returns-then-is_alike-clause-costed : goal.returns-then-is_alike-clause-costed
returns-then-is_alike-clause-costed c =
    let own = c.args.own.now in
    let place = c.args.place.now in
    let before = c.args.before.now in
    let known = c.args.known.now in
    let higher : List ℕ = c.args.higher.now in
    let alike : is_alike higher before known ≡ true =
    subst (λ (x : Context). is_alike higher before x ≡ true) c.pairs-2.ensures.pairs
    (subst (λ (x : Context). is_alike higher x c.pairs-2.result.now ≡ true) c.pairs.ensures.pairs
    (subst (λ (vs : List ℕ). is_alike vs c.pairs.result.now c.pairs-2.result.now ≡ true) c.as_slice.ensures (c.is_alike.ensures c.if-is_alike.true))) in
    let agree : AgreeOn higher before known = alike_agree higher before known alike in
    costs_kept own place before known c.requires.ground.own_fits (subst (λ (vs : List ℕ). AgreeOn vs before known) c.requires.higher agree) c.args.costs.now c.requires.costed

pub returns-then-is_alike-clause-knows : goal.returns-then-is_alike-clause-knows
returns-then-is_alike-clause-knows c =
    let before = c.args.before.now in
    let known = c.args.known.now in
    let higher : List ℕ = c.args.higher.now in
    let alike : is_alike higher before known ≡ true =
    subst (λ (x : Context). is_alike higher before x ≡ true) c.pairs-2.ensures.pairs
    (subst (λ (x : Context). is_alike higher x c.pairs-2.result.now ≡ true) c.pairs.ensures.pairs
    (subst (λ (vs : List ℕ). is_alike vs c.pairs.result.now c.pairs-2.result.now ≡ true) c.as_slice.ensures (c.is_alike.ensures c.if-is_alike.true))) in
    c.requires.knows ∙ names_same before known higher (alike_agree higher before known alike)
