use Rattle.std.proofs.Common.{◌≡◌, ℕ, ◌∷◌, [], ◌++◌, false, List, eqb, sym, subst, ◌∙◌, arith}
use Rattle.std.specs.List.{filter}
use Rattle.std.specs.Cmp.Lexicographic.{pointwise}
use Rattle.dcop_base.specs.Table.{has, has_repeat}
use Rattle.dpop_agent.proofs.OrderLaws.{apart_before, no_order, order_above, order_both}
use Rattle.dpop_agent.proofs.ancestors.+stand_in_order.Goals as goal

pub returns-in_default : goal.returns-in_default
returns-in_default t c = no_order c.args.path.now c.args.vars.now c.in_default.ensures.cases

pub stand_in_order-requires : goal.stand_in_order-requires
stand_in_order-requires t c =
    let path = c.in-Some-split_last.ensures.cases in
    let shorter = path.1 in
    let apart = subst (λ (vs : List ℕ). has_repeat vs ≡ false) path.0 c.requires in
    (omega (arith, c.decreases, shorter), (apart_before c.in-Some-split_last.above.now c.in-Some-split_last.lowest.now apart).0)

pub returns-then-eq : goal.returns-then-eq
returns-then-eq t c =
    let path = c.in-Some-split_last.ensures.cases.0 in
    let vars = c.in-Some.ensures.cases.0 in
    let apart = subst (λ (vs : List ℕ). has_repeat vs ≡ false) path c.requires in
    let holds : List ℕ → List ℕ → Type 0 = λ vs us. c.stand_in_order.result ≡ pointwise eqb vs (filter (has vs) us) in
    let same = sym c.eq.ensures ∙ c.if-eq.true in
    subst (λ (us : List ℕ). holds c.args.vars.now us) (sym path)
    (subst (λ (vs : List ℕ). holds vs (c.in-Some-split_last.above.now ++ (c.in-Some-split_last.lowest.now ∷ []))) (sym vars)
    (c.stand_in_order.ensures ∙ order_both c.in-Some-split_last.above.now c.in-Some.before.now c.in-Some-split_last.lowest.now c.in-Some.last.now apart same))

pub stand_in_order-requires-2 : goal.stand_in_order-requires-2
stand_in_order-requires-2 t c =
    let path = c.in-Some-split_last.ensures.cases in
    let shorter = path.1 in
    let apart = subst (λ (vs : List ℕ). has_repeat vs ≡ false) path.0 c.requires in
    (omega (arith, c.decreases, shorter), (apart_before c.in-Some-split_last.above.now c.in-Some-split_last.lowest.now apart).0)

pub returns : goal.returns
returns t c =
    let path = c.in-Some-split_last.ensures.cases.0 in
    let vars = c.in-Some.ensures.cases.0 in
    let apart = subst (λ (vs : List ℕ). has_repeat vs ≡ false) path c.requires in
    let holds : List ℕ → List ℕ → Type 0 = λ vs us. c.stand_in_order-2.result ≡ pointwise eqb vs (filter (has vs) us) in
    let above = subst (λ (vs : List ℕ). holds vs c.in-Some-split_last.above.now) vars c.stand_in_order-2.ensures in
    let differs = sym c.eq.ensures ∙ c.if-eq.false in
    subst (λ (us : List ℕ). holds c.args.vars.now us) (sym path)
    (subst (λ (vs : List ℕ). holds vs (c.in-Some-split_last.above.now ++ (c.in-Some-split_last.lowest.now ∷ []))) (sym vars)
    (above ∙ order_above c.in-Some-split_last.above.now c.in-Some.before.now c.in-Some-split_last.lowest.now c.in-Some.last.now apart differs))
