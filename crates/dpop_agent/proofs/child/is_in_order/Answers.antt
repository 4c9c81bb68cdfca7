use Rattle.std.proofs.Common.{◌≡◌, ℕ, ◌∷◌, [], ◌++◌, List, eqb, sym, subst, ◌∙◌}
use Rattle.std.specs.List.{filter}
use Rattle.std.specs.Cmp.Lexicographic.{pointwise}
use Rattle.dcop_base.specs.Table.{has}
use Rattle.dpop_agent.proofs.OrderLaws.{order_last, order_not_last}
use Rattle.dpop_agent.proofs.child.is_in_order.Goals as goal

pub returns-then-eq : goal.returns-then-eq
returns-then-eq c =
    let path = c.args.path.now in
    let me = c.args.me in
    subst (λ (vs : List ℕ). c.stand_in_order.result ≡ pointwise eqb vs (filter (has vs) path ++ (me ∷ []))) (sym c.in-Some.ensures.cases.0)
    (c.stand_in_order.ensures ∙ order_last path c.in-Some.above.now me c.in-Some.last.now c.requires.without (sym c.eq.ensures ∙ c.if-eq.true))

pub returns-else-eq : goal.returns-else-eq
returns-else-eq c =
    let path = c.args.path.now in
    let me = c.args.me in
    subst (λ (vs : List ℕ). c.eq.result ≡ pointwise eqb vs (filter (has vs) path ++ (me ∷ []))) (sym c.in-Some.ensures.cases.0)
    (c.if-eq.false ∙ order_not_last path c.in-Some.above.now me c.in-Some.last.now (sym c.eq.ensures ∙ c.if-eq.false))
