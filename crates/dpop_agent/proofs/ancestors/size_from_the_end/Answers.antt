use Rattle.std.proofs.Common.{◌≡◌, ℕ, ◌-◌, ◌<◌, false, drop, get_or, length, sym, ap, subst, ◌∙◌, arith}
use Rattle.std.specs.List.{zip}
use Rattle.std.proofs.lemmas.Bool.{eqb-true}
use Rattle.std.proofs.lemmas.List.{get_or_default}
use Rattle.dcop_base.specs.Table.{has}
use Rattle.adopt_context.specs.Context.{value_in}
use Rattle.dpop_agent.proofs.MarkLaws.{size_at}
use Rattle.dpop_agent.proofs.EndLaws.{none_beside}
use Rattle.dpop_agent.proofs.ancestors.size_from_the_end.Goals as goal

pub returns-then-eq : goal.returns-then-eq
returns-then-eq c =
    let path = c.args.path.now in
    let sizes = c.args.sizes.now in
    let k : ℕ = c.loop-left.left - 1 in
    let some = c.loop-left-test.true in
    let most = c.loop-left.invariant.0 in
    let lt : k < length path = omega (arith, some, most) in
    let at = c.index-path-left.result in
    let here : c.args.var ≡ get_or path k 0 = sym (eqb-true at c.args.var (sym c.eq.ensures ∙ c.if-eq.true)) ∙ c.index-path-left.is ∙ get_or_default path k at 0 lt in
    sym (ap (λ (u : ℕ). value_in (zip path sizes) u) here
    ∙ size_at path sizes k 0 c.requires.apart lt c.requires.sized)

pub returns : goal.returns
returns c =
    let most = c.loop-left-test.false in
    let all : c.loop-left.left ≡ 0 = omega (arith, most) in
    sym (none_beside c.args.path.now c.args.sizes.now c.args.var (subst (λ (n : ℕ). has (drop n c.args.path.now) c.args.var ≡ false) all c.loop-left.invariant.1))
