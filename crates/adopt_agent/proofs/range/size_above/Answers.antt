use Rattle.std.proofs.Common.{◌≡◌, ℕ, ◌+◌, ◌-◌, false, eqb, drop, None, sym, subst, ◌∙◌, arith}
use Rattle.std.specs.List.{zip}
use Rattle.std.proofs.lemmas.Bool.{eqb-true}
use Rattle.adopt_context.specs.Context.{value_in}
use Rattle.adopt_agent.proofs.SizeLaws.{size_back, size_at}
use Rattle.adopt_agent.proofs.range.size_above.Goals as goal

pub returns-then-eq : goal.returns-then-eq
returns-then-eq c =
    let most = c.loop-k.auto.k in
    let some = c.loop-k-test.true in
    let found : ℕ = c.index-path-k.result in
    sym (size_at c.args.path.now c.args.sizes.now (c.loop-k.k - 1) c.args.var found c.requires.apart (omega (arith, most, some)) c.requires.sized (sym c.index-path-k.is ∙ eqb-true found c.args.var (sym c.if-eq.ensures)))

pub loop-k-preserved : goal.loop-k-preserved
loop-k-preserved c =
    let most = c.loop-k.auto.k in
    let some = c.loop-k-test.true in
    let found : ℕ = c.index-path-k.result in
    let next : c.loop-k.k ≡ c.loop-k.k - 1 + 1 = omega (arith, some) in
    size_back c.args.path.now c.args.sizes.now (c.loop-k.k - 1) c.args.var found (omega (arith, most, some)) c.requires.sized
    (subst (λ (k : ℕ). value_in (zip (drop k c.args.path.now) (drop k c.args.sizes.now)) c.args.var ≡ None) next c.loop-k.invariant)
    (subst (λ (u : ℕ). eqb u c.args.var ≡ false) c.index-path-k.is (sym c.if-eq.ensures))
