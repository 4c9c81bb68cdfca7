use Rattle.std.proofs.Common.{◌≡◌, ℕ, ◌+◌, ◌<◌, ◌≤◌, List, length, get_or, take, max, All, sym, subst, arith}
use Rattle.std.proofs.lemmas.List.{take_all}
use Rattle.std.proofs.lemmas.List.Elements.{All-get_or, All-more}
use Rattle.dcop_base.proofs.joint.end_of.Goals as goal

more : (least end next k x i : ℕ) (scope : List ℕ) → k < length scope → x ≡ get_or scope k x → i ≡ x → next ≡ max end (i + 1) → least ≤ end → All (λ (v : ℕ). v < end) (take k scope) → ((n : ℕ) → least ≤ n → All (λ (v : ℕ). v < n) scope → end ≤ n) → (least ≤ next) × (All (λ (v : ℕ). v < next) (take (k + 1) scope)) × ((n : ℕ) → least ≤ n → All (λ (v : ℕ). v < n) scope → next ≤ n)
more least end next k x i scope lt is same next_is from above within =
    let grows : end ≤ next = omega (arith, next_is) in
    let wider : All (λ (v : ℕ). v < next) (take k scope) = λ j d j_in. omega (arith, above j d j_in, grows) in
    let here : get_or scope k x < next = omega (arith, next_is, same, sym is) in (
      omega (arith, from, grows),
      All-more (λ (v : ℕ). v < next) scope k x lt wider here,
      λ n le all. (let below : get_or scope k x < n = All-get_or (λ (v : ℕ). v < n) scope k x lt all in omega (arith, within n le all, next_is, same, is, below)),
    )

pub loop-var-preserved : goal.loop-var-preserved
loop-var-preserved c =
    more c.args.least c.loop-var.end c.max-end.result c.loop-var.var-index c.var-item.result c.var.inside.0 c.args.scope.now
    c.loop-var-test.true c.var-item.is c.var.view_is c.max-end.ensures c.loop-var.invariant.0 c.loop-var.invariant.1 c.loop-var.invariant.2

pub returns-clause-above : goal.returns-clause-above
returns-clause-above c =
    subst (λ (xs : List ℕ). All (λ (v : ℕ). v < c.loop-var.end) xs) (take_all c.loop-var.var-index c.args.scope.now c.loop-var-test.false) c.loop-var.invariant.1
