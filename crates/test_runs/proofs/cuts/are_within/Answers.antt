use Rattle.std.proofs.Common.{ℕ, ◌+◌, ◌<◌, ◌≤◌, List, length, get_or, ◌≡◌, subst, inl, inr, arith}
use Rattle.std.proofs.lemmas.Bool.{cases_lt}
use Rattle.std.proofs.lemmas.List.{get_or_default}
use Rattle.test_runs.proofs.cuts.are_within.Goals as goal

-- one more size is within the limit
within-next : (sizes : List ℕ) (limit n : ℕ) → ((k d : ℕ) → k < n → get_or sizes k d ≤ limit) → n < length sizes → (e : ℕ) → get_or sizes n e ≤ limit → (k d : ℕ) → k < n + 1 → get_or sizes k d ≤ limit
within-next sizes limit n before inside e here k d lt = elim (cases_lt k n) [
  | inl earlier ↦ before k d earlier
  | inr past ↦
      let same : n ≡ k = omega (arith, lt, past) in
      subst (λ (i : ℕ). get_or sizes i d ≤ limit) same (subst (λ (s : ℕ). s ≤ limit) (get_or_default sizes n e d inside) here)
]

pub loop-size-preserved : goal.loop-size-preserved
loop-size-preserved c = within-next c.args.sizes.now c.args.limit c.loop-size.size-index c.loop-size.invariant c.loop-size-test.true _ c.if-size-limit.false

pub returns : goal.returns
returns c = λ yes k d lt. let past = c.loop-size-test.false in c.loop-size.invariant k d (omega (arith, lt, past))
