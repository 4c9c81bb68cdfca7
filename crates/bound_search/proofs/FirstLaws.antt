-- Laws of the first estimate.
use Rattle.std.proofs.Common.{◌≡◌, ℕ, ◌+◌, ◌<◌, ◌≤◌, Bool, true, false, not, cond, eqb, List, [], ◌∷◌, ◌++◌, length, replicate, refl, ap, ◌∙◌, arith}
use Rattle.std.specs.List.{All, filter, sum_by}
use Rattle.std.proofs.lemmas.Bool.{eqb-true}
use Rattle.std.proofs.lemmas.List.Elements.{All-head, All-tail, filter-append}
use Rattle.std.proofs.lemmas.List.Sums.{sum_by-cons, sum_by-append}
use Rattle.dcop_base.specs.Limits.{amount_limit}
use Rattle.dcop_base.specs.Table.{CostTable, AreWithin, has}
use Rattle.dcop_base.specs.Values.{cell_with, cost_with}
use Rattle.dcop_optimum.proofs.SumLaws.{sum_both}
use Rattle.shared_costs.specs.Values.{AreValues, AgreeBelow}
use Rattle.bucket_bounds.specs.Bounds.{bounds_from, bounds_at}
use Rattle.bucket_bounds.specs.declared.bucket.Bucket.{Bucket}
use Rattle.bound_search.specs.Estimate.{estimate}
use Rattle.bound_search.specs.Grounds.{AreGrounds}
use Rattle.bound_search.specs.First.{constants_cost, first_sum}
use Rattle.bound_search.proofs.EstimateLaws.{bounds_tables, estimate_agrees, estimate_within}

-- a table without variables names none
kept_constants : (p : ℕ) (ts : List CostTable) → filter (λ t. eqb (length t.scope) 0) (filter (λ t. not (has t.scope p)) ts) ≡ filter (λ t. eqb (length t.scope) 0) ts
kept_constants p [] = refl
kept_constants p (t ∷ ts) = one t (has t.scope p) (eqb (length t.scope) 0) refl refl (kept_constants p ts)
  where
    names_none : (scope : List ℕ) (p : ℕ) → eqb (length scope) 0 ≡ true → has scope p ≡ false
    names_none [] p e = refl
    names_none (v ∷ vs) p e = absurd (let none = eqb-true (length (v ∷ vs)) 0 e in omega (arith, none))

    one : (t : CostTable) (h e : Bool) → has t.scope p ≡ h → eqb (length t.scope) 0 ≡ e → filter (λ t. eqb (length t.scope) 0) (filter (λ t. not (has t.scope p)) ts) ≡ filter (λ t. eqb (length t.scope) 0) ts
        → filter (λ t. eqb (length t.scope) 0) (cond (not (has t.scope p)) (t ∷ filter (λ t. not (has t.scope p)) ts) (filter (λ t. not (has t.scope p)) ts)) ≡ cond (eqb (length t.scope) 0) (t ∷ filter (λ t. eqb (length t.scope) 0) ts) (filter (λ t. eqb (length t.scope) 0) ts)
    one t true true named empty rest = absurd (let none = names_none t.scope p empty in cc)
    one t true false named empty rest = rw (named, empty) rest
    one t false e named empty rest = rw named (ap (λ (xs : List CostTable). cond (eqb (length t.scope) 0) (t ∷ xs) xs) rest)

constants-both : (ts us : List CostTable) → constants_cost (ts ++ us) ≡ constants_cost ts + constants_cost us
constants-both ts us =
    ap (λ (xs : List CostTable). cost_with xs (λ v. 0)) (filter-append (λ t. eqb (length t.scope) 0) ts us)
    ∙ sum_by-append (λ t. cell_with t (λ v. 0)) (filter (λ t. eqb (length t.scope) 0) ts) (filter (λ t. eqb (length t.scope) 0) us)

constants_sent : (p : ℕ) (bs : List Bucket) → constants_cost (bounds_from p bs) ≡ sum_by (λ (b : Bucket). constants_cost b.sent) bs
constants_sent p [] = refl
constants_sent p (b ∷ bs) =
    let later = bounds_from (p + 1) bs in
    let both = constants-both (filter (λ t. not (has t.scope p)) later) b.sent in
    let kept = ap (λ (xs : List CostTable). cost_with xs (λ v. 0)) (kept_constants p later) in
    let rest = constants_sent (p + 1) bs in
    let first = sum_by-cons (λ (b : Bucket). constants_cost b.sent) b bs in
    omega (arith, both, kept, rest, first)

-- where no table has a variable, all are without
all_constants : (ts : List CostTable) → All (λ t. All (λ v. v < 0) t.scope) ts → filter (λ t. eqb (length t.scope) 0) ts ≡ ts
all_constants [] h = refl
all_constants (t ∷ ts) h =
    let rest = all_constants ts (All-tail (λ t. All (λ v. v < 0) t.scope) t ts h) in
    let empty = none t.scope (All-head (λ t. All (λ v. v < 0) t.scope) t ts h) in
    rw empty (ap (λ (xs : List CostTable). t ∷ xs) rest)
  where
    none : (scope : List ℕ) → All (λ v. v < 0) scope → eqb (length scope) 0 ≡ true
    none [] h = refl
    none (v ∷ vs) h = absurd (let below = h 0 0 (omega arith) in omega (arith, below))

-- no values of variables are needed for it
zeros_within : (sizes : List ℕ) → All (λ s. 1 ≤ s) sizes → AreWithin sizes (replicate (length sizes) 0)
zeros_within [] h = tt
zeros_within (s ∷ ss) h = (let some = All-head (λ s. 1 ≤ s) s ss h in omega (arith, some), zeros_within ss (All-tail (λ s. 1 ≤ s) s ss h))

module _ (sizes : List ℕ) (scale : ℕ) (buckets : List Bucket) (grounds : AreGrounds sizes scale buckets) where
  pub zeros_are_values : AreWithin sizes (replicate (length sizes) 0)
  zeros_are_values = zeros_within sizes (λ k d lt. (grounds.sized k d lt).0)

  zero_values : AreValues sizes (λ v. 0)
  zero_values v lt = (grounds.sized v 0 lt).0

  -- the first estimate is what the buckets send that names no variable
  pub first_is : (f : ℕ → ℕ) → first_sum buckets ≡ estimate 0 buckets f
  first_is f =
      let none : AgreeBelow 0 (λ v. 0) f = λ v lt. absurd (omega (arith, lt)) in
      let same = estimate_agrees sizes scale buckets grounds 0 (λ v. 0) f (omega arith) none in
      let both : first_sum buckets ≡ sum_by (λ (b : Bucket). b.fixed) buckets + sum_by (λ (b : Bucket). constants_cost b.sent) buckets = sum_both (λ (b : Bucket). b.fixed + constants_cost b.sent) (λ (b : Bucket). b.fixed) (λ (b : Bucket). constants_cost b.sent) buckets (λ b. refl) in
      let sent = constants_sent 0 buckets in
      let whole : constants_cost (bounds_at 0 buckets) ≡ cost_with (bounds_at 0 buckets) (λ v. 0) = ap (λ (xs : List CostTable). cost_with xs (λ v. 0)) (all_constants (bounds_at 0 buckets) (λ k d lt. (bounds_tables sizes scale buckets grounds 0 (omega arith) k d lt).1)) in
      omega (arith, same, both, sent, whole)

  pub first_within : first_sum buckets ≤ amount_limit
  first_within = let most = estimate_within sizes scale buckets grounds 0 (λ v. 0) (omega arith) zero_values in omega (arith, first_is (λ v. 0), most)
