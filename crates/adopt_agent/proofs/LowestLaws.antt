-- The lowest of the numbers at which a function is least.
use Rattle.std.proofs.Common.{◌≡◌, ℕ, zero, suc, ◌-◌, ◌≤◌, Bool, cond, refl, ap, subst, ◌∙◌, arith}
use Rattle.std.proofs.lemmas.Bool.{cond_both}
use Rattle.adopt_context.specs.Bounds.{lowest}

-- one more number
pub lowest_next : {X : Type 0} (less : X → X → Bool) (f : ℕ → X) (d : ℕ) → 1 ≤ d → lowest less f d ≡ cond (less (f d) (f (lowest less f (d - 1)))) d (lowest less f (d - 1))
lowest_next less f zero h = absurd (omega (arith, h))
lowest_next less f (suc n) h =
    subst (λ (m : ℕ). lowest less f (suc n) ≡ cond (less (f (suc n)) (f (lowest less f m))) (suc n) (lowest less f m)) (one_back n) refl
  where
    one_back : (n : ℕ) → n ≡ suc n - 1
    one_back n = omega arith

-- the lowest least of the numbers to n is one of them
pub lowest_within : {X : Type 0} (less : X → X → Bool) (f : ℕ → X) (n : ℕ) → lowest less f n ≤ n
lowest_within less f zero = omega arith
lowest_within less f (suc n) =
    let le = lowest_within less f n in
    cond_both (less (f (suc n)) (f (lowest less f n))) (suc n) (lowest less f n) (λ m. m ≤ suc n) (λ _. omega arith) (λ _. omega (arith, le))

-- functions that agree up to a number have the same lowest least
pub lowest_same : {X : Type 0} (less : X → X → Bool) (f g : ℕ → X) (n : ℕ) → ((d : ℕ) → d ≤ n → f d ≡ g d) → lowest less f n ≡ lowest less g n
lowest_same less f g zero same = refl
lowest_same less f g (suc n) same =
    let rest : lowest less f n ≡ lowest less g n = lowest_same less f g n (λ d le. same d (omega (arith, le))) in
    let low : lowest less g n ≤ n = lowest_within less g n in
    let least = ap f rest ∙ same (lowest less g n) (omega (arith, low)) in
    ap (λ x. cond (less x (f (lowest less f n))) (suc n) (lowest less f n)) (same (suc n) (omega arith))
    ∙ ap (λ x. cond (less (g (suc n)) x) (suc n) (lowest less f n)) least
    ∙ ap (λ (m : ℕ). cond (less (g (suc n)) (g (lowest less g n))) (suc n) m) rest
