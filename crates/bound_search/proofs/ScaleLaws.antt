-- Laws of scaled costs.
use Rattle.std.proofs.Common.{◌≡◌, ℕ, ◌+◌, ◌*◌, ◌-◌, ◌/◌, ◌<◌, ◌≤◌, sym, ap, ◌∙◌, arith}
use Rattle.std.proofs.Math.Nat.{mul_comm, add-mul-div_right, div-lt_iff_lt-mul, mul-div_cancel_left}
use Rattle.std.proofs.lemmas.Nat.{div-mul-add}
use Rattle.bound_search.specs.Estimate.{unscaled}

pub unscaled_zero : (scale : ℕ) → 1 ≤ scale → unscaled scale 0 ≡ 0
unscaled_zero scale some =
    ap (λ (n : ℕ). n / scale) (let e : 0 + (scale - 1) ≡ 0 * scale + (scale - 1) = omega arith in e) ∙ div-mul-add 0 scale (scale - 1) (omega arith)

pub unscaled_some : (scale scaled : ℕ) → 1 ≤ scale → 1 ≤ scaled → unscaled scale scaled ≡ (scaled - 1) / scale + 1
unscaled_some scale scaled some more =
    ap (λ (n : ℕ). n / scale) (let e : scaled + (scale - 1) ≡ (scaled - 1) + 1 * scale = omega arith in e) ∙ add-mul-div_right (scaled - 1) 1 some

-- an unscaled cost is the cost
pub unscaled_is : (scale c f : ℕ) → 1 ≤ scale → f ≡ scale * c → unscaled scale f ≡ c
unscaled_is scale c f some e =
    ap (λ (n : ℕ). (n + (scale - 1)) / scale) (e ∙ mul_comm scale c) ∙ div-mul-add c scale (scale - 1) (omega arith)

-- what is at most a scaled cost, unscaled, is at most the cost
pub unscaled_low : (scale f c : ℕ) → 1 ≤ scale → f ≤ scale * c → unscaled scale f ≤ c
unscaled_low scale f c some le =
    let below : f + (scale - 1) < (c + 1) * scale = omega (arith, le, mul_comm scale c) in
    let less = (div-lt_iff_lt-mul some).1 below in
    omega (arith, less)

-- a scale does not bring two costs together
pub scale_apart : (scale a b : ℕ) → 1 ≤ scale → scale * a ≡ scale * b → a ≡ b
scale_apart scale a b some e = sym (mul-div_cancel_left a some) ∙ ap (λ (n : ℕ). n / scale) e ∙ mul-div_cancel_left b some

-- a scaled cost, divided, is the cost
pub cost_back : (scale c f : ℕ) → 1 ≤ scale → f ≡ scale * c → f / scale ≡ c
cost_back scale c f some e = ap (λ (n : ℕ). n / scale) e ∙ mul-div_cancel_left c some
