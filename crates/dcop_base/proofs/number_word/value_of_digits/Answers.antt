use Rattle.std.proofs.Common.{◌<◌, ◌≤◌, ℕ, ◌+◌, ◌*◌, ◌^◌, arith, lit<}
use Rattle.std.proofs.Math.Nat.{pow-le-pow_right}
use Rattle.dcop_base.proofs.number_word.value_of_digits.Goals as goal

-- one digit more after at most 18 fits 64 bits
fits_after : (value k digit : ℕ) → value < 10 ^ k → k < 19 → digit < 256 → value * 10 + digit < 2 ^ 64
fits_after value k digit below short small =
    let within : k ≤ 18 = omega arith in
    let bound : 10 ^ k ≤ 10 ^ 18 = pow-le-pow_right (lit< tt) within in
    omega arith

pub overflow_mul-value : goal.overflow_mul-value
overflow_mul-value c =
    let h : c.loop-digit.value * 10 + 0 < 2 ^ 64 = fits_after _ c.loop-digit.digit-index 0 c.loop-digit.invariant.1 (omega arith) (lit< tt) in
    omega arith

pub overflow_add-value : goal.overflow_add-value
overflow_add-value c =
    let h : c.loop-digit.value * 10 + c.from.result < 2 ^ 64 = fits_after _ c.loop-digit.digit-index c.from.result c.loop-digit.invariant.1 (omega arith) (omega arith) in
    omega arith
