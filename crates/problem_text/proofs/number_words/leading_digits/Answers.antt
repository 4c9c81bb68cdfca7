use Rattle.std.proofs.Common.{◌<◌, ◌+◌, ◌*◌, ◌^◌, arith, lit<}
use Rattle.problem_text.proofs.NumberLaws.{fits-after}
use Rattle.problem_text.proofs.number_words.leading_digits.Goals as goal

pub overflow_mul-value : goal.overflow_mul-value
overflow_mul-value c =
    let h : c.loop-count.value * 10 + 0 < 2 ^ 64 = fits-after _ c.loop-count.count 0 c.loop-count.invariant.1 (omega arith) (lit< tt) in
    omega arith

pub overflow_add-value : goal.overflow_add-value
overflow_add-value c =
    let h : c.loop-count.value * 10 + c.from.result < 2 ^ 64 = fits-after _ c.loop-count.count c.from.result c.loop-count.invariant.1 (omega arith) (omega arith) in
    omega arith
