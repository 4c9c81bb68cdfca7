use Rattle.std.proofs.Common.{◌≡◌, ◌≤◌, length, get_or, arith}
use Rattle.problem_text.proofs.NumberLaws.{number-first, words-behind_space}
use Rattle.problem_text.proofs.short_numbers.short_behind_space.Goals as goal

pub returns : goal.returns
returns c =
    let some : 1 ≤ length c.args.text.now = omega (arith, c.if-text.false) in
    let space : get_or c.args.text.now 0 0 ≡ 32 = omega (arith, c.if-text-ne32.false) in
    let same = words-behind_space c.args.text.now c.split_at.result.1.now some space c.split_at.ensures.back in
    number-first c.args.text.now c.split_at.result.1.now c.split_at-2.result.1.now c.in_ok-number.length c.in_ok-number.number same c.in_ok-number.ensures.run c.in_ok-number.ensures.some c.split_at-2.ensures.back c.in_ok-number.ensures.number
