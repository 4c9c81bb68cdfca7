use Rattle.std.proofs.Common.{◌≡◌, ◌<◌, true, length, get_or, ap, sym, arith}
use Rattle.problem_text.specs.Lines.{is_blank}
use Rattle.problem_text.proofs.NumberLaws.{run-digits}
use Rattle.problem_text.proofs.short_numbers.short_at.Goals as goal

pub returns-in_default-clause-run : goal.returns-in_default-clause-run
returns-in_default-clause-run c =
    let space : get_or c.args.text.now c.loop-count.count 0 ≡ 32 = omega (arith, c.if-byte-ne32.false) in
    let end : c.loop-count.count < length c.args.text.now → is_blank (get_or c.args.text.now c.loop-count.count 0) ≡ true = λ h. ap is_blank space in
    sym (run-digits c.loop-count.count c.args.text.now (omega arith) c.loop-count.invariant.2 end)
