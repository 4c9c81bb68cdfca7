use Rattle.std.proofs.Common.{◌≡◌, ◌*◌, ◌-◌, ◌%◌, get_or, sym, ap, ◌∙◌, arith}
use Rattle.std.proofs.lemmas.List.{length-set}
use Rattle.util_join.proofs.RowLaws.{small-mod}
use Rattle.util_join.proofs.AlikeLaws.{copied-more, copied-again}
use Rattle.util_join.proofs.alike.copy_row.Goals as goal

pub loop-p-preserved : goal.loop-p-preserved
loop-p-preserved c =
    let p = c.loop-p.p in
    let v = get_or c.args.from.now (c.args.step * p) 0 in
    let is : v ≡ get_or c.args.from.now (c.args.step * (p % c.args.width)) 0 = ap (λ n. get_or c.args.from.now (c.args.step * n) 0) (sym (small-mod p c.args.width (omega arith))) in
    record {
      long = length-set c.loop-p.copies p v ∙ c.loop-p.invariant.long;
      copied = copied-more c.args.from.now c.loop-p.copies c.args.width c.args.step p v (omega arith) is c.loop-p.invariant.copied;
    }

pub loop-p-2-preserved : goal.loop-p-2-preserved
loop-p-2-preserved c =
    let p = c.loop-p-2.p in
    let v = get_or c.loop-p-2.copies (p - c.args.width) 0 in
    record {
      long = length-set c.loop-p-2.copies p v ∙ c.loop-p-2.invariant.long;
      least = omega arith;
      copied = copied-more c.args.from.now c.loop-p-2.copies c.args.width c.args.step p v (omega arith) (copied-again c.args.from.now c.loop-p-2.copies c.args.width c.args.step p c.requires.some c.loop-p-2.invariant.least c.loop-p-2.invariant.copied) c.loop-p-2.invariant.copied;
    }
