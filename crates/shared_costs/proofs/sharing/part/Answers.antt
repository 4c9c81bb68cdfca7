use Rattle.std.proofs.Common.{◌+◌, ◌/◌, get_or, arith}
use Rattle.dcop_base.specs.Limits.{amount_limit}
use Rattle.shared_costs.proofs.PartLaws.{part-most, part-all, part-sums, part-last, part-rest, at-most-zero}
use Rattle.shared_costs.proofs.sharing.part.Goals as goal

pub overflow_add-taken : goal.overflow_add-taken
overflow_add-taken c =
    let a = c.loop-a.a in
    omega (arith, c.loop-a.invariant.rest a (omega arith), c.requires.small a 0 (omega (arith, c.loop-a-test.true)), c.requires.few, c.requires.round)

pub loop-a-preserved : goal.loop-a-preserved
loop-a-preserved c =
    let a = c.loop-a.a in
    let pot = c.loop-a.pot in
    let taken = (get_or pot a 0 + c.args.round) / c.args.left in
    record {
      sums = part-sums pot c.loop-a.parts c.args.pot.now a taken (omega (arith, c.loop-a-test.true, c.loop-a.auto.pot)) (omega (arith, c.loop-a-test.true, c.loop-a.auto.parts, c.requires.equal))
          (part-most (get_or pot a 0) c.args.round c.args.left c.requires.round) (c.loop-a.invariant.rest a (omega arith)) c.loop-a.invariant.sums;
      last = λ e. part-last pot a taken (omega (arith, c.loop-a-test.true, c.loop-a.auto.pot)) (part-all (get_or pot a 0) c.args.round c.args.left c.requires.round e) (c.loop-a.invariant.last e);
      rest = part-rest pot c.args.pot.now a _ c.loop-a.invariant.rest;
    }

pub returns-clause-pot : goal.returns-clause-pot
returns-clause-pot c =
    at-most-zero amount_limit c.loop-a.pot (λ k lt. omega (arith, c.loop-a.invariant.sums k (omega (arith, lt, c.loop-a-test.false, c.loop-a.auto.pot)), c.requires.small k 0 (omega (arith, lt, c.loop-a.auto.pot))))

pub returns-clause-parts : goal.returns-clause-parts
returns-clause-parts c =
    at-most-zero amount_limit c.loop-a.parts (λ k lt. omega (arith, c.loop-a.invariant.sums k (omega (arith, lt, c.loop-a-test.false, c.loop-a.auto.parts, c.requires.equal)), c.requires.small k 0 (omega (arith, lt, c.loop-a.auto.parts, c.requires.equal))))
