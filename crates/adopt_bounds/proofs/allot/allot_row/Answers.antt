use Rattle.std.proofs.Common.{◌-◌, ◌∙◌, sym, arith}
use Rattle.std.proofs.lemmas.List.Sums.{sum_by-le}
use Rattle.dcop_base.specs.Limits.{amount_limit}
use Rattle.adopt_bounds.specs.Rows.{entries_of}
use Rattle.adopt_bounds.proofs.ShareLaws.{share_sum_is, allot_raises, allot_cuts, allot_keeps}
use Rattle.adopt_bounds.proofs.allot.allot_row.Goals as goal

pub cut-requires-clause-fits : goal.cut-requires-clause-fits
cut-requires-clause-fits c = omega (arith, c.sum_of-sum.ensures, sum_by-le (λ s. s) amount_limit c.args.share.now c.requires.share_within)

pub returns-then-sum-goal-clause-entries : goal.returns-then-sum-goal-clause-entries
returns-then-sum-goal-clause-entries c = λ contexts h.
    c.raise.ensures.entries c.args.lower.now contexts c.requires.lower h
    ∙ sym (allot_raises c.args.goal (entries_of c.args.lower.now c.args.upper.now c.args.share.now contexts) c.sum_of-sum.result (c.from-goal.result - c.sum_of-sum.result)
    (share_sum_is c.args.lower.now c.args.upper.now c.args.share.now contexts c.requires.lower c.requires.upper h ∙ sym c.sum_of-sum.ensures)
    (omega (arith, c.if-sum-goal.true, c.from-goal.ensures)) (omega (arith, c.from-goal.ensures)))

pub returns-then-goal-sum-clause-entries : goal.returns-then-goal-sum-clause-entries
returns-then-goal-sum-clause-entries c = λ contexts h.
    c.cut.ensures.entries c.args.upper.now contexts c.requires.upper h
    ∙ sym (allot_cuts c.args.goal (entries_of c.args.lower.now c.args.upper.now c.args.share.now contexts) c.sum_of-sum.result (c.sum_of-sum.result - c.from-goal.result)
    (share_sum_is c.args.lower.now c.args.upper.now c.args.share.now contexts c.requires.lower c.requires.upper h ∙ sym c.sum_of-sum.ensures)
    (omega (arith, c.if-goal-sum.true, c.from-goal.ensures)) (omega (arith, c.from-goal.ensures)))

pub returns-else-goal-sum-clause-entries : goal.returns-else-goal-sum-clause-entries
returns-else-goal-sum-clause-entries c = λ contexts h.
    sym (allot_keeps c.args.goal (entries_of c.args.lower.now c.args.upper.now c.args.share.now contexts) c.sum_of-sum.result
    (share_sum_is c.args.lower.now c.args.upper.now c.args.share.now contexts c.requires.lower c.requires.upper h ∙ sym c.sum_of-sum.ensures)
    (omega (arith, c.if-sum-goal.false, c.from-goal.ensures)) (omega (arith, c.if-goal-sum.false, c.from-goal.ensures)))
