use Rattle.std.proofs.Common.{◌≡◌, ap, ◌∙◌}
use Rattle.dcop_base.specs.Problem.{Dcop}
use Rattle.dcop_optimum.proofs.BestLaws.{best_start, best_keeps, best_takes, best_ends, fewer_left}
use Rattle.dcop_optimum.proofs.plain.try_all.Goals as goal

pub loop-problem-init : goal.loop-problem-init
loop-problem-init c =
    best_start c.args.problem.now c.args.values.now c.args.best.now c.cost_of-least.result c.requires.within c.requires.first c.requires.same c.cost_of-least.ensures.cost

pub loop-problem-smaller-then-cost-least : goal.loop-problem-smaller-then-cost-least
loop-problem-smaller-then-cost-least c =
    let sizes : c.as_slice.result.now ≡ c.args.problem.now.sizes = c.as_slice.ensures ∙ ap (λ (p : Dcop). p.sizes) c.problem.view_is in
    fewer_left c.args.problem.now c.loop-problem.values c.advance.new.values (rw sizes at c.loop-problem-test.ensures.within) (rw sizes at c.loop-problem-test.ensures.next)

pub loop-problem-preserved-then-cost-least : goal.loop-problem-preserved-then-cost-least
loop-problem-preserved-then-cost-least c =
    let sizes : c.as_slice.result.now ≡ c.args.problem.now.sizes = c.as_slice.ensures ∙ ap (λ (p : Dcop). p.sizes) c.problem.view_is in
    rw c.copy_from_slice.ensures.after
    (best_takes c.args.problem.now c.loop-problem.values c.advance.new.values c.loop-problem.best c.loop-problem.least c.cost_of-cost.result c.loop-problem.invariant
    (rw sizes at c.loop-problem-test.ensures.within) (rw sizes at c.loop-problem-test.ensures.next) c.cost_of-cost.ensures.cost c.if-cost-least.true)

pub loop-problem-smaller : goal.loop-problem-smaller
loop-problem-smaller c =
    let sizes : c.as_slice.result.now ≡ c.args.problem.now.sizes = c.as_slice.ensures ∙ ap (λ (p : Dcop). p.sizes) c.problem.view_is in
    fewer_left c.args.problem.now c.loop-problem.values c.advance.new.values (rw sizes at c.loop-problem-test.ensures.within) (rw sizes at c.loop-problem-test.ensures.next)

pub loop-problem-preserved : goal.loop-problem-preserved
loop-problem-preserved c =
    let sizes : c.as_slice.result.now ≡ c.args.problem.now.sizes = c.as_slice.ensures ∙ ap (λ (p : Dcop). p.sizes) c.problem.view_is in
    best_keeps c.args.problem.now c.loop-problem.values c.advance.new.values c.loop-problem.best c.loop-problem.least c.loop-problem.invariant
    (rw sizes at c.loop-problem-test.ensures.within) (rw sizes at c.loop-problem-test.ensures.next) (rw (← c.cost_of-cost.ensures.cost) c.if-cost-least.false)

pub returns-clause-best : goal.returns-clause-best
returns-clause-best c =
    let sizes : c.as_slice.result.now ≡ c.args.problem.now.sizes = c.as_slice.ensures ∙ ap (λ (p : Dcop). p.sizes) c.problem.view_is in
    best_ends c.args.problem.now c.loop-problem.values c.loop-problem.best c.loop-problem.least c.loop-problem.invariant (rw sizes at c.loop-problem-test.ensures.next.0)
