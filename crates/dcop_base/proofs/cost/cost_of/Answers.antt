use Rattle.std.proofs.Common.{◌<◌, length, get_or, ap, ◌∙◌, subst, arith}
use Rattle.dcop_base.specs.Problem.{Dcop}
use Rattle.dcop_base.specs.Whole.{IsProblem}
use Rattle.dcop_base.proofs.ProblemLaws.{table-at, entries-of, values-fit, cost-more-le-cap, cost-so-far-le-cap}
use Rattle.dcop_base.proofs.cost.cost_of.Goals as goal

pub eval-sum-requires : goal.eval-sum-requires
eval-sum-requires c =
    let p = c.args.problem.now in
    let tables = c.as_slice-table-items.ensures ∙ ap (λ (p : Dcop). p.tables) c.problem.view_is in
    let whole = subst IsProblem c.problem.view_is c.problem.invariant in
    let k = c.loop-table.table-index in
    let t = c.table-item.result in
    let lt : k < length p.tables = rw (← tables) c.loop-table-test.true in
    let of = table-at p k t whole lt (c.table-item.is ∙ ap (λ ts. get_or ts k t) tables) in
    record {
      entries = entries-of p.sizes c.args.values.now t of c.requires;
      sizes = values-fit p.sizes c.args.values.now t of c.requires;
    }

pub overflow_add-sum : goal.overflow_add-sum
overflow_add-sum c =
    let p = c.args.problem.now in
    let tables = c.as_slice-table-items.ensures ∙ ap (λ (p : Dcop). p.tables) c.problem.view_is in
    let whole = subst IsProblem c.problem.view_is c.problem.invariant in
    let k = c.loop-table.table-index in
    let t = c.table-item.result in
    let lt : k < length p.tables = rw (← tables) c.loop-table-test.true in
    let most = cost-more-le-cap p c.args.values.now k t whole lt (c.table-item.is ∙ ap (λ ts. get_or ts k t) tables) in
    omega (arith, most, c.eval-sum.ensures.cell)

pub returns-clause-within : goal.returns-clause-within
returns-clause-within c =
    let p = c.args.problem.now in
    let whole = subst IsProblem c.problem.view_is c.problem.invariant in
    let most = cost-so-far-le-cap p c.args.values.now c.loop-table.table-index whole in
    omega (arith, most, c.loop-table.invariant)
