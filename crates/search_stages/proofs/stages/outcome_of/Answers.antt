use Rattle.std.proofs.Common.{◌<◌, arith, inl, inr}
use Rattle.std.proofs.lemmas.Bool.{not-true, not-false}
use Rattle.search_stages.proofs.StageLaws.{so_far_more, outcome_is, last_outcome}
use Rattle.search_stages.proofs.stages.outcome_of.Goals as goal
use Rattle.search_stages.proofs.stages.outcome_of.Goals.{then-not-outcome-via-then-not-outcome, then-not-outcome-via-else-not-outcome+then-outcome-asked}

pub returns-then-not-outcome : goal.returns-then-not-outcome
returns-then-not-outcome c =
    let wider : c.loop-stage.earlier < c.in_ok-limit.limit = (let not_less = c.if-limit-earlier.false in omega (arith, not_less)) in
    outcome_is c.args.problem.now c.in_ok-shared.shared c.args.asked c.args.best c.stage_budget-budget.result c.loop-stage.earlier c.in_ok-limit.limit c.loop-stage.outcome c.in_ok-outcome-2.outcome
    c.loop-stage.invariant.0 wider c.in_ok-outcome-2.ensures c.in_ok-shared.ensures
    (elim c.then-not-outcome.branch [
      | then-not-outcome-via-then-not-outcome w ↦ inl (not-true c.in_ok-outcome-2.outcome.ended.spent w.if-not-outcome.true)
      | then-not-outcome-via-else-not-outcome+then-outcome-asked w ↦ inr (inl w.if-outcome-asked.true)
    ])

pub loop-stage-preserved : goal.loop-stage-preserved
loop-stage-preserved c =
    let wider : c.loop-stage.earlier < c.in_ok-limit.limit = (let not_less = c.if-limit-earlier.false in omega (arith, not_less)) in (
      so_far_more c.args.problem.now c.in_ok-shared.shared c.args.asked c.args.best c.stage_budget-budget.result c.loop-stage.earlier c.in_ok-limit.limit c.loop-stage.outcome c.in_ok-outcome-2.outcome
          c.loop-stage.invariant.0 wider c.in_ok-outcome-2.ensures (not-false c.in_ok-outcome-2.outcome.ended.spent c.if-not-outcome.false),
      (let less = c.if-widest-limit.false in omega (arith, less)),
      c.loop-stage.invariant.2,
    )

pub returns : goal.returns
returns c =
    last_outcome c.args.problem.now c.in_ok-shared.shared c.args.asked c.args.best c.loop-stage.earlier c.in_ok-widest.widest c.loop-stage.outcome c.searched-2.result
    c.in_ok-shared.ensures c.loop-stage.invariant.0 c.loop-stage.invariant.1 c.searched-2.ensures
