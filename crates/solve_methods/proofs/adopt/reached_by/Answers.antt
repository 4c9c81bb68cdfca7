use Rattle.std.proofs.Common.{Bool, ℕ, refl, sym, ap, subst, ◌∙◌, if◌then◌else◌}
use Rattle.dcop_base.specs.Problem.{IsAssignment, cost}
use Rattle.dcop_base.specs.Whole.{IsProblem}
use Rattle.certificate_text.specs.declared.report.Ending.TheVariants.{Solved, Spent}
use Rattle.minimised_problem.specs.LogEnds.{least_known}
use Rattle.solve_methods.proofs.AdoptRunLaws.{values-assigned, reached}
use Rattle.solve_methods.proofs.adopt.reached_by.Goals as goal

pub cost_of-cost-requires : goal.cost_of-cost-requires
cost_of-cost-requires c =
    let p = c.args.problem.now in
    let whole : IsProblem p = c.problem_is_whole.ensures in
    subst (IsAssignment p) (sym c.as_slice.ensures)
    (values-assigned p whole (c.token_runs.ensures.pseudotree p whole) (c.token_runs.ensures.linked p whole) c.rounds_are_a_run.ensures c.adopt_bounds_enclose.ensures c.adopt_pending.ensures c.adopt_ends.ensures
    c.args.asked.error c.args.asked.budget c.args.ran.outcome c.requires.run)

pub returns : goal.returns
returns c =
    let p = c.args.problem.now in
    let whole : IsProblem p = c.problem_is_whole.ensures in
    reached p whole (c.token_runs.ensures.pseudotree p whole) (c.token_runs.ensures.linked p whole) c.rounds_are_a_run.ensures c.adopt_bounds_enclose.ensures c.adopt_pending.ensures c.adopt_ends.ensures
    c.args.asked.error c.args.asked.budget c.args.ran.outcome c.requires.run _ refl
    (c.ending_by.ensures ∙ ap (λ (b : Bool). if b then Solved else Spent) c.requires.run.told.ended) refl refl
    (c.least_known.ensures ∙ ap (λ (sum : ℕ). least_known sum c.args.ran.outcome.top.upper) (c.cost_of-cost.ensures.cost ∙ ap (cost p) c.as_slice.ensures))
    c.args.asked.certified c.requires.asked c.requires.kept
