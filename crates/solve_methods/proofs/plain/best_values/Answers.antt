use Rattle.std.proofs.Common.{subst, ◌∙◌}
use Rattle.dcop_base.specs.Problem.{Dcop}
use Rattle.dcop_base.specs.Whole.{IsProblem}
use Rattle.problem_text.specs.File.{TextFile}
use Rattle.solve_methods.specs.Plain.{GivesFirst}
use Rattle.solve_methods.proofs.BestLaws.{best_first}
use Rattle.solve_methods.proofs.plain.best_values.Goals as goal

pub returns : goal.returns
returns c =
    let whole : IsProblem c.args.file.now.problem = subst (λ (f : TextFile). IsProblem f.problem) c.file.view_is c.problem_is_whole.ensures in
    best_first c.args.file.now whole c.first_values.result
    (subst (λ (p : Dcop). GivesFirst p c.first_values.result) (c.problem.ensures ∙ c.in_ok-solved.ensures) c.first_values.ensures)
