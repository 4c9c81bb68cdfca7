use Rattle.std.proofs.Common.{subst, ◌∙◌}
use Rattle.dcop_base.specs.Problem.{Dcop}
use Rattle.solve_cut.specs.Cut.{GivesCut}
use Rattle.solve_cut.proofs.cutting.cut_for.Goals as goal

pub returns : goal.returns
returns g c = subst (λ (p : Dcop). GivesCut p c.args.limit c.args.keeps c.cut_on.result) (c.problem.ensures ∙ c.in_ok-solved.ensures) c.cut_on.ensures
