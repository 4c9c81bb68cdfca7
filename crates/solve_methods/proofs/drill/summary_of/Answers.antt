use Rattle.std.proofs.Common.{subst}
use Rattle.dcop_base.specs.Whole.{IsProblem}
use Rattle.problem_text.specs.File.{TextFile}
use Rattle.solve_methods.proofs.MarkLaws.{mark-small}
use Rattle.solve_methods.proofs.drill.summary_of.Goals as goal

pub mark_of-requires : goal.mark_of-requires
mark_of-requires c =
    let whole : IsProblem c.args.file.now.problem = subst (λ (f : TextFile). IsProblem f.problem) c.file.view_is c.problem_is_whole.ensures in
    rw c.as_slice-4.ensures (mark-small c.args.file.now.problem c.args.report.now.values whole c.requires)
