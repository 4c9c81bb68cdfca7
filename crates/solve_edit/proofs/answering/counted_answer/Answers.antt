use Rattle.std.proofs.Common.{◌≡◌, List, Some, None, sym, subst, ◌∙◌}
use Rattle.std.proofs.lemmas.Option.{none-some}
use Rattle.problem_text.specs.File.{TextFile}
use Rattle.minimised_problem.specs.Goal.{problem_solved, solved}
use Rattle.pseudotree.specs.DepthFirst.{dfs}
use Rattle.pseudotree.specs.Width.{wide_of}
use Rattle.edit_session.specs.Session.{IsOpenFault}
use Rattle.solve_methods.specs.Dpop.{wide_in}
use Rattle.solve_methods.proofs.ChosenLaws.{wide_told}
use Rattle.solve_edit.proofs.answering.counted_answer.Goals as goal

pub returns-in-Some-clause-told : goal.returns-in-Some-clause-told
returns-in-Some-clause-told g c =
    let wide : wide_in (problem_solved c.args.file) ≡ Some c.in-Some.wide = subst (λ (ps : List _). wide_of (problem_solved c.args.file) ps ≡ Some c.in-Some.wide) c.requires.paths (sym c.in_ok-wide.ensures ∙ c.in-Some.is) in
    rw c.too_wide.ensures.told (wide_told c.file.inside.goal c.file.inside.problem c.file.inside.names c.file.invariant.named c.in-Some.wide
    (subst (λ (f : TextFile). wide_in (solved f.goal f.problem) ≡ Some c.in-Some.wide) (sym c.file.view_is) wide))

pub unreachable-requires : goal.unreachable-requires
unreachable-requires g c =
    let q = problem_solved c.args.file in
    let none : wide_of q (dfs q) ≡ None = subst (λ (ps : List _). wide_of q ps ≡ None) c.requires.paths (sym c.in_ok-wide.ensures ∙ c.in_default.is) in
    let some = subst (IsOpenFault q) c.in-Err-Wide.field-0-is c.in-Err-Wide.ensures.fault in
    none-some _ (sym none ∙ some)
