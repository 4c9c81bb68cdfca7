use Rattle.std.proofs.Common.{◌≡◌, ℕ, List, Some, sym, ap, ap₂, subst, ◌∙◌, arith}
use Rattle.dcop_base.specs.Problem.{Dcop}
use Rattle.dcop_base.specs.Whole.{IsProblem}
use Rattle.dcop_optimum.specs.Goal.{top_of}
use Rattle.problem_text.specs.File.{TextFile}
use Rattle.edit_session.specs.Edits.{with_cells}
use Rattle.edit_session.specs.Session.{turned_cells}
use Rattle.edit_session.proofs.CellLaws.{replaced, turned_may}
use Rattle.edit_session.proofs.replacing.replace_cells.Goals as goal

pub put_in_turned-requires-clause-whole : goal.put_in_turned-requires-clause-whole
put_in_turned-requires-clause-whole c =
    let p = c.args.file.now.problem in
    let view = ap (λ (f : TextFile). f.problem) c.file.view_is in
    let problem = subst IsProblem view c.problem_is_whole.ensures in
    let same = ap₂ (λ (q : Dcop) (cs : List ℕ). top_of (with_cells q c.args.table cs)) view c.as_slice.ensures.value in
    let sum = c.in-Some.ensures.0 in
    let within = c.in-Some.ensures.1 in
    let whole = replaced p c.args.table c.args.cells.items problem c.requires.cells (omega (arith, sum, within, same)) in
    λ (q : Dcop) (e : c.args.turned.now ≡ Some q). subst (λ (cs : List ℕ). IsProblem (with_cells q c.args.table (turned_cells cs))) (sym c.as_slice-2.ensures.value)
    (turned_may c.args.file.now.goal p c.args.table c.args.cells.items whole q (sym c.requires.turned ∙ e))

pub put_in_file-requires-clause-whole : goal.put_in_file-requires-clause-whole
put_in_file-requires-clause-whole c =
    let p = c.args.file.now.problem in
    let view = ap (λ (f : TextFile). f.problem) c.file.view_is in
    let problem = subst IsProblem view c.problem_is_whole.ensures in
    let same = ap₂ (λ (q : Dcop) (cs : List ℕ). top_of (with_cells q c.args.table cs)) view c.as_slice.ensures.value in
    let sum = c.in-Some.ensures.0 in
    let within = c.in-Some.ensures.1 in
    subst (λ (cs : List ℕ). IsProblem (with_cells p c.args.table cs)) (sym c.from_vec.ensures) (replaced p c.args.table c.args.cells.items problem c.requires.cells (omega (arith, sum, within, same)))
