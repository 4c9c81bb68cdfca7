use Rattle.std.proofs.Common.{◌≡◌, ℕ, List, None, sym, ap, subst, ◌∙◌}
use Rattle.dcop_base.specs.Table.{CostTable}
use Rattle.dcop_base.specs.Problem.{Dcop}
use Rattle.problem_text.specs.File.{TextFile}
use Rattle.edit_session.specs.Faults.{IsReplacement, cells_fault}
use Rattle.edit_session.proofs.CellLaws.{fill_replaces}
use Rattle.edit_session.proofs.edit.fill_cells.Goals as goal

pub returns-clause-fits : goal.returns-clause-fits
returns-clause-fits c =
    let p = c.args.file.now.problem in
    let tables = c.as_slice.ensures ∙ ap (λ (q : Dcop). q.tables) c.problem.view_is ∙ ap (λ (f : TextFile). f.problem.tables) c.file.view_is in
    let none = subst (λ (ts : List CostTable). cells_fault ts c.args.table c.as_slice-2.result.now ≡ None) tables c.in_ok-copy.ensures.0 in
    subst (λ (cs : List ℕ). IsReplacement p.tables c.args.table cs) (sym c.in_ok-copy.ensures.1) (fill_replaces p.tables c.args.table c.as_slice-2.result.now none)
