use Rattle.std.proofs.Common.{◌≡◌, ℕ, List, None, sym, ap, subst, ◌∙◌}
use Rattle.dcop_base.specs.Table.{CostTable}
use Rattle.dcop_base.specs.Problem.{Dcop}
use Rattle.dcop_base.specs.Whole.{IsProblem}
use Rattle.problem_text.specs.File.{TextFile}
use Rattle.edit_session.specs.Faults.{IsReplacement, cell_fault, cells_set}
use Rattle.edit_session.proofs.CellLaws.{set_replaces}
use Rattle.edit_session.proofs.edit.set_cells.Goals as goal

pub returns-clause-fits : goal.returns-clause-fits
returns-clause-fits c =
    let p = c.args.file.now.problem in
    let tables = c.as_slice.ensures ∙ ap (λ (q : Dcop). q.tables) c.problem.view_is ∙ ap (λ (f : TextFile). f.problem.tables) c.file.view_is in
    let whole = subst IsProblem (ap (λ (f : TextFile). f.problem) c.file.view_is) c.problem_is_whole.ensures in
    let none = subst (λ (ts : List CostTable). cell_fault ts c.args.table c.args.cell c.args.cost ≡ None) tables c.in_ok-cells.ensures.0 in
    subst (λ (cs : List ℕ). IsReplacement p.tables c.args.table cs) (sym (c.in_ok-cells.ensures.1 ∙ ap (λ (ts : List CostTable). cells_set ts c.args.table c.args.cell c.args.cost) tables))
    (set_replaces p c.args.table c.args.cell c.args.cost whole none)
