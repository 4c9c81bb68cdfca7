use Rattle.std.proofs.Common.{◌≡◌, None, sym, subst}
use Rattle.dcop_base.specs.Table.{table_fault}
use Rattle.dcop_base.specs.Problem.{Dcop}
use Rattle.edit_session.specs.Edits.{table_at}
use Rattle.edit_session.proofs.CellLaws.{recelled_fault}
use Rattle.edit_session.proofs.edit.put_cells.Goals as goal

pub recell_at-requires-clause-whole : goal.recell_at-requires-clause-whole
recell_at-requires-clause-whole c =
    subst (λ (p : Dcop). table_fault (table_at p c.args.table).scope (table_at p c.args.table).sizes c.args.cells ≡ None) (sym c.problem.view_is)
    (recelled_fault c.args.problem.now c.args.table c.args.cells c.requires.inside c.requires.whole)
