use Rattle.std.proofs.Common.{sym, subst}
use Rattle.dcop_base.specs.Problem.{Dcop}
use Rattle.problem_text.specs.File.{TextFile, IsFile}
use Rattle.edit_session.proofs.CellLaws.{file_stays}
use Rattle.edit_session.proofs.edit.put_in_file.Goals as goal

pub invariant_of-file : goal.invariant_of-file
invariant_of-file c =
    let f : TextFile = record { version = c.file.inside.version; goal = c.file.inside.goal; names = c.file.inside.names; labels = c.file.inside.labels; problem = c.file.inside.problem } in
    subst (λ (q : Dcop). let g : TextFile = record { version = f.version; goal = f.goal; names = f.names; labels = f.labels; problem = q } in IsFile g) (sym c.put_cells.ensures)
    (file_stays f c.args.table c.args.cells c.file.invariant)
