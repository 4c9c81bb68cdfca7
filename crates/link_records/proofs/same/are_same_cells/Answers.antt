use Rattle.std.proofs.lemmas.Slice.Eq.{slice_eq-Decides}
use Rattle.std.proofs.lemmas.Bool.Decides.{Decides-eqb}
use Rattle.link_records.proofs.same.are_same_cells.Goals as goal

pub returns : goal.returns
returns c = slice_eq-Decides Decides-eqb _ _ _ (rw (c.as_slice.ensures, c.as_slice-2.ensures) at c.eq.ensures)
