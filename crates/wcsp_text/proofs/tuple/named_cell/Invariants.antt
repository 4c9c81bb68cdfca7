use Rattle.std.proofs.Common.{◌≡◌, ◌+◌, ◌*◌, ◌≤◌, drop}
use Rattle.dcop_base.specs.Table.{product}
use Rattle.wcsp_text.specs.Numbers.{place}
use Rattle.wcsp_text.specs.Cells.{values_read}
use Rattle.wcsp_text.specs.Gives.{named}
use Rattle.wcsp_text.proofs.tuple.named_cell.Given as goal

-- the values so far, with those that are left, are the whole, and lead to a cell within it
abbrev pub invariant-loop-size : goal.invariant-loop-size
invariant-loop-size l =
    (named l.cell (drop l.size-index l.sizes) (values_read (drop l.size-index l.sizes) (place l.rest)) ≡ named 0 l.sizes (values_read l.sizes (place l.text)))
    × ((l.cell + 1) * product (drop l.size-index l.sizes) ≤ product l.sizes)
