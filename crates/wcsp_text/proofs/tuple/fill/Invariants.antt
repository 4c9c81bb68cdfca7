use Rattle.std.proofs.Common.{◌≡◌, ◌-◌, length}
use Rattle.dcop_base.specs.Table.{product}
use Rattle.wcsp_text.specs.Numbers.{place}
use Rattle.wcsp_text.specs.Cells.{tuples_read}
use Rattle.wcsp_text.specs.Gives.{filled}
use Rattle.wcsp_text.proofs.tuple.fill.Given as goal

-- the cells with the tuples so far, with those that are left, are the whole
abbrev pub invariant-loop : goal.invariant-loop
invariant-loop l =
    (filled l.sizes l.cells (tuples_read l.sizes (l.count - l.counter) (place l.rest)) ≡ filled l.sizes l.initial.cells (tuples_read l.sizes l.count (place l.text)))
    × (length l.cells ≡ product l.sizes)
