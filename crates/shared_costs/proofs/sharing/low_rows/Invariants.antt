use Rattle.std.proofs.Common.{◌≡◌, vec_len}
use Rattle.shared_costs.specs.Rows.{AreLowRows}
use Rattle.shared_costs.proofs.sharing.low_rows.Given as goal

abbrev pub invariant-loop-place : goal.invariant-loop-place
invariant-loop-place l = record {
  rows : AreLowRows l.tables l.var l.size l.places l.place-index l.rows.items;
  lows : vec_len l.lows ≡ l.size;
}
