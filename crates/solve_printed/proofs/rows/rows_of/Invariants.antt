use Rattle.std.proofs.Common.{◌≡◌, ◌++◌, drop}
use Rattle.delivery_core.specs.State.{views_of}
use Rattle.solve_printed.specs.Rows.{rows_from}
use Rattle.solve_printed.proofs.rows.rows_of.Given as goal

abbrev pub invariant-loop-at : goal.invariant-loop-at
invariant-loop-at l = l.rows.items ++ rows_from l.at (drop l.at (views_of l.core.seats)) ≡ rows_from 0 (views_of l.core.seats)
