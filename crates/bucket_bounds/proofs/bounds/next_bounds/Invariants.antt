use Rattle.std.proofs.Common.{◌≡◌, ◌++◌, not, take}
use Rattle.std.specs.List.{filter}
use Rattle.dcop_base.specs.Table.{has}
use Rattle.bucket_bounds.proofs.bounds.next_bounds.Given as goal

abbrev pub invariant-loop-table : goal.invariant-loop-table
invariant-loop-table l = l.next.items ≡ filter (λ t. not (has t.scope l.fn.var)) l.bounds ++ take l.table-index l.sent
