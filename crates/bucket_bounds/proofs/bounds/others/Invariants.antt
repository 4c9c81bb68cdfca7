use Rattle.std.proofs.Common.{◌≡◌, not, take}
use Rattle.std.specs.List.{filter}
use Rattle.dcop_base.specs.Table.{has}
use Rattle.bucket_bounds.proofs.bounds.others.Given as goal

abbrev pub invariant-loop-table : goal.invariant-loop-table
invariant-loop-table l = l.clones.items ≡ filter (λ t. not (has t.scope l.var)) (take l.table-index l.tables)
