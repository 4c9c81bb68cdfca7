use Rattle.std.proofs.Common.{◌≡◌, take}
use Rattle.std.specs.List.{filter}
use Rattle.dcop_base.specs.Table.{has}
use Rattle.dcop_base.proofs.part.tables_of.Given as goal

abbrev pub invariant-loop-table : goal.invariant-loop-table
invariant-loop-table l = l.own.items ≡ filter (λ t. has t.scope l.me) (take l.table-index l.tables)
