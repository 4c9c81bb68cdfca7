use Rattle.std.proofs.Common.{take}
use Rattle.bucket_bounds.specs.Groups.{AreGroups}
use Rattle.bucket_bounds.specs.Parting.{ArePartedDuly}
use Rattle.bucket_bounds.proofs.group.groups_of.Given as goal

abbrev pub invariant-loop-table : goal.invariant-loop-table
invariant-loop-table l = AreGroups l.sizes l.limit (take l.table-index l.tables) l.groups.items × ArePartedDuly l.sizes l.limit (take l.table-index l.tables) l.groups.items
