use Rattle.std.proofs.Common.{take}
use Rattle.std.specs.List.{AllZip}
use Rattle.bucket_bounds.specs.Parts.{IsJoinOf}
use Rattle.bucket_bounds.proofs.joining.joined_tables.Given as goal

abbrev pub invariant-loop-group : goal.invariant-loop-group
invariant-loop-group l = AllZip (λ g t. IsJoinOf l.sizes g.tables.items t) (take l.group-index l.groups) l.tables.items
