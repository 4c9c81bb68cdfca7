use Rattle.std.proofs.Common.{◌≡◌, length}
use Rattle.search_top.proofs.OutsideLaws.{AreToldUpTo}
use Rattle.search_top.proofs.reporting.values_outside.Given as goal

abbrev pub invariant-loop-place : goal.invariant-loop-place
invariant-loop-place l = (length l.outside.items ≡ length l.order) × AreToldUpTo l.order l.values l.outside.items l.place
