use Rattle.std.proofs.Common.{◌≡◌, ◌≤◌, ◌*◌, min, drop}
use Rattle.dcop_base.specs.Table.{product}
use Rattle.dcop_base.proofs.size.product_of.Given as goal

abbrev pub invariant-loop-size : goal.invariant-loop-size
invariant-loop-size l = (l.product ≤ 18446744073709551615) × (min (l.product * product (drop l.size-index l.sizes)) 18446744073709551615 ≡ min (product l.sizes) 18446744073709551615)
