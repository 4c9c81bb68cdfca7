use Rattle.std.proofs.Common.{◌≡◌, ◌++◌, drop}
use Rattle.wire_pump.specs.Memory.{alters_of}
use Rattle.wire_pump.proofs.alter.alters_of.Given as goal

abbrev pub invariant-loop-alter : goal.invariant-loop-alter
invariant-loop-alter l = l.found.items ++ alters_of l.pair l.is_first (drop l.alter-index l.alters) ≡ alters_of l.pair l.is_first l.alters
