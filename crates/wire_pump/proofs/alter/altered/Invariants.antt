use Rattle.std.proofs.Common.{◌≡◌, drop}
use Rattle.wire_pump.specs.Memory.{altered}
use Rattle.wire_pump.proofs.alter.altered.Given as goal

abbrev pub invariant-loop-alter : goal.invariant-loop-alter
invariant-loop-alter l = altered (drop l.alter-index l.alters) l.place l.byte ≡ altered l.alters l.place l.byte
