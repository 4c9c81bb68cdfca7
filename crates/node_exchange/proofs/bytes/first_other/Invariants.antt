use Rattle.std.proofs.Common.{◌≡◌, take}
use Rattle.node_exchange.proofs.bytes.first_other.Given as goal

abbrev pub invariant-loop-place : goal.invariant-loop-place
invariant-loop-place l = take l.place l.came ≡ take l.place l.went
