use Rattle.std.proofs.Common.{◌≡◌, ◌++◌, drop}
use Rattle.wire_pump.specs.Memory.{polls_of}
use Rattle.wire_pump.proofs.alter.polls_of.Given as goal

abbrev pub invariant-loop-fail : goal.invariant-loop-fail
invariant-loop-fail l = l.found.items ++ polls_of l.pair l.is_first (drop l.fail-index l.polls) ≡ polls_of l.pair l.is_first l.polls
