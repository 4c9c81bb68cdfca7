use Rattle.std.proofs.Common.{◌≡◌, ◌++◌}
use Rattle.tcp_links.proofs.drain.take_found.Given as goal

abbrev pub invariant-loop-sealed : goal.invariant-loop-sealed
invariant-loop-sealed l = l.drained.items ≡ l.initial.drained.items ++ l.yielded
