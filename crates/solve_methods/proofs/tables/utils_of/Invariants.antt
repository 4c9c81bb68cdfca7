use Rattle.std.proofs.Common.{◌≡◌, map}
use Rattle.solve_methods.specs.Agreed.{node_util}
use Rattle.solve_methods.proofs.tables.utils_of.Given as goal

abbrev pub invariant-loop-node : goal.invariant-loop-node
invariant-loop-node l = l.utils.items ≡ map (node_util l.tables) l.yielded
