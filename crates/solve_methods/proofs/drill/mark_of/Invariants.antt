use Rattle.std.proofs.Common.{◌≡◌, ◌+◌, drop}
use Rattle.solve_methods.specs.Drill.{mark_from, mark_of}
use Rattle.solve_methods.proofs.drill.mark_of.Given as goal

abbrev pub invariant-loop-var : goal.invariant-loop-var
invariant-loop-var l = l.mark + mark_from (l.var + 1) (drop l.var l.values) ≡ mark_of l.values
