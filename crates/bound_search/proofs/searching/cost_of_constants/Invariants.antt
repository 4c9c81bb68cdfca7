use Rattle.std.proofs.Common.{◌≡◌, ◌+◌, drop}
use Rattle.bound_search.specs.First.{constants_cost}
use Rattle.bound_search.proofs.searching.cost_of_constants.Given as goal

abbrev pub invariant-loop-table : goal.invariant-loop-table
invariant-loop-table l = l.cost + constants_cost (drop l.table-index l.tables) ≡ constants_cost l.tables
