use Rattle.std.proofs.Common.{◌≡◌, map, take}
use Rattle.minimised_problem.specs.Found.{path_on}
use Rattle.minimised_problem.proofs.search.paths_found.Given as goal

abbrev pub invariant-loop-agent : goal.invariant-loop-agent
invariant-loop-agent l = l.paths.items ≡ map path_on (take l.agent l.places)
