use Rattle.std.proofs.Common.{reverse}
use Rattle.pseudotree.specs.Tree.{path_of}
use Rattle.pseudotree.proofs.climb.paths_of.Goals as goal

pub returns-in-None-clause-fault : goal.returns-in-None-clause-fault
returns-in-None-clause-fault c = record {
  within = c.loop-index-test.true;
  loops = rw c.in-None.is at c.in_ok-path.ensures;
  first = λ v lt. (reverse (path_of c.loop-index.paths.items v), c.loop-index.invariant.1 v lt);
}
