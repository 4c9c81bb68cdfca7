use Rattle.std.proofs.Common.{◌*◌}
use Rattle.agent_workers.specs.Watched.{AreCellsUnmarked}
use Rattle.agent_workers.proofs.watch.Watch.first_from.Given as goal

abbrev pub invariant-loop-word : goal.invariant-loop-word
invariant-loop-word l = AreCellsUnmarked l.self.waits l.from (l.word * 64)
