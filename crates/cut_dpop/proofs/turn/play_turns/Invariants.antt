use Rattle.cut_dpop.specs.Start.{paths_in}
use Rattle.cut_dpop.specs.Kept.{AreTurnsKept}
use Rattle.cut_dpop.specs.Played.{IsBestOf}
use Rattle.cut_dpop.proofs.turn.play_turns.Given as goal

abbrev pub invariant-loop-number : goal.invariant-loop-number
invariant-loop-number g l = IsBestOf l.problem (paths_in l.start) l.cut l.number l.best × AreTurnsKept l.keep l.problem (paths_in l.start) l.cut l.number l.kept.items
