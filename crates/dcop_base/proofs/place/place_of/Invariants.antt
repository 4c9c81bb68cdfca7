use Rattle.std.proofs.Common.{ℕ, List}
use Rattle.dcop_base.specs.Place.{AreDigits}
use Rattle.dcop_base.proofs.PlaceLaws.{IsPlaceSoFar}
use Rattle.dcop_base.proofs.place.place_of.Given as goal

abbrev pub invariant-loop-k : goal.invariant-loop-k
invariant-loop-k g l = (sizes values : List ℕ) → AreDigits (goal.F-post g l.digit) l.count sizes values → IsPlaceSoFar l.k l.place sizes values
