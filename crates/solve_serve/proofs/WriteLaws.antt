-- What writing keeps as it goes.
use Rattle.std.proofs.Common.{◌≡◌, ℕ, ◌≤◌, List, length, take, Option}
use Rattle.dcop_edge.specs.Sink.{Adds}

-- the first `at` bytes of a text are written, and no call failed
pub record WriteDone (before now : Option (List ℕ)) (old new : ℕ) (text : List ℕ) (at : ℕ) : Type 0 where
  pub within : at ≤ length text
  pub added : Adds before (take at text) now
  pub count : new ≡ old
