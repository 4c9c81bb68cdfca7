-- Marks of agents: the mark at place j belongs to agent j.
use Rattle.std.specs.Prelude.{◌≡◌, ◌≢◌, ℕ, Bool, true, false, List, length, slice_get, Some}
use Rattle.std.specs.List.{All}
use Rattle.protocol_steps.specs.declared.message.Message.{Message}
use Rattle.worker_laws.specs.Cells.{Lane, lane}

-- marks of agents before and after: there are as many marks, and each that was set is still set;
-- what no mark says is told at `AreMarked` and `LeavesUnmarked`
pub record StayMarked (before after : List Bool) : Type 0 where
  pub size : length after ≡ length before
  pub each : (j : ℕ) → slice_get before j ≡ Some true → slice_get after j ≡ Some true

-- no parcel goes to an agent whose mark is not set
pub record AreMarked (sends : List (ℕ × Message)) (marks : List Bool) : Type 0 where
  pub each : (j : ℕ) → slice_get marks j ≡ Some false → All (λ p. p.0 ≢ j) sends

-- nothing more was sent to an agent whose mark is not set
pub record LeavesUnmarked (marks : List Bool) (before after : List Lane) : Type 0 where
  pub unsent : (j : ℕ) → slice_get marks j ≡ Some false → lane j after ≡ lane j before
