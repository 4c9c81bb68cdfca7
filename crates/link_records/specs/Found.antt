-- The lowest link that differs, among the first links of a list, and its first difference.
use Rattle.std.specs.Prelude.{◌≡◌, ℕ, ◌<◌, Option, Some, None, slice_get, List}
use Rattle.protocol_steps.specs.declared.message.Message.{Message}
use Rattle.worker_laws.specs.Wires.{Wire, HasHeld}
use Rattle.link_records.specs.Differences.{FirstDiffer, IsLowerLink}

-- the link at this position differs, and none of the first `count` links that come before it does
pub record IsLowest (ws : List Wire) (count link : ℕ) : Type 0 where
  pub wire : Wire
  pub within : link < count
  pub is : slice_get ws link ≡ Some wire
  pub differs : ¬ HasHeld wire
  pub lowest : (k : ℕ) (v : Wire) → k < count → slice_get ws k ≡ Some v → IsLowerLink v wire → HasHeld v

-- the lowest link that differs, of the first `count`, is at this position; with `None` none of them
-- differs
abbrev pub IsLowestOf : List Wire → ℕ → Option ℕ → Type 0
IsLowestOf ws count (Some link) = IsLowest ws count link
IsLowestOf ws count None = (k : ℕ) (v : Wire) → k < count → slice_get ws k ≡ Some v → HasHeld v

-- this is the first difference of the link: `at` is how many messages it had drained before, and
-- these are the two envelopes
pub record IsDifferenceOf (w : Wire) (at : ℕ) (sent taken : Option (ℕ × Message)) : Type 0 where
  pub number : ℕ
  pub place : ℕ
  pub first : FirstDiffer w.passages number place at
  pub sent_is : sent ≡ slice_get first.passage.drained place
  pub taken_is : taken ≡ slice_get first.passage.arrived place
