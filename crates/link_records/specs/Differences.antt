-- The first difference between what was drained of links and what arrived.
use Rattle.std.specs.Prelude.{◌≡◌, ◌≢◌, ℕ, ◌+◌, ◌<◌, ◌⊎◌, List, length, take, min, Option, Some, slice_get}
use Rattle.std.specs.List.{All, sum_by}
use Rattle.dcop_base.specs.Limits.{count_limit}
use Rattle.protocol_steps.specs.declared.message.Message.{Message}
use Rattle.worker_laws.specs.Wires.{Passage, Wire, IsSame, HasHeld}

-- before this position two lists are the same, and at it they differ; one of them may end there
pub record DifferAt (drained arrived : List (ℕ × Message)) (place : ℕ) : Type 0 where
  pub same : take place arrived ≡ take place drained
  pub differ : slice_get arrived place ≢ slice_get drained place

-- how many messages were drained in these passages
abbrev pub drained_by : List Passage → ℕ
drained_by ps = sum_by (λ p. length p.drained) ps

-- the first passage whose two lists differ has this number, and they first differ at this position;
-- `at` is how many messages the link had drained before the one at that position, or 2^64 - 1 if
-- they are more
pub record FirstDiffer (passages : List Passage) (number place at : ℕ) : Type 0 where
  pub passage : Passage
  pub is : slice_get passages number ≡ Some passage
  pub earlier : All IsSame (take number passages)
  pub differ : DifferAt passage.drained passage.arrived place
  pub counted : at ≡ min (drained_by (take number passages) + place) count_limit

-- a link comes before another if its sender is lower, or if the senders are the same and its
-- receiver is lower
abbrev pub IsLowerLink : Wire → Wire → Type 0
IsLowerLink v w = (v.sender < w.sender) ⊎ ((v.sender ≡ w.sender) × (v.receiver < w.receiver))

-- on each link of the list that comes before this one, exactly what each exchange drained arrived
abbrev pub HoldBefore : List Wire → Wire → Type 0
HoldBefore ws w = (k : ℕ) (v : Wire) → slice_get ws k ≡ Some v → IsLowerLink v w → HasHeld v

-- the lowest link that differs is at this position of the list, and this is its first difference
pub record IsFirstDifference (ws : List Wire) (link number place at : ℕ) : Type 0 where
  pub wire : Wire
  pub is : slice_get ws link ≡ Some wire
  pub lowest : HoldBefore ws wire
  pub first : FirstDiffer wire.passages number place at

-- these two envelopes are at the first difference of the lowest link that differs, which leads from
-- one agent to another; `at` is how many messages it had drained before
pub record Differs (ws : List Wire) (from to at : ℕ) (sent taken : Option (ℕ × Message)) : Type 0 where
  pub link : ℕ
  pub number : ℕ
  pub place : ℕ
  pub first : IsFirstDifference ws link number place at
  pub from_is : from ≡ first.wire.sender
  pub to_is : to ≡ first.wire.receiver
  pub sent_is : sent ≡ slice_get first.first.passage.drained place
  pub taken_is : taken ≡ slice_get first.first.passage.arrived place
  pub apart : taken ≢ sent
