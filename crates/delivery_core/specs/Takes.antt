-- What an agent of a core state takes in a turn.
use Rattle.std.specs.Prelude.{◌≡◌, ℕ, ◌≤◌, ◌<◌, Bool, false, List, [], length, Some, if◌then◌else◌, slice_get, slice_index_or}
use Rattle.protocol_steps.specs.declared.event.Take.{Take}
use Rattle.protocol_steps.specs.View.{ended_of}
use Rattle.letter_queues.specs.Takes.{inbox_takes}
use Rattle.delivery_core.specs.State.{SeatView}

-- what an agent takes in its turn; nothing if it has ended
abbrev pub seat_takes : SeatView → List Take
seat_takes x = if ended_of x.view then [] else inbox_takes x.inbox

-- the agents from place `from` up to, but not including, place `to` take nothing
abbrev pub TakeNothing : List SeatView → ℕ → ℕ → Type 0
TakeNothing seats from to = (k : ℕ) (d : SeatView) → from ≤ k → k < to → seat_takes (slice_index_or seats k d) ≡ []

-- each agent has a flag, and an agent whose flag is not set takes nothing
abbrev pub KnowsBusy : List Bool → List SeatView → Type 0
KnowsBusy busy seats = (length busy ≡ length seats) × ((k : ℕ) (x : SeatView) → slice_get busy k ≡ Some false → slice_get seats k ≡ Some x → seat_takes x ≡ [])

-- there are as many flags as before; an agent whose flag is not set has not changed, and its flag
-- was not set before
abbrev pub KeepCalm : List Bool → List SeatView → List Bool → List SeatView → Type 0
KeepCalm busy seats busy_now seats_now =
    (length busy_now ≡ length busy) × ((k : ℕ) → slice_get busy_now k ≡ Some false → (slice_get busy k ≡ Some false) × (slice_get seats_now k ≡ slice_get seats k))
