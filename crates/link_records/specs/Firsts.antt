-- The first difference on a link, given the passages from it on.
use Rattle.std.specs.Prelude.{◌≡◌, ◌≢◌, ℕ, List, take, Option, Some, slice_get}
use Rattle.protocol_steps.specs.declared.message.Message.{Message}
use Rattle.worker_laws.specs.Wires.{Passage}

-- in the first of these passages, the two lists are the same before this position; at it are these
-- two envelopes, which differ
abbrev pub DiffersFirst : List Passage → ℕ → Option (ℕ × Message) → Option (ℕ × Message) → Type 0
DiffersFirst since place sent taken =
    (p : Passage) → slice_get since 0 ≡ Some p → (take place p.arrived ≡ take place p.drained) × (sent ≡ slice_get p.drained place) × (taken ≡ slice_get p.arrived place) × (taken ≢ sent)
