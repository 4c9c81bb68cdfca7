-- What a step sends on the links of its cell.
use Rattle.std.specs.Prelude.{◌≡◌, ℕ, List}
use Rattle.protocol_steps.specs.declared.message.Message.{Message}
use Rattle.protocol_steps.specs.Stamps.{post}
use Rattle.protocol_steps.specs.Deeds.{posted_to}
use Rattle.worker_laws.specs.Cells.{grown}
use Rattle.agent_cells.specs.Links.{Tail, lanes_sent}

-- each parcel was sent to its receiver with this stamp, after all that was sent before
abbrev pub HasDelivered : List Tail → ℕ → List (ℕ × Message) → List Tail → Type 0
HasDelivered before stamp sends after = lanes_sent after ≡ grown (λ j. posted_to j (post stamp sends)) (lanes_sent before)
