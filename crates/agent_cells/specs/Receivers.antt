-- Where parcels go.
use Rattle.std.specs.Prelude.{ℕ, List}
use Rattle.std.specs.List.{All}
use Rattle.protocol_steps.specs.declared.message.Message.{Message}
use Rattle.protocol_steps.specs.View.{View}
use Rattle.protocol_steps.specs.Machine.{IsToNeighbour}

-- each parcel goes to a neighbour of the agent
pub record GoToNeighbours (v : View) (ps : List (ℕ × Message)) : Type 0 where
  pub each : All (IsToNeighbour v) ps
