-- What a machine says of its parcels.
use Rattle.std.proofs.Common.{◌≡◌, ℕ, List, subst}
use Rattle.std.specs.List.{All}
use Rattle.protocol_steps.specs.declared.message.Message.{Message}
use Rattle.protocol_steps.specs.View.{View}
use Rattle.protocol_steps.specs.Machine.{IsStart, IsStep, IsToNeighbour}
use Rattle.agent_cells.specs.Receivers.{GoToNeighbours}

pub start_receivers : (v after : View) (ps : List (ℕ × Message)) → IsStart v after ps → All (IsToNeighbour v) ps → GoToNeighbours v ps
start_receivers v after ps _ h = record { each = h }

pub step_receivers : (v after : View) (ls ps : List (ℕ × Message)) → IsStep v ls after ps → All (IsToNeighbour v) ps → GoToNeighbours v ps
step_receivers v after ls ps _ h = record { each = h }

-- the view of what a box holds is the view of the box
pub moved {ℓ} : {P : Type ℓ} (f : P → View) (ps : List (ℕ × Message)) (q p : P) → GoToNeighbours (f p) ps → p ≡ q → GoToNeighbours (f q) ps
moved f ps q p h e = subst (λ x. GoToNeighbours (f x) ps) e h
