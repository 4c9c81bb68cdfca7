-- What is left of links once their first difference was taken.
use Rattle.std.specs.Prelude.{◌≡◌, ℕ, List, [], Some, slice_get, slice_set}
use Rattle.worker_laws.specs.Wires.{Wire, HasHeld}

-- a link from one agent to another that has passed nothing
abbrev pub fresh_link : ℕ → ℕ → Wire
fresh_link from to = record { receiver = to; sender = from; passages = [] }

-- the link from one agent to another, which differs, has become a new one, and every other link is
-- as it was
pub record IsRenewed (before : List Wire) (from to : ℕ) (after : List Wire) : Type 0 where
  pub link : ℕ
  pub wire : Wire
  pub is : slice_get before link ≡ Some wire
  pub ends : (wire.sender ≡ from) × (wire.receiver ≡ to)
  pub differs : ¬ HasHeld wire
  pub left : after ≡ slice_set before link (fresh_link from to)
