-- What passed over the links between nodes, exchange by exchange.
use Rattle.std.specs.Prelude.{◌≡◌, ℕ, List, [], ◌++◌, Option, Some, ◌==◌, ◌&&◌, if◌then◌else◌, slice_get}
use Rattle.std.specs.List.{All, flat_map}
use Rattle.std.specs.Option.{option_to_list}
use Rattle.protocol_steps.specs.declared.message.Message.{Message}
use Rattle.worker_laws.specs.Cells.{EachAre}

-- what one exchange did on one link: the messages that it drained in the sender's node, and those that arrived in the receiver's node, each with its stamp
pub record Passage : Type 0 where
  pub drained : List (ℕ × Message)
  pub arrived : List (ℕ × Message)

-- a link between two nodes: the agents at its ends, and its passages, one for each exchange that found something on it
pub record Wire : Type 0 where
  pub receiver : ℕ
  pub sender : ℕ
  pub passages : List Passage

-- exactly what was drained arrived
abbrev pub IsSame : Passage → Type 0
IsSame p = p.arrived ≡ p.drained

-- a link has held: in each exchange exactly what was drained arrived
abbrev pub HasHeld : Wire → Type 0
HasHeld w = All IsSame w.passages

-- all links have held
abbrev pub HaveHeld : List Wire → Type 0
HaveHeld ws = All HasHeld ws

-- no two links lead from the same agent to the same agent
abbrev pub AreApart : List Wire → Type 0
AreApart ws = (k l : ℕ) (v w : Wire) → slice_get ws k ≡ Some v → slice_get ws l ≡ Some w → v.receiver ≡ w.receiver → v.sender ≡ w.sender → k ≡ l

-- a link after one more exchange: it has one more passage, or none if there was nothing to pass
pub record HasPassed (before after : Wire) : Type 0 where
  pub passage : Option Passage
  pub receiver : after.receiver ≡ before.receiver
  pub sender : after.sender ≡ before.sender
  pub passages : after.passages ≡ before.passages ++ option_to_list passage

-- all links after one more exchange
abbrev pub ArePassedOn : List Wire → List Wire → Type 0
ArePassedOn before after = EachAre HasPassed before after

-- all messages that were drained from the link to agent i from agent j
abbrev pub drained_in : ℕ → ℕ → List Wire → List (ℕ × Message)
drained_in i j ws = flat_map (λ w. if w.receiver == i && w.sender == j then flat_map (λ p. p.drained) w.passages else []) ws

-- all messages that arrived on the link to agent i from agent j
abbrev pub arrived_in : ℕ → ℕ → List Wire → List (ℕ × Message)
arrived_in i j ws = flat_map (λ w. if w.receiver == i && w.sender == j then flat_map (λ p. p.arrived) w.passages else []) ws
