-- What agents of all kinds share: phases, the result of an activation, and batches.
use Rattle.std.specs.Prelude.{ℕ, ◌-◌, Bool, false, List, [], ◌++◌, length, Option, slice_get}
use Rattle.std.specs.List.{fold}
use Rattle.protocol_steps.specs.declared.message.Message.{Message}

-- whether an agent has started, whether it has ended, and whether it has failed because memory ran out
pub record Phase : Type 0 where
  pub started : Bool
  pub ended : Bool
  pub failed : Bool

-- an agent that has not started yet
abbrev pub not_started : Phase
not_started = record { started = false; ended = false; failed = false }

-- the last variable of a path, which is the parent; an empty path, which the root has, gives none
abbrev pub last_of : List ℕ → Option ℕ
last_of path = slice_get path (length path - 1)

-- the result of a start, a message or an activation: the new view, and the parcels, each a receiver and a message
pub record Stepped (V : Type 0) : Type 0 where
  pub view : V
  pub sends : List (ℕ × Message)

module _ {V : Type 0} where
  -- an unchanged view, and nothing is sent
  abbrev pub quiet : V → Stepped V
  quiet v = record { view = v; sends = [] }

  -- one letter, a sender and a message, is handled after earlier ones, and what it sends comes after what they sent
  abbrev pub next_letter : (V → ℕ → Message → Stepped V) → Stepped V → ℕ × Message → Stepped V
  next_letter handle s l = record {
    view = (handle s.view l.0 l.1).view;
    sends = s.sends ++ (handle s.view l.0 l.1).sends;
  }

  -- a batch: all its letters are handled in order
  abbrev pub each_letter : (V → ℕ → Message → Stepped V) → V → List (ℕ × Message) → Stepped V
  each_letter handle v ls = fold (next_letter handle) (quiet v) ls
