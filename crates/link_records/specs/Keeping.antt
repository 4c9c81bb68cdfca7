-- What an exchange adds to the passages of a link.
use Rattle.std.specs.Prelude.{ℕ, List, [], ◌∷◌, ◌++◌}
use Rattle.protocol_steps.specs.declared.message.Message.{Message}
use Rattle.worker_laws.specs.Wires.{Passage, Wire}

-- the passage of an exchange that drained the one list and at which the other arrived; none if both
-- are empty
abbrev pub passage_of : List (ℕ × Message) → List (ℕ × Message) → List Passage
passage_of [] [] = []
passage_of [] (e ∷ arrived) = record { drained = []; arrived = e ∷ arrived } ∷ []
passage_of (e ∷ drained) arrived = record { drained = e ∷ drained; arrived = arrived } ∷ []

-- the link after this exchange
abbrev pub keeps : Wire → List (ℕ × Message) → List (ℕ × Message) → Wire
keeps w drained arrived = record { receiver = w.receiver; sender = w.sender; passages = w.passages ++ passage_of drained arrived }
