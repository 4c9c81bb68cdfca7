-- The letters of a queue.
use Rattle.std.specs.Prelude.{ℕ, List, ◌∷◌, Option, Some, None}
use Rattle.protocol_steps.specs.declared.message.Message.{Message}

-- the letters of a queue: the one that is stored in the queue itself, if there is one, and those
-- after it
abbrev pub queued : Option (ℕ × Message) → List (ℕ × Message) → List (ℕ × Message)
queued None behind = behind
queued (Some first) behind = first ∷ behind
