-- The letters of a link: the last one that was taken, and those that wait.
use Rattle.std.specs.Prelude.{ℕ, List, [], ◌∷◌, Option, Some, None}
use Rattle.protocol_steps.specs.declared.message.Message.{Message}
use Rattle.letter_queues.specs.declared.letters.Letters.{Letters}
use Rattle.letter_queues.specs.declared.letters.Letters.TheVariants.{Nothing, Waiting, Taken, Many}

-- the last letter that was taken, if there is one
abbrev pub taken_in : Letters → Option (ℕ × Message)
taken_in Nothing = None
taken_in (Waiting m) = None
taken_in (Taken m) = Some m
taken_in (Many b) = b.value.taken

-- the letters that wait, in the order in which they were sent
abbrev pub waiting_in : Letters → List (ℕ × Message)
waiting_in Nothing = []
waiting_in (Waiting m) = m ∷ []
waiting_in (Taken m) = []
waiting_in (Many b) = b.value.waiting
