-- What one sender sent to an agent.
use Rattle.std.specs.Prelude.{ℕ, List, [], map, Option, Some, None, ◌==◌}
use Rattle.std.specs.List.{find, last_or}
use Rattle.protocol_steps.specs.declared.message.Message.{Message}

-- what one sender sent to an agent: the last letter that was taken, and the letters that wait
pub record LinkView : Type 0 where
  pub from : ℕ
  pub taken : Option (ℕ × Message)
  pub waiting : List (ℕ × Message)

-- a link on which nothing was sent
abbrev pub new_link : ℕ → LinkView
new_link j = record { from = j; taken = None; waiting = [] }

-- messages as letters of one sender
abbrev pub letters_of : ℕ → List Message → List (ℕ × Message)
letters_of j ms = map (λ m. (j, m)) ms

-- the link of an inbox from one sender, if there is one
abbrev pub link_from : ℕ → List LinkView → Option LinkView
link_from j inbox = find (λ l. l.from == j) inbox

-- the letters that wait on a link; none if there is no link
abbrev pub waiting_on : Option LinkView → List (ℕ × Message)
waiting_on None = []
waiting_on (Some l) = l.waiting

-- the last letter that was taken from a link, if there is one
abbrev pub taken_on : Option LinkView → Option (ℕ × Message)
taken_on None = None
taken_on (Some l) = l.taken

-- the letters of one sender that wait
abbrev pub waiting_from : List LinkView → ℕ → List (ℕ × Message)
waiting_from inbox j = waiting_on (link_from j inbox)

-- the last letter of one sender that was taken, if there is one
abbrev pub last_taken : List LinkView → ℕ → Option (ℕ × Message)
last_taken inbox j = taken_on (link_from j inbox)

-- the last letter of one sender: the last one that waits, or else the last one that was taken
abbrev pub last_letter : List LinkView → ℕ → Option (ℕ × Message)
last_letter inbox j = last_or (last_taken inbox j) (waiting_from inbox j)
