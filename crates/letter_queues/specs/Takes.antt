-- What may be taken from an inbox in a turn.
use Rattle.std.specs.Prelude.{ℕ, List, [], ◌∷◌, length, ◌==◌, if◌then◌else◌, min}
use Rattle.std.specs.List.{flat_map}
use Rattle.protocol_steps.specs.declared.event.Take.{Take}
use Rattle.protocol_steps.specs.Rounds.{link_share}
use Rattle.letter_queues.specs.Links.{LinkView}

-- a take of `count` messages from agent j, or of 64 if they are more; no take if there are none
abbrev pub take_some : ℕ → ℕ → List Take
take_some j count = if count == 0 then [] else record { from = j; count = min count link_share } ∷ []

-- a take of each link of an inbox on which something waits, of at most 64 letters
abbrev pub inbox_takes : List LinkView → List Take
inbox_takes inbox = flat_map (λ l. take_some l.from (length l.waiting)) inbox
