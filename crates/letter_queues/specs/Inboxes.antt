-- What happens to an inbox: letters arrive and are taken, and the last letter that was taken is
-- kept.
use Rattle.std.specs.Prelude.{ℕ, List, [], ◌∷◌, ◌++◌, map, take, drop, length, Option, Some, None, ◌==◌, nat_lt, if◌then◌else◌}
use Rattle.std.specs.List.{fold}
use Rattle.protocol_steps.specs.declared.message.Message.{Message}
use Rattle.protocol_steps.specs.declared.event.Take.{Take}
use Rattle.protocol_steps.specs.declared.event.EventFault.{EventFault}
use Rattle.protocol_steps.specs.declared.event.EventFault.TheVariants.{TooMany}
use Rattle.letter_queues.specs.Links.{LinkView, waiting_from}

-- the senders of an inbox, link by link
abbrev pub senders : List LinkView → List ℕ
senders inbox = map (λ l. l.from) inbox

-- the inbox in which the first link from this sender is changed by f; the same inbox if there is no
-- such link
abbrev pub edit_link : ℕ → (LinkView → LinkView) → List LinkView → List LinkView
edit_link j f [] = []
edit_link j f (l ∷ ls) = if l.from == j then f l ∷ ls else l ∷ edit_link j f ls

-- the link after a letter arrives on it
abbrev pub with_letter : ℕ × Message → LinkView → LinkView
with_letter m l = record l { waiting = l.waiting ++ (m ∷ []) }

-- the link after its first `count` letters that wait are removed
abbrev pub without_next : ℕ → LinkView → LinkView
without_next count l = record l { waiting = drop count l.waiting }

-- the link after a letter that was taken is kept as its last one
abbrev pub with_last : ℕ × Message → LinkView → LinkView
with_last m l = record l { taken = Some m }

-- the inbox after a letter arrives on the link of its sender
abbrev pub add_letter : List LinkView → ℕ × Message → List LinkView
add_letter inbox m = edit_link m.0 (with_letter m) inbox

-- the inbox after the letters of a take are removed
abbrev pub take_off : List LinkView → Take → List LinkView
take_off inbox t = edit_link t.from (without_next t.count) inbox

-- the inbox after a letter that was taken is kept as the last one of its sender
abbrev pub keep_last : List LinkView → ℕ × Message → List LinkView
keep_last inbox m = edit_link m.0 (with_last m) inbox

-- the letters that these takes name, one take after another
abbrev pub letters_by : List LinkView → List Take → List (ℕ × Message)
letters_by inbox [] = []
letters_by inbox (t ∷ ts) = take t.count (waiting_from inbox t.from) ++ letters_by (take_off inbox t) ts

-- the inbox after these takes
abbrev pub inbox_after : List LinkView → List Take → List LinkView
inbox_after inbox ts = fold keep_last (fold take_off inbox ts) (letters_by inbox ts)

-- the fault of the first take that asks for more messages than wait, if there is one
abbrev pub short_in : List LinkView → List Take → Option EventFault
short_in inbox [] = None
short_in inbox (t ∷ ts) =
    if nat_lt (length (waiting_from inbox t.from)) t.count
    then Some (TooMany t.from t.count (length (waiting_from inbox t.from)))
    else short_in inbox ts
