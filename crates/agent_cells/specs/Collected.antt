-- What a visit finds on the links to its cell.
use Rattle.std.specs.Prelude.{◌≡◌, ℕ, ◌≤◌, List, [], ◌∷◌, ◌++◌, map, length}
use Rattle.std.specs.List.{flat_map}
use Rattle.protocol_steps.specs.declared.message.Message.{Message}
use Rattle.protocol_steps.specs.declared.event.Take.{Take}
use Rattle.protocol_steps.specs.Stamps.{Gain, letters_of}
use Rattle.protocol_steps.specs.Deeds.{takes_of, greatest_of, greatest_from}
use Rattle.fifo_links.specs.Slots.{ring_slots}
use Rattle.fifo_links.specs.Link.{taken_from, known_to}
use Rattle.worker_laws.specs.Cells.{known_from}
use Rattle.agent_cells.specs.Links.{Head, IsSameHead, AreSameHeads, lanes_taken, known_of}

-- one head before and after it took all that it found, and what it took: at least what it knew of,
-- and at most what a ring holds
pub record Finding : Type 0 where
  pub before : Head
  pub gain : Gain
  pub after : Head
  pub from : gain.from ≡ before.0
  pub same : IsSameHead before after
  pub taken : taken_from after.1 ≡ taken_from before.1 ++ gain.envelopes
  pub most : length gain.envelopes ≤ ring_slots
  pub known : length (known_to before.1) ≤ length gain.envelopes

-- what was taken from peer j, if it is at least one message
abbrev pub some_from : ℕ → List (ℕ × Message) → List Gain
some_from j [] = []
some_from j (e ∷ es) = record { from = j; envelopes = e ∷ es } ∷ []

abbrev pub some_of : Gain → List Gain
some_of g = some_from g.from g.envelopes

-- what was found, head by head, without the heads on which nothing was found
abbrev pub gains_in : List Finding → List Gain
gains_in fs = flat_map (λ f. some_of f.gain) fs

-- one head took all that it found: its letters and takes are appended to those collected before,
-- and the greatest stamp is that of both
pub record HasFound (before after : Head) (letters more_letters : List (ℕ × Message)) (takes more_takes : List Take) (greatest more_greatest : ℕ) : Type 0 where
  pub finding : Finding
  pub before_is : before ≡ finding.before
  pub after_is : after ≡ finding.after
  pub letters_are : more_letters ≡ letters ++ letters_of (some_of finding.gain)
  pub takes_are : more_takes ≡ takes ++ takes_of (some_of finding.gain)
  pub greatest_is : more_greatest ≡ greatest_from greatest finding.gain.envelopes

-- heads before and after a visit, and what it took: its letters, its takes and the greatest stamp
pub record HasCollected (before after : List Head) (letters : List (ℕ × Message)) (takes : List Take) (greatest : ℕ) : Type 0 where
  pub findings : List Finding
  pub before_is : before ≡ map (λ f. f.before) findings
  pub after_is : after ≡ map (λ f. f.after) findings
  pub letters_are : letters ≡ letters_of (gains_in findings)
  pub takes_are : takes ≡ takes_of (gains_in findings)
  pub greatest_is : greatest ≡ greatest_of (gains_in findings)

-- heads before and after a look: nothing was taken, and from each peer no fewer messages are known
-- to wait than before
pub record HaveLooked (before after : List Head) : Type 0 where
  pub same : AreSameHeads before after
  pub taken : lanes_taken after ≡ lanes_taken before
  pub known : (j : ℕ) → known_from j (known_of before) ≤ known_from j (known_of after)

-- a look found nothing on any head; no message was known to wait before it
pub record HasFoundNothing (before after : List Head) : Type 0 where
  pub look : HaveLooked before after
  pub none : (j : ℕ) → known_from j (known_of before) ≡ 0

-- heads before a look and after a visit took what it found, and what the visit took
pub record HasLookedAndCollected (before after : List Head) (letters : List (ℕ × Message)) (takes : List Take) (greatest : ℕ) : Type 0 where
  pub looked : List Head
  pub look : HaveLooked before looked
  pub collected : HasCollected looked after letters takes greatest
