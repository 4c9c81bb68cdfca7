-- Worked row: the journals of two ADOPT agents x and y, with their stamps.
use Rattle.std.proofs.Common.{◌≡◌, ℕ, List, [], ◌∷◌, Some, None, refl, arith}
use Rattle.protocol_steps.specs.declared.message.Message.{Message}
use Rattle.protocol_steps.specs.declared.message.Message.TheVariants.{Value, Cost, Threshold, Terminate}
use Rattle.protocol_steps.specs.declared.event.Take.{Take}
use Rattle.protocol_steps.specs.declared.event.Entry.{Entry}
use Rattle.protocol_steps.specs.Step.{start_of, step_of}
use Rattle.protocol_steps.specs.Stamps.{Deed, account_of, do_one}
use Rattle.protocol_steps.specs.Deeds.{AreDeeds, posted_to}
use Rattle.protocol_steps.specs.JournalStamps.{deeds_from}
use Rattle.protocol_steps.proofs.NetworkRows.{pair_x, pair_y}
use Rattle.std.specs.List.{fold}

-- an entry with one take
abbrev entry : ℕ → ℕ → ℕ → Entry
entry stamp from count =
    let t : Take = record { from = from; count = count } in
    record { stamp = stamp; takes = t ∷ [] }

abbrev journal_x : List Entry
journal_x = entry 1 1 1 ∷ entry 3 1 1 ∷ entry 5 1 1 ∷ []

abbrev journal_y : List Entry
journal_y = entry 2 0 4 ∷ entry 4 0 2 ∷ entry 6 0 3 ∷ []

-- all that y sends to x, with its stamps
abbrev to_x : List (ℕ × Message)
to_x = (0, Cost [] 0 None) ∷ (2, Cost ((0, 0) ∷ []) 3 (Some 3)) ∷ (4, Cost ((0, 1) ∷ []) 2 (Some 2)) ∷ []

-- all that x sends to y, with its stamps
abbrev to_y : List (ℕ × Message)
to_y =
    (0, Value 0)
    ∷ (0, Threshold 0 [])
    ∷ (1, Value 0)
    ∷ (1, Threshold 0 [])
    ∷ (3, Value 1)
    ∷ (3, Threshold 0 [])
    ∷ (5, Value 1)
    ∷ (5, Threshold 2 [])
    ∷ (5, Terminate ((0, 1) ∷ []))
    ∷ []

abbrev deeds_x : List Deed
deeds_x = deeds_from 0 (λ j. to_x) journal_x

abbrev deeds_y : List Deed
deeds_y = deeds_from 1 (λ j. to_y) journal_y

-- the stamps are right
pub right_x : AreDeeds 2 (account_of pair_x) deeds_x
unfolding start_of step_of
right_x = (record { known = omega arith; form = refl; right = refl }, (record { known = omega arith; form = refl; right = refl }, (record { known = omega arith; form = refl; right = refl }, tt)))

pub right_y : AreDeeds 2 (account_of pair_y) deeds_y
unfolding start_of step_of
right_y = (record { known = omega arith; form = refl; right = refl }, (record { known = omega arith; form = refl; right = refl }, (record { known = omega arith; form = refl; right = refl }, tt)))

-- what each took is all that the other sent
pub sent_x : posted_to 1 (fold do_one (account_of pair_x) deeds_x).posted ≡ to_y
unfolding start_of step_of
sent_x = refl

pub sent_y : posted_to 0 (fold do_one (account_of pair_y) deeds_y).posted ≡ to_x
unfolding start_of step_of
sent_y = refl
