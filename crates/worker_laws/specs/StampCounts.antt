-- Limits on how great stamps become.
use Rattle.std.specs.Prelude.{◌≡◌, ℕ, ◌<◌, ◌≤◌, List, length, Some, slice_get}
use Rattle.std.specs.List.{All}
use Rattle.protocol_steps.specs.declared.message.Message.{Message}
use Rattle.protocol_steps.specs.View.{View}
use Rattle.protocol_steps.specs.Stamps.{Deed, Posted, Account}
use Rattle.protocol_steps.specs.Deeds.{AreDeeds, deeds_of, after_all}
use Rattle.protocol_steps.specs.StampLaw.{IsPrefix, ArePieces, all_of}
use Rattle.protocol_steps.specs.JournalStamps.{AreStarts}
use Rattle.worker_laws.specs.Cells.{CellState, lane, EachAre}
use Rattle.worker_laws.specs.Visits.{IsQuiet}
use Rattle.worker_laws.specs.Acts.{IsLater}
use Rattle.worker_laws.specs.CellRounds.{AreStarted, AreCellRounds, total}

-- no stamp of an account is above k: neither its last one nor a stamp of what it sent
pub record IsStampedWithin (k : ℕ) (x : Account) : Type 0 where
  pub last : x.stamp ≤ k
  pub sent : All (λ (p : Posted). p.envelope.0 ≤ k) x.posted

-- in a run from agents' starts, ordered by piece and in each piece by stamp, no stamp is above the number of events
abbrev pub StampsAreFew : Type 0
StampsAreFew = (made : List View) (now : ℕ → Account) (pieces : List (List Deed)) → AreStarts made now
    → ((i : ℕ) → AreDeeds (length made) (now i) (deeds_of i (all_of pieces))) → ArePieces now pieces
    → (i : ℕ) → i < length made → IsStampedWithin (length (all_of pieces)) (after_all now (all_of pieces) i)

-- a cell after some activations in a round that may have been broken off
pub record IsMoved (before after : CellState) : Type 0 where
  pub middle : CellState
  pub quiet : IsQuiet before middle
  pub deeds : List Deed
  pub later : IsLater middle deeds after

-- on each link, what was taken is the first part of what was sent
abbrev pub ArePrefixes : List CellState → Type 0
ArePrefixes cells = (i j : ℕ) (to from : CellState) → slice_get cells i ≡ Some to → slice_get cells j ≡ Some from → IsPrefix (lane j to.taken) (lane i from.sent)

-- no stamp of a cell is above k: neither its last one nor a stamp of what it sent
pub record IsCellWithin (k : ℕ) (c : CellState) : Type 0 where
  pub last : c.stamp ≤ k
  pub sent : (j : ℕ) → All (λ (e : ℕ × Message). e.0 ≤ k) (lane j c.sent)

-- cells that have started and were played in rounds, and in a last one that may have been broken off, have no stamp above the number of messages taken, if on each link what was taken is the first part of what was sent
abbrev pub CellStampsAreFew : Type 0
CellStampsAreFew = (budget : ℕ) (made : List View) (cells before after : List CellState) (rounds : List (List CellState))
    → AreStarted made cells → AreCellRounds budget cells rounds before → EachAre IsMoved before after → ArePrefixes after
    → (i : ℕ) (c : CellState) → slice_get after i ≡ Some c → IsCellWithin (total after) c
