-- The start of a cell, and a visit: one activation on what its links hold, or none.
use Rattle.std.specs.Prelude.{◌≡◌, ℕ, ◌+◌, ◌*◌, ◌<◌, ◌≤◌, true, false, List, [], ◌∷◌, ◌++◌, length, max}
use Rattle.std.specs.List.{All, Contains, sum_by}
use Rattle.protocol_steps.specs.declared.message.Message.{Message}
use Rattle.protocol_steps.specs.View.{View, ended_of}
use Rattle.protocol_steps.specs.Step.{start_of, step_of}
use Rattle.protocol_steps.specs.Run.{ascends_from, has_nothing}
use Rattle.protocol_steps.specs.Stamps.{Gain, post, letters_of}
use Rattle.protocol_steps.specs.Deeds.{takes_of, greatest_of, posted_to, gained_from}
use Rattle.protocol_steps.specs.Rounds.{link_share}
use Rattle.worker_laws.specs.Cells.{CellState, peers, lane, grown, known_from}

-- at most link_share messages are taken from the one sender
abbrev pub IsFew : Gain → Type 0
IsFew g = length g.envelopes ≤ link_share

-- what is taken comes from one of these peers
abbrev pub IsFrom : List ℕ → Gain → Type 0
IsFrom among g = Contains among g.from

-- a parcel goes to one of these peers
abbrev pub IsTo : List ℕ → ℕ × Message → Type 0
IsTo among p = Contains among p.0

-- a cell has started its agent, made with this view: its stamp is 0, its journal is empty, what the start sends is on its links with stamp 0, and nothing is taken
pub record IsStarted (made : View) (after : CellState) : Type 0 where
  pub viewed : after.view ≡ (start_of made).view
  pub stamped : after.stamp ≡ 0
  pub noted : after.journal ≡ []
  pub sent : (j : ℕ) → lane j after.sent ≡ posted_to j (post 0 (start_of made).sends)
  pub taken : (j : ℕ) → lane j after.taken ≡ []
  pub receivers : All (IsTo (peers after.taken)) (start_of made).sends

-- nothing has changed but what a cell knows of its links
pub record IsQuiet (before after : CellState) : Type 0 where
  pub me : after.me ≡ before.me
  pub viewed : after.view ≡ before.view
  pub stamped : after.stamp ≡ before.stamp
  pub noted : after.journal ≡ before.journal
  pub sent : after.sent ≡ before.sent
  pub taken : after.taken ≡ before.taken

-- a cell has taken these messages, and its agent, which had not ended, has made one step on them: the stamp is 1 plus the greatest of the cell's last stamp and those taken, the entry is in the journal, and each parcel is on its link with the stamp
pub record IsEvent (before : CellState) (gains : List Gain) (after : CellState) : Type 0 where
  pub live : ended_of before.view ≡ false
  pub some : has_nothing (takes_of gains) ≡ false
  pub ascend : ascends_from 0 (takes_of gains) ≡ true
  pub senders : All (IsFrom (peers before.taken)) gains
  pub receivers : All (IsTo (peers before.taken)) (step_of before.view (letters_of gains)).sends
  pub me : after.me ≡ before.me
  pub viewed : after.view ≡ (step_of before.view (letters_of gains)).view
  pub stamped : after.stamp ≡ max before.stamp (greatest_of gains) + 1
  pub noted : after.journal ≡ before.journal ++ record { stamp = after.stamp; takes = takes_of gains } ∷ []
  pub sent : after.sent ≡ grown (λ j. posted_to j (post after.stamp (step_of before.view (letters_of gains)).sends)) before.sent
  pub taken : after.taken ≡ grown (λ j. gained_from j gains) before.taken

-- a visit that took `count` messages: from each link at least those that the cell knew to be waiting there, and from each sender at most 64; if it took none, nothing changed but what the cell knows
pub record IsVisit (before : CellState) (count : ℕ) (after : CellState) : Type 0 where
  pub gains : List Gain
  pub counted : count ≡ sum_by (λ g. length g.envelopes) gains
  pub each : All IsFew gains
  pub few : count ≤ link_share * length before.taken
  pub served : (j : ℕ) → known_from j before.known ≤ length (gained_from j gains)
  pub idle : count ≡ 0 → IsQuiet before after
  pub event : 0 < count → IsEvent before gains after
