-- Several activations of a cell, one after another.
use Rattle.std.specs.Prelude.{◌≡◌, ℕ, ◌+◌, true, false, List, [], ◌∷◌, ◌++◌, map, max}
use Rattle.std.specs.List.{All, fold}
use Rattle.protocol_steps.specs.declared.event.Entry.{Entry}
use Rattle.protocol_steps.specs.View.{ended_of}
use Rattle.protocol_steps.specs.Step.{step_of}
use Rattle.protocol_steps.specs.Run.{ascends_from, has_nothing}
use Rattle.protocol_steps.specs.Stamps.{Deed, Account, letters_of, do_one}
use Rattle.protocol_steps.specs.Deeds.{takes_of, greatest_of, posted_to, gained_from}
use Rattle.worker_laws.specs.Cells.{CellState, peers, grown}
use Rattle.worker_laws.specs.Visits.{IsFrom, IsTo}

-- an activation of agent `me` that may follow its account: the agent has not ended, takes at least
-- one message from each of some peers, in ascending order of the peers, and sends only to peers;
-- its stamp is right
pub record IsAct (me : ℕ) (among : List ℕ) (x : Account) (d : Deed) : Type 0 where
  pub own : d.agent ≡ me
  pub live : ended_of x.view ≡ false
  pub some : has_nothing (takes_of d.gains) ≡ false
  pub ascend : ascends_from 0 (takes_of d.gains) ≡ true
  pub senders : All (IsFrom among) d.gains
  pub receivers : All (IsTo among) (step_of x.view (letters_of d.gains)).sends
  pub right : d.stamp ≡ max x.stamp (greatest_of d.gains) + 1

-- the same for several activations, one after another
abbrev pub AreActs : ℕ → List ℕ → Account → List Deed → Type 0
AreActs me among x [] = Unit {0}
AreActs me among x (d ∷ ds) = IsAct me among x d × AreActs me among (do_one x d) ds

-- an account with the cell's view and stamp at this moment, in which nothing was sent or taken
abbrev pub moment : CellState → Account
moment c = record { view = c.view; stamp = c.stamp; posted = []; gains = [] }

-- what a cell sends and takes in these activations, with its view and stamp after them
abbrev pub moved : CellState → List Deed → Account
moved c ds = fold do_one (moment c) ds

-- the entry of an activation
abbrev pub entry_of : Deed → Entry
entry_of d = record { stamp = d.stamp; takes = takes_of d.gains }

-- the entries of these activations
abbrev pub journal_of : List Deed → List Entry
journal_of ds = map entry_of ds

-- a cell after these activations and nothing else
pub record IsLater (before : CellState) (deeds : List Deed) (after : CellState) : Type 0 where
  pub acts : AreActs before.me (peers before.taken) (moment before) deeds
  pub me : after.me ≡ before.me
  pub viewed : after.view ≡ (moved before deeds).view
  pub stamped : after.stamp ≡ (moved before deeds).stamp
  pub noted : after.journal ≡ before.journal ++ journal_of deeds
  pub sent : after.sent ≡ grown (λ j. posted_to j (moved before deeds).posted) before.sent
  pub taken : after.taken ≡ grown (λ j. gained_from j (moved before deeds).gains) before.taken
