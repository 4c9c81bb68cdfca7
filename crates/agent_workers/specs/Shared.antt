-- Rounds whose parts workers play beside each other.
use Rattle.std.specs.Prelude.{◌≡◌, ℕ, zero, suc, ◌<◌, ◌≤◌, Bool, ◌==◌, List, [], ◌∷◌, ◌++◌, map, length}
use Rattle.std.specs.declared.dyn_box.DynBox.{DynBox}
use Rattle.std.specs.declared.alloc.Global.{Global}
use Rattle.protocol_steps.specs.View.{View}
use Rattle.worker_laws.specs.CellRounds.{AreCellRounds}
use Rattle.worker_laws.specs.OneNode.{home, IsSettling}
use Rattle.agent_cells.specs.declared.cell.Cell.{Cell}
use Rattle.agent_workers.specs.Joined.{states_of, EachBecomes}
use Rattle.agent_workers.specs.Settled.{StaysQuiet}
use Rattle.agent_workers.specs.Watched.{IsPlayedInTurns}
use Rattle.agent_workers.specs.Run.{HasStarted, AreDue}

module _ {X : Type 0} {F : X → Type 0} where
  -- the cells are cut into `more` parts and a last one; each has `size` cells, but the last may
  -- have fewer, and each was played in turns
  abbrev pub ArePartsPlayed : (DynBox X Global F → View) → Bool → ℕ → ℕ → List (Cell X F) → List (Cell X F) → Type 0
  ArePartsPlayed meaning alone size zero before after = (length before ≤ size) × IsPlayedInTurns meaning alone before after
  ArePartsPlayed meaning alone size (suc more) before after =
      (part others part_after others_after : List (Cell X F)) × (before ≡ part ++ others) × (after ≡ part_after ++ others_after)
      × (length part ≡ size) × (0 < length others) × IsPlayedInTurns meaning alone part part_after × ArePartsPlayed meaning alone size more others others_after

  -- the cells were played in parts of this size; a single part has all cells
  pub record ArePlayedInParts (meaning : DynBox X Global F → View) (size : ℕ) (before after : List (Cell X F)) : Type 0 where
    pub more : ℕ
    pub parts : ArePartsPlayed meaning (more == 0) size more before after

  -- a round of at most `workers` parts: every link inside a node is settled, and then each part is
  -- played in turns
  pub record IsSharedRound (meaning : DynBox X Global F → View) (workers : ℕ) (node : ℕ → ℕ) (before after : List (Cell X F)) : Type 0 where
    pub middle : List (Cell X F)
    pub quiet : EachBecomes (StaysQuiet meaning) before middle
    pub settling : IsSettling node (states_of meaning before) (states_of meaning middle)
    pub size : ℕ
    pub played : ArePlayedInParts meaning size middle after
    pub few : played.more < workers

  -- one such round after another in one node; the list has the cells after each round
  abbrev pub AreSharedRounds : (DynBox X Global F → View) → ℕ → List (Cell X F) → List (List (Cell X F)) → List (Cell X F) → Type 0
  AreSharedRounds meaning workers before [] last = last ≡ before
  AreSharedRounds meaning workers before (next ∷ rounds) last = IsSharedRound meaning workers (home 1 (length before)) before next × AreSharedRounds meaning workers next rounds last

  -- cells that had started were played in due rounds under a budget, each of at most `workers`
  -- parts
  pub record ArePlayedShared (meaning : DynBox X Global F → View) (workers budget : ℕ) (started now : List (Cell X F)) : Type 0 where
    pub rounds : List (List (Cell X F))
    pub shared : AreSharedRounds meaning workers started rounds now
    pub are : AreCellRounds budget (states_of meaning started) (map (states_of meaning) rounds) (states_of meaning now)
    pub due : AreDue (states_of meaning started) (map (states_of meaning) rounds)

  -- cells have started, were played in due rounds, each of at most `workers` parts, and their links
  -- were settled once more
  pub record HaveRunShared (meaning : DynBox X Global F → View) (workers budget : ℕ) (made last : List (Cell X F)) : Type 0 where
    pub started : List (Cell X F)
    pub played : List (Cell X F)
    pub starts : EachBecomes (HasStarted meaning) made started
    pub rounds : ArePlayedShared meaning workers budget started played
    pub quiet : EachBecomes (StaysQuiet meaning) played last
