-- Rounds in nodes whose parts workers play beside each other.
use Rattle.std.specs.Prelude.{◌≡◌, ℕ, List, [], ◌∷◌, map, length, Option, Some, None}
use Rattle.std.specs.declared.dyn_box.DynBox.{DynBox}
use Rattle.std.specs.declared.alloc.Global.{Global}
use Rattle.protocol_steps.specs.declared.run_end.RunEnd.{RunEnd}
use Rattle.protocol_steps.specs.View.{View}
use Rattle.worker_laws.specs.OneNode.{home}
use Rattle.agent_cells.specs.declared.cell.Cell.{Cell}
use Rattle.agent_workers.specs.Joined.{states_of, EachBecomes}
use Rattle.agent_workers.specs.Settled.{StaysQuiet}
use Rattle.agent_workers.specs.Run.{HasStarted, AreDue}
use Rattle.agent_workers.specs.Shared.{IsSharedRound}

-- what holds of playing that was not broken off
abbrev pub IfEnded : Option RunEnd → Type 0 → Type 0
IfEnded (Some answer) P = P
IfEnded None P = Unit {0}

module _ {X : Type 0} {F : X → Type 0} where
  -- first nothing of the cells has changed but what they know, as in an exchange between the nodes;
  -- then came a round of at most `workers` parts
  pub record IsSharedOver (meaning : DynBox X Global F → View) (workers nodes : ℕ) (before after : List (Cell X F)) : Type 0 where
    pub ready : List (Cell X F)
    pub quiet : EachBecomes (StaysQuiet meaning) before ready
    pub round : IsSharedRound meaning workers (home nodes (length ready)) ready after

  -- one such round after another; the list has the cells after each round
  abbrev pub AreSharedOver : (DynBox X Global F → View) → ℕ → ℕ → List (Cell X F) → List (List (Cell X F)) → List (Cell X F) → Type 0
  AreSharedOver meaning workers nodes before [] last = last ≡ before
  AreSharedOver meaning workers nodes before (next ∷ rounds) last = IsSharedOver meaning workers nodes before next × AreSharedOver meaning workers nodes next rounds last

  -- cells that had started were played in due rounds in nodes, each of at most `workers` parts
  pub record ArePlayedSharedOver (meaning : DynBox X Global F → View) (workers nodes : ℕ) (started now : List (Cell X F)) : Type 0 where
    pub rounds : List (List (Cell X F))
    pub shared : AreSharedOver meaning workers nodes started rounds now
    pub due : AreDue (states_of meaning started) (map (states_of meaning) rounds)

  -- cells have started and were played in due rounds in nodes, each of at most `workers` parts; then
  -- nothing of them has changed but what they know, as in an exchange and a settling
  pub record HaveRunSharedOver (meaning : DynBox X Global F → View) (workers nodes : ℕ) (made last : List (Cell X F)) : Type 0 where
    pub started : List (Cell X F)
    pub played : List (Cell X F)
    pub starts : EachBecomes (HasStarted meaning) made started
    pub rounds : ArePlayedSharedOver meaning workers nodes started played
    pub quiet : EachBecomes (StaysQuiet meaning) played last
