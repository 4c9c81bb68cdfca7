-- The results of a start, a message or an activation of a DPOP agent.
use Rattle.std.specs.Prelude.{◌≡◌, ℕ, true, false, List, [], ◌∷◌, ◌++◌, map, Option, Some, None}
use Rattle.protocol_steps.specs.declared.message.Message.{Message}
use Rattle.protocol_steps.specs.Agent.{Stepped}
use Rattle.dcop_base.specs.Table.{CostTable, IsTableOfParts}
use Rattle.protocol_steps.specs.declared.message.Message.TheVariants.{Util}
use Rattle.protocol_steps.specs.Dpop.{DpopView, size_of}
use Rattle.protocol_steps.specs.DpopStep.{takes_util}

-- the agent's view is that of a step, and the step's parcels come after those that were there before
pub record GivesDpopStep (s : Stepped DpopView) (view : DpopView) (before parcels : List (ℕ × Message)) : Type 0 where
  pub viewed : view ≡ s.view
  pub sent : parcels ≡ before ++ s.sends

-- an agent that has started and has not failed
pub record IsRunning (v : DpopView) : Type 0 where
  pub started : v.phase.started ≡ true
  pub well : v.phase.failed ≡ false

-- UTIL for the parent, if there is one
abbrev pub parcels_up : Option ℕ → CostTable → List (ℕ × Message)
parcels_up None t = []
parcels_up (Some parent) t = (parent, Util t.scope t.cells) ∷ []

-- the child's table exactly if it is taken, with the sizes that the agent knows
abbrev pub IsTableTaken : DpopView → ℕ → List ℕ → List ℕ → Option CostTable → Type 0
IsTableTaken v k scope cells None = takes_util v k scope cells ≡ false
IsTableTaken v k scope cells (Some t) = (takes_util v k scope cells ≡ true) × IsTableOfParts scope (map (size_of v) scope) cells t
