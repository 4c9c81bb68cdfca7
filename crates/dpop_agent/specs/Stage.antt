-- What the stage of a DPOP agent says about its phase.
use Rattle.std.specs.Prelude.{ℕ, true, false, List, Option}
use Rattle.dcop_base.specs.Table.{CostTable}
use Rattle.dcop_base.specs.declared.knowledge.Private.{Private}
use Rattle.pseudotree.specs.declared.agent.Place.{Place}
use Rattle.protocol_steps.specs.Agent.{Phase, not_started}
use Rattle.protocol_steps.specs.Dpop.{DpopView}
use Rattle.dpop_agent.specs.declared.stage.Stage.{Stage}
use Rattle.dpop_agent.specs.declared.stage.Stage.TheVariants.{Waiting, Working, Ended, Failed}

-- an agent that has started, and neither ended nor failed
abbrev pub working : Phase
working = record { started = true; ended = false; failed = false }

-- the phase of an agent at a stage
abbrev pub phase_at : Stage → Phase
phase_at Waiting = not_started
phase_at Working = working
phase_at Ended = record { started = true; ended = true; failed = false }
phase_at Failed = record { started = true; ended = false; failed = true }

-- the view of an agent at a stage
abbrev pub view_at : Private → Place → Stage → List (Option CostTable) → Option CostTable → ℕ → DpopView
view_at own place stage kept made value = record { own = own; place = place; phase = phase_at stage; kept = kept; made = made; value = value }
