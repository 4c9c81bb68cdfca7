-- What the stage of an ADOPT agent says about its phase.
use Rattle.std.specs.Prelude.{ℕ, Bool, true, false, List}
use Rattle.dcop_base.specs.declared.knowledge.Private.{Private}
use Rattle.pseudotree.specs.declared.agent.Place.{Place}
use Rattle.adopt_context.specs.Context.{Context}
use Rattle.adopt_context.specs.Bounds.{Entry}
use Rattle.protocol_steps.specs.Agent.{Phase, not_started}
use Rattle.protocol_steps.specs.Adopt.{AdoptView, new_adopt}
use Rattle.adopt_agent.specs.declared.stage.Stage.{Stage}
use Rattle.adopt_agent.specs.declared.stage.Stage.TheVariants.{Waiting, Working, Ended, Failed}

-- an agent that has started, and neither ended nor failed
abbrev pub working : Phase
working = record { started = true; ended = false; failed = false }

-- the phase of an agent at a stage
abbrev pub phase_at : Stage → Phase
phase_at Waiting = not_started
phase_at Working = working
phase_at Ended = record { started = true; ended = true; failed = false }
phase_at Failed = record { started = true; ended = false; failed = true }

-- the view of an agent at a stage
abbrev pub view_at : Private → Place → ℕ → Stage → Context → ℕ → ℕ → ℕ → Bool → List (List Entry) → AdoptView
view_at own place error stage known value threshold last told rows = record {
  own = own;
  place = place;
  error = error;
  phase = phase_at stage;
  known = known;
  value = value;
  threshold = threshold;
  last = last;
  told = told;
  rows = rows;
}

-- an agent for which only what it was made from and what it knows matter
abbrev pub knowing : Private → Place → Context → AdoptView
knowing own place known = record (new_adopt own place 0) { known = known }
