-- What the stage of a search says about a token agent.
use Rattle.std.specs.Prelude.{ℕ, Bool, true, false, List, [], Option, Some, None}
use Rattle.dcop_base.specs.declared.knowledge.Private.{Private}
use Rattle.pseudotree.specs.declared.agent.Place.{Place}
use Rattle.protocol_steps.specs.Agent.{Phase, not_started}
use Rattle.protocol_steps.specs.Token.{TokenView}
use Rattle.dfs_agent.specs.declared.stage.Stage.{Stage}
use Rattle.dfs_agent.specs.declared.stage.Stage.TheVariants.{Waiting, Closed, Open, Ended, Failed}

-- an agent that has started, and neither ended nor failed
abbrev pub searching : Phase
searching = record { started = true; ended = false; failed = false }

-- the phase of an agent at a stage
abbrev pub phase_at : Stage → Phase
phase_at Waiting = not_started
phase_at Closed = searching
phase_at (Open child) = searching
phase_at (Ended place) = record { started = true; ended = true; failed = false }
phase_at Failed = record { started = true; ended = false; failed = true }

-- whether the agent has opened with a token's path
abbrev pub opened_at : Stage → Bool
opened_at Waiting = false
opened_at Closed = false
opened_at (Open child) = true
opened_at (Ended place) = true
opened_at Failed = false

-- the child that the agent waits for, if any
abbrev pub awaited_at : Stage → Option ℕ
awaited_at Waiting = None
awaited_at Closed = None
awaited_at (Open child) = Some child
awaited_at (Ended place) = None
awaited_at Failed = None

-- the place that was found, if the agent has ended
abbrev pub place_at : Stage → Option Place
place_at Waiting = None
place_at Closed = None
place_at (Open child) = None
place_at (Ended place) = Some place
place_at Failed = None

-- the path of an agent at a stage: its place's path if it has ended, and the empty path if it has failed
abbrev pub path_at : Stage → List ℕ → List ℕ
path_at Waiting path = path
path_at Closed path = path
path_at (Open child) path = path
path_at (Ended place) path = place.path
path_at Failed path = []

-- the view of an agent at a stage, with this path and with these subtrees that came back
abbrev pub view_at : Private → Stage → List ℕ → List (List ℕ) → TokenView
view_at own stage path kept = record {
  own = own;
  phase = phase_at stage;
  opened = opened_at stage;
  path = path;
  kept = kept;
  awaited = awaited_at stage;
}
