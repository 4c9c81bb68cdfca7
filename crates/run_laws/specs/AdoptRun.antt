-- Runs of ADOPT agents on a tree.
use Rattle.std.specs.Prelude.{◌≡◌, ℕ, List, Some}
use Rattle.dcop_base.specs.Problem.{Dcop}
use Rattle.protocol_steps.specs.declared.event.Event.{Event}
use Rattle.protocol_steps.specs.TreeAgents.{adopt_agents}
use Rattle.protocol_steps.specs.Network.{Network, start_state}
use Rattle.protocol_steps.specs.Run.{run}

-- a run of the ADOPT agents of a problem on a tree, for a requested error, that ends in this network
abbrev pub IsAdoptRun : Dcop → List (List ℕ) → ℕ → List Event → Network → Type 0
IsAdoptRun p paths error es end = run (start_state (adopt_agents p paths error)) es ≡ Some end
