-- Runs of DPOP agents on a tree, and the messages that were delivered in them.
use Rattle.std.specs.Prelude.{◌≡◌, ℕ, Bool, true, false, List, Some}
use Rattle.std.specs.List.{count_by}
use Rattle.dcop_base.specs.Problem.{Dcop}
use Rattle.protocol_steps.specs.declared.message.Message.{Message}
use Rattle.protocol_steps.specs.declared.message.Message.TheVariants.{Util, ValueAll}
use Rattle.protocol_steps.specs.declared.event.Event.{Event}
use Rattle.protocol_steps.specs.TreeAgents.{dpop_agents}
use Rattle.protocol_steps.specs.Network.{Network, start_state}
use Rattle.protocol_steps.specs.Delivered.{delivered}
use Rattle.protocol_steps.specs.Run.{run}

-- a run of the DPOP agents of a problem on a tree that ends in this network
abbrev pub IsDpopRun : Dcop → List (List ℕ) → List Event → Network → Type 0
IsDpopRun p paths es end = run (start_state (dpop_agents p paths)) es ≡ Some end

-- whether a message is a UTIL
abbrev pub is_util : Message → Bool
is_util (Util scope cells) = true
is_util message = false

-- whether a message is a VALUE of DPOP
abbrev pub is_value_all : Message → Bool
is_value_all (ValueAll values) = true
is_value_all message = false

-- the number of UTIL messages that were delivered
abbrev pub utils : Network → ℕ
utils net = count_by is_util (delivered net)

-- the number of VALUE messages that were delivered
abbrev pub values : Network → ℕ
values net = count_by is_value_all (delivered net)
