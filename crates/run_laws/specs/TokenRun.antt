-- Runs of token agents, and the messages that were delivered in them.
use Rattle.std.specs.Prelude.{◌≡◌, ℕ, Bool, true, false, List, Some}
use Rattle.std.specs.List.{count_by}
use Rattle.dcop_base.specs.Problem.{Dcop}
use Rattle.protocol_steps.specs.declared.message.Message.{Message}
use Rattle.protocol_steps.specs.declared.message.Message.TheVariants.{Token, Done}
use Rattle.protocol_steps.specs.declared.event.Event.{Event}
use Rattle.protocol_steps.specs.TreeAgents.{token_agents}
use Rattle.protocol_steps.specs.Network.{Network, start_state}
use Rattle.protocol_steps.specs.Delivered.{delivered}
use Rattle.protocol_steps.specs.Run.{run}

-- a run of the token agents of a problem that ends in this network
abbrev pub IsTokenRun : Dcop → List Event → Network → Type 0
IsTokenRun p es end = run (start_state (token_agents p)) es ≡ Some end

-- whether a message is a TOKEN
abbrev pub is_token : Message → Bool
is_token (Token path) = true
is_token message = false

-- whether a message is a DONE
abbrev pub is_done : Message → Bool
is_done (Done visited) = true
is_done message = false

-- the number of TOKEN messages that were delivered
abbrev pub tokens : Network → ℕ
tokens net = count_by is_token (delivered net)

-- the number of DONE messages that were delivered
abbrev pub dones : Network → ℕ
dones net = count_by is_done (delivered net)
