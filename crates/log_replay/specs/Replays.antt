-- Replaying a log: the end of a run with right stamps, or the first event that is not lawful, or
-- otherwise the first stamp that is wrong.
use Rattle.std.specs.Prelude.{◌≡◌, ℕ, ◌+◌, List, Option, Some, None, Result, Ok, Err}
use Rattle.protocol_steps.specs.Network.{Network}
use Rattle.protocol_steps.specs.Run.{run}
use Rattle.run_log.specs.declared.log.LogEvent.{LogEvent}
use Rattle.run_log.specs.Logs.{events_of}
use Rattle.run_log.specs.LogStamps.{StampDifference, start_stamps, stamp_difference}
use Rattle.delivery_core.specs.State.{CoreView}
use Rattle.delivery_core.specs.NetworkState.{IsStateOf}
use Rattle.delivery_core.specs.Faults.{FirstFault}
use Rattle.log_replay.specs.declared.fault.LogFault.{LogFault}
use Rattle.log_replay.specs.declared.fault.LogFault.TheVariants.{BadEvent, BadStamp, NoMemory}
use Rattle.log_replay.specs.Wrong.{difference_of}

-- the first stamp of a log that is wrong, in a run from this network
abbrev pub first_wrong : Network → List LogEvent → Option StampDifference
first_wrong net log = stamp_difference 1 (Some net) (start_stamps net) None log

-- the result of replaying a log: it is a run with right stamps, at whose end the network has this
-- core state; or the event with this number, counted from 1, is the first that is not lawful; or
-- the log is a run, and this is its first wrong stamp
abbrev pub ReplaysLog : Network → List LogEvent → Result CoreView LogFault → Type 0
ReplaysLog net log (Ok s) = (end : Network) × (run net (events_of log) ≡ Some end) × (first_wrong net log ≡ None) × IsStateOf end s
ReplaysLog net log (Err (BadEvent at fault)) = (place : ℕ) × (at ≡ place + 1) × FirstFault net (events_of log) place fault
ReplaysLog net log (Err (BadStamp wrong)) = (end : Network) × (run net (events_of log) ≡ Some end) × (first_wrong net log ≡ Some (difference_of wrong))
ReplaysLog net log (Err NoMemory) = Unit {0}
