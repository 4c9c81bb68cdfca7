-- One event of a replayed log.
use Rattle.std.specs.Prelude.{◌≡◌, ℕ, ◌+◌, List, take, drop, Option, Some, None, Result, Ok, Err}
use Rattle.std.specs.Option.{option_map}
use Rattle.dcop_base.specs.Problem.{Dcop}
use Rattle.protocol_steps.specs.Network.{Network}
use Rattle.protocol_steps.specs.Run.{run}
use Rattle.run_log.specs.declared.log.LogEvent.{LogEvent}
use Rattle.run_log.specs.Logs.{event_of, events_of}
use Rattle.run_log.specs.LogStamps.{LinkStamps, stamp_difference}
use Rattle.delivery_core.specs.State.{CoreView}
use Rattle.delivery_core.specs.Shown.{IsCore, Advances, Refuses}
use Rattle.log_replay.specs.declared.fault.LogFault.{LogFault}
use Rattle.log_replay.specs.declared.fault.LogFault.TheVariants.{BadEvent, BadStamp, NoMemory}
use Rattle.log_replay.specs.declared.fault.WrongStamp.{WrongStamp}
use Rattle.log_replay.specs.declared.wrong.Moment.{Moment}
use Rattle.log_replay.specs.Queues.{StampsView, stamp_by, stamps_taken, stamps_sent}
use Rattle.log_replay.specs.Following.{AreStamps}
use Rattle.log_replay.specs.Wrong.{difference_of, moment_of, stamp_fault}
use Rattle.log_replay.specs.Replays.{first_wrong}

-- the event with this number leads from one core state to another, or is refused
abbrev pub Plays : {A : Type 0} → CoreView → ℕ → LogEvent → CoreView → Result A LogFault → Type 0
Plays old number e new (Ok x) = Advances old (event_of e) new
Plays old number e new (Err (BadEvent at fault)) = (at ≡ number) × Refuses old (event_of e) fault
Plays old number e new (Err (BadStamp wrong)) = ⊥
Plays old number e new (Err NoMemory) = Unit {0}

-- the stamp of the event that has led to this core state is checked; if nothing is wrong with it,
-- the stamps become those after the event
abbrev pub Follows : CoreView → ℕ → Option Moment → LogEvent → StampsView → StampsView → Option WrongStamp → Type 0
Follows core number before e old new found =
    (found ≡ stamp_fault number (stamp_by old e.agent e.takes) before e)
    × (found ≡ None → new ≡ stamps_sent core e.agent e.stamp (stamps_taken e.agent e.takes old))

-- the stamps of the first k events of a log are right, and these are the stamps in the network that
-- the run has reached; or this is the first wrong stamp of the log
abbrev pub Stamped : Dcop → Network → List LogEvent → ℕ → Network → StampsView → Option Moment → Option WrongStamp → Type 0
Stamped p first log k net stamps before None =
    (s : LinkStamps) × (prior : Option LogEvent) × AreStamps p net s stamps × (before ≡ option_map moment_of prior)
    × (first_wrong first log ≡ stamp_difference (k + 1) (Some net) s prior (drop k log))
Stamped p first log k net stamps before (Some wrong) = first_wrong first log ≡ Some (difference_of wrong)

-- the first k events of a log are a run that has reached this core state
pub record Replayed (p : Dcop) (first : Network) (log : List LogEvent) (k : ℕ) (core : CoreView) (stamps : StampsView) (before : Option Moment) (found : Option WrongStamp) : Type 0 where
  pub net : Network
  pub ran : run first (take k (events_of log)) ≡ Some net
  pub core_is : IsCore p net core
  pub stamped : Stamped p first log k net stamps before found
