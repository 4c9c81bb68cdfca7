-- A run of agents, with the log that was kept of it.
use Rattle.std.specs.Prelude.{◌≡◌, ℕ, Bool, List, IfSome, is_some}
use Rattle.std.specs.List.{flat_map}
use Rattle.protocol_steps.specs.declared.event.Event.{Event}
use Rattle.protocol_steps.specs.View.{View}
use Rattle.protocol_steps.specs.Network.{Network}
use Rattle.protocol_steps.specs.Run.{SameJournals}
use Rattle.protocol_steps.specs.Outcomes.{HaveRun}
use Rattle.run_log.specs.declared.log.LogEvent.{LogEvent}
use Rattle.run_log.specs.Logs.{events_of}
use Rattle.run_log.specs.Laws.{IsStampedRun}
use Rattle.solve_methods.specs.declared.adopt.Logged.{Logged}

-- the log of the run that agents with these start views made in these rounds and that ends in this
-- network: each agent has the same events in the log, in the same order, and the log is a run to
-- that network with right stamps
pub record IsLogOf (made : List View) (rounds : List (List Event)) (end : Network) (log : List LogEvent) : Type 0 where
  pub same : SameJournals (events_of log) (flat_map (λ es. es) rounds)
  pub stamped : IsStampedRun made log end

-- agents with these start views have run under a budget to the network that the outcome describes;
-- a log was kept exactly when one is requested, and it is the log of exactly that run
pub record HaveLogged (budget : ℕ) (made : List View) (certified : Bool) (ran : Logged) : Type 0 where
  pub run : HaveRun budget made ran.outcome
  pub asked : is_some ran.log ≡ certified
  pub kept : IfSome ran.log (IsLogOf made run.rounds run.end)
