-- Agents that one thread has played, with the log of their run.
use Rattle.std.proofs.Common.{ℕ, Bool, List, Option, Some, None, IfSome}
use Rattle.std.specs.List.{flat_map}
use Rattle.protocol_steps.specs.declared.event.Event.{Event}
use Rattle.protocol_steps.specs.View.{View}
use Rattle.protocol_steps.specs.Network.{Network}
use Rattle.run_log.specs.declared.log.LogEvent.{LogEvent}
use Rattle.log_replay.specs.Notes.{IsLogOfRun}
use Rattle.delivery_turns.specs.PlayedOut.{HavePlayedOut}
use Rattle.delivery_turns.specs.declared.sprint.PlayedOut.{PlayedOut}
use Rattle.solve_methods.specs.Kept.{IsLogOf, HaveLogged}

-- the log of a run in rounds
log_in_rounds : (made : List View) (rounds : List (List Event)) (end : Network) (log : Option (List LogEvent)) → IfSome log (IsLogOfRun made (flat_map (λ es. es) rounds) end) → IfSome log (IsLogOf made rounds end)
log_in_rounds made rounds end None kept = tt
log_in_rounds made rounds end (Some log) kept = record { same = kept.same; stamped = kept.stamped }

pub logged_by : (budget : ℕ) (made : List View) (certified : Bool) (played : PlayedOut) → HavePlayedOut budget made certified played → HaveLogged budget made certified (record { outcome = played.outcome; log = played.log })
logged_by budget made certified played h = record { run = h.run; asked = h.asked; kept = log_in_rounds made h.run.rounds h.run.end played.log h.kept }
