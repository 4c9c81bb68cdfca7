-- What playing agents out gives: the outcome of their run, and its log if one is requested.
use Rattle.std.specs.Prelude.{◌≡◌, ◌≤◌, ℕ, Bool, List, length, IfSome, is_some}
use Rattle.std.specs.List.{flat_map}
use Rattle.protocol_steps.specs.declared.event.Event.{Event}
use Rattle.protocol_steps.specs.declared.outcome.Outcome.{Outcome}
use Rattle.protocol_steps.specs.View.{View}
use Rattle.protocol_steps.specs.Network.{start_state}
use Rattle.protocol_steps.specs.Outcomes.{HaveRun}
use Rattle.log_replay.specs.Notes.{IsLogOfRun}
use Rattle.delivery_turns.specs.Turns.{AreEventfulRounds}
use Rattle.delivery_turns.specs.declared.sprint.PlayedOut.{PlayedOut}

-- rounds of agents with these start views are at most `budget`; each began while some agent had not
-- ended, has an event, and has the events of up to 32 turns of all agents
pub record AreDueRounds (budget : ℕ) (made : List View) (rounds : List (List Event)) : Type 0 where
  pub busy : AreEventfulRounds (start_state made) rounds
  pub few : length rounds ≤ budget

-- agents with these start views have run in such rounds. Playing went on as long as some agent had not
-- ended, the deliveries were below the budget, and something was pending
pub record HaveDulyRun (budget : ℕ) (made : List View) (outcome : Outcome) : Type 0 where
  pub run : HaveRun budget made outcome
  pub due : AreDueRounds budget made run.rounds

-- agents with these start views have run under a budget to the network that the outcome describes;
-- there is a log exactly when one is requested, and it is the log of exactly that run
pub record HavePlayedOut (budget : ℕ) (made : List View) (certified : Bool) (played : PlayedOut) : Type 0 where
  pub run : HaveRun budget made played.outcome
  pub due : AreDueRounds budget made run.rounds
  pub asked : is_some played.log ≡ certified
  pub kept : IfSome played.log (IsLogOfRun made (flat_map (λ es. es) run.rounds) run.end)

-- two runs of agents with the same start views under the same budget have the same rounds and the
-- same outcome, whether or not a log is requested of the one or of the other
abbrev pub RunsGoOneWay : Type 0
RunsGoOneWay =
    (budget : ℕ) (made : List View) (some other : Bool) (a b : PlayedOut) → (x : HavePlayedOut budget made some a) → (y : HavePlayedOut budget made other b)
    → (x.run.rounds ≡ y.run.rounds) × (a.outcome ≡ b.outcome)
