-- The results of one look, one message and one batch.
use Rattle.std.specs.Prelude.{◌≡◌, ℕ, true, false, List, [], ◌∷◌, Option, Some, None}
use Rattle.protocol_steps.specs.declared.message.Message.{Message}
use Rattle.protocol_steps.specs.Agent.{Stepped, not_started}
use Rattle.protocol_steps.specs.Token.{TokenView}

-- an optional parcel as a list
abbrev pub sent : Option (ℕ × Message) → List (ℕ × Message)
sent None = []
sent (Some parcel) = parcel ∷ []

-- the agent's view and its parcel, if any, are those of a step
pub record Gives (s : Stepped TokenView) (view : TokenView) (parcel : Option (ℕ × Message)) : Type 0 where
  pub viewed : view ≡ s.view
  pub sent : sent parcel ≡ s.sends

-- an agent that has started and has not failed
pub record IsRunning (v : TokenView) : Type 0 where
  pub started : v.phase.started ≡ true
  pub well : v.phase.failed ≡ false

-- an agent that has not started
pub record IsNew (v : TokenView) : Type 0 where
  pub phase : v.phase ≡ not_started
  pub opened : v.opened ≡ false
