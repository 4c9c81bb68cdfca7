-- The results of a start, a message or an activation of an ADOPT agent, and what it does not change.
use Rattle.std.specs.Prelude.{◌≡◌, ℕ, not, ◌&&◌, List, [], ◌∷◌, map, if◌then◌else◌}
use Rattle.dcop_base.specs.Table.{has}
use Rattle.protocol_steps.specs.declared.message.Message.{Message}
use Rattle.protocol_steps.specs.declared.message.Message.TheVariants.{Value, Cost}
use Rattle.protocol_steps.specs.Agent.{Stepped}
use Rattle.protocol_steps.specs.Adopt.{AdoptView}
use Rattle.protocol_steps.specs.AdoptBounds.{lower_bound, upper_bound}
use Rattle.protocol_steps.specs.AdoptRange.{is_parent}
use Rattle.protocol_steps.specs.AdoptStep.{messages_to_child}

-- the agent's view and the parcels are those of a step
pub record GivesAdoptStep (s : Stepped AdoptView) (view : AdoptView) (parcels : List (ℕ × Message)) : Type 0 where
  pub viewed : view ≡ s.view
  pub sent : parcels ≡ s.sends

-- the agent was made from the same parts, and its phase is the same
abbrev pub IsSameAgent : AdoptView → AdoptView → Type 0
IsSameAgent v w = (w.own ≡ v.own) × (w.place ≡ v.place) × (w.error ≡ v.error) × (w.phase ≡ v.phase)

-- these messages as parcels for one neighbour
abbrev pub all_to : ℕ → List Message → List (ℕ × Message)
all_to j ms = map (λ m. (j, m)) ms

-- the messages to a lower neighbour
abbrev pub to_lower : AdoptView → ℕ → List Message
to_lower v j = if has v.place.lower j then Value v.value ∷ [] else []

-- the messages to a child
abbrev pub to_child : AdoptView → ℕ → List Message
to_child v j = if has v.place.children j then messages_to_child v j else []

-- the messages to the parent
abbrev pub to_parent : AdoptView → ℕ → List Message
to_parent v j = if is_parent v j && not v.phase.ended then Cost v.known (lower_bound v) (upper_bound v) ∷ [] else []
