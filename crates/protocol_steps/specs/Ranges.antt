-- The ranges of the numbers in messages.
use Rattle.std.specs.Prelude.{ℕ, ◌<◌, ◌≤◌, List, length, Option, Some, None}
use Rattle.std.specs.List.{All}
use Rattle.dcop_base.specs.Limits.{amount_limit, variable_limit, size_limit, joined_limit}
use Rattle.adopt_context.specs.Context.{Context}
use Rattle.protocol_steps.specs.declared.message.Message.{Message}
use Rattle.protocol_steps.specs.declared.message.Message.TheVariants.{Token, Done, Util, ValueAll, Value, Cost, Threshold, Terminate}

-- a list of at most variable_limit variables, each below variable_limit
pub record AreVariables (vs : List ℕ) : Type 0 where
  pub few : length vs ≤ variable_limit
  pub below : All (λ v. v < variable_limit) vs

-- a list of at most joined_limit amounts, each at most amount_limit
pub record AreCells (cells : List ℕ) : Type 0 where
  pub few : length cells ≤ joined_limit
  pub below : All (λ c. c ≤ amount_limit) cells

-- each variable is below variable_limit and each value below size_limit; the variables of an `AgentContext` ascend, so there are at most variable_limit of them
abbrev pub IsContext : Context → Type 0
IsContext c = All (λ p. (p.0 < variable_limit) × (p.1 < size_limit)) c

-- an amount of at most amount_limit, or none
abbrev pub IsBound : Option ℕ → Type 0
IsBound None = Unit {0}
IsBound (Some u) = u ≤ amount_limit

-- a message whose variables, values, lists, contexts and amounts are within their ranges
abbrev pub IsInRange : Message → Type 0
IsInRange (Token path) = AreVariables path
IsInRange (Done visited) = AreVariables visited
IsInRange (Util scope cells) = AreVariables scope × AreCells cells
IsInRange (ValueAll values) = IsContext values
IsInRange (Value value) = value < size_limit
IsInRange (Cost context lower upper) = IsContext context × (lower ≤ amount_limit) × IsBound upper
IsInRange (Threshold amount context) = (amount ≤ amount_limit) × IsContext context
IsInRange (Terminate context) = IsContext context
