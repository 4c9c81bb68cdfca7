-- The start and one activation of an agent, of any kind.
use Rattle.std.specs.Prelude.{ℕ, List}
use Rattle.protocol_steps.specs.declared.message.Message.{Message}
use Rattle.protocol_steps.specs.Agent.{Stepped}
use Rattle.protocol_steps.specs.TokenStep.{token_start, token_step}
use Rattle.protocol_steps.specs.DpopStep.{dpop_start, dpop_step}
use Rattle.protocol_steps.specs.AdoptStep.{adopt_start, adopt_step}
use Rattle.protocol_steps.specs.View.{View, TokenKind, DpopKind, AdoptKind}

module _ {V : Type 0} where
  -- the result of one kind of agent as that of an agent of any kind
  abbrev pub as_kind : (V → View) → Stepped V → Stepped View
  as_kind kind s = record { view = kind s.view; sends = s.sends }

-- the start of an agent
unfoldable pub start_of : View → Stepped View
start_of (TokenKind v) = as_kind TokenKind (token_start v)
start_of (DpopKind v) = as_kind DpopKind (dpop_start v)
start_of (AdoptKind v) = as_kind AdoptKind (adopt_start v)

-- one activation of an agent on a batch
unfoldable pub step_of : View → List (ℕ × Message) → Stepped View
step_of (TokenKind v) ls = as_kind TokenKind (token_step v ls)
step_of (DpopKind v) ls = as_kind DpopKind (dpop_step v ls)
step_of (AdoptKind v) ls = as_kind AdoptKind (adopt_step v ls)
