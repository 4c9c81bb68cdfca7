-- The view of an agent of any kind, which is the meaning of a machine.
use Rattle.std.specs.Prelude.{ℕ, Bool, Option, Some, None}
use Rattle.dcop_base.specs.Table.{CostTable}
use Rattle.dcop_base.specs.declared.knowledge.Private.{Private}
use Rattle.pseudotree.specs.declared.agent.Place.{Place}
use Rattle.adopt_context.specs.Context.{Context}
use Rattle.protocol_steps.specs.declared.standing.Standing.{Standing}
use Rattle.protocol_steps.specs.Agent.{Phase}
use Rattle.protocol_steps.specs.Token.{TokenView, token_place}
use Rattle.protocol_steps.specs.Dpop.{DpopView}
use Rattle.protocol_steps.specs.Adopt.{AdoptView}
use Rattle.protocol_steps.specs.AdoptBounds.{lower_bound, upper_bound}

-- the view of a token agent, of a DPOP agent or of an ADOPT agent
pub data View : Type 0 where
  TokenKind : TokenView → View
  DpopKind : DpopView → View
  AdoptKind : AdoptView → View

-- what an agent was made from: what it knows of the problem, its place, and the error
pub data Origin : Type 0 where
  OfToken : Private → Origin
  OfDpop : Private → Place → Origin
  OfAdopt : Private → Place → ℕ → Origin

-- what an agent was made from
abbrev pub made_of : View → Origin
made_of (TokenKind v) = OfToken v.own
made_of (DpopKind v) = OfDpop v.own v.place
made_of (AdoptKind v) = OfAdopt v.own v.place v.error

-- what an agent knows of the problem
abbrev pub private_of : View → Private
private_of (TokenKind v) = v.own
private_of (DpopKind v) = v.own
private_of (AdoptKind v) = v.own

-- whether an agent has started, has ended, and has failed
abbrev pub phase_of : View → Phase
phase_of (TokenKind v) = v.phase
phase_of (DpopKind v) = v.phase
phase_of (AdoptKind v) = v.phase

-- whether an agent has started
abbrev pub started_of : View → Bool
started_of v = (phase_of v).started

-- whether an agent has ended
abbrev pub ended_of : View → Bool
ended_of v = (phase_of v).ended

-- whether an agent has failed because memory ran out
abbrev pub failed_of : View → Bool
failed_of v = (phase_of v).failed

-- the value of an agent; 0 for a token agent
abbrev pub value_of : View → ℕ
value_of (TokenKind v) = 0
value_of (DpopKind v) = v.value
value_of (AdoptKind v) = v.value

-- the bounds and the threshold of an ADOPT agent; 0, none and 0 for other kinds
abbrev pub standing_of : View → Standing
standing_of (TokenKind v) = record { lower = 0; upper = None; threshold = 0 }
standing_of (DpopKind v) = record { lower = 0; upper = None; threshold = 0 }
standing_of (AdoptKind v) = record { lower = lower_bound v; upper = upper_bound v; threshold = v.threshold }

-- the UTIL table that a DPOP agent made, if it has made one
abbrev pub table_of : View → Option CostTable
table_of (TokenKind v) = None
table_of (DpopKind v) = v.made
table_of (AdoptKind v) = None

-- the place that a token agent found, if it has ended
abbrev pub place_of : View → Option Place
place_of (TokenKind v) = token_place v
place_of (DpopKind v) = None
place_of (AdoptKind v) = None

-- the context of an ADOPT agent: what it knows of the values of its path
abbrev pub context_of : View → Option Context
context_of (TokenKind v) = None
context_of (DpopKind v) = None
context_of (AdoptKind v) = Some v.known
