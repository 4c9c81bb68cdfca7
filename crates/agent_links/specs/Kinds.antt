-- The view of an agent of any kind.
use Rattle.protocol_steps.specs.View.{View, TokenKind, DpopKind, AdoptKind}
use Rattle.agent_links.specs.declared.agent.Agent.{Agent}
use Rattle.agent_links.specs.declared.agent.Kind.{Kind}
use Rattle.agent_links.specs.declared.agent.Kind.TheVariants.{Token, Dpop, Adopt}

-- the view of an agent of this kind
abbrev pub kind_view : Kind → View
kind_view (Token a) = TokenKind a
kind_view (Dpop a) = DpopKind a
kind_view (Adopt a) = AdoptKind a

-- the view of an agent
abbrev pub view_of : Agent → View
view_of agent = kind_view agent.kind
