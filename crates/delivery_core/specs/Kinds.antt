-- The view of an agent of any kind.
use Rattle.protocol_steps.specs.View.{View, TokenKind, DpopKind, AdoptKind}
use Rattle.delivery_core.specs.declared.agent.Kind.{Kind}
use Rattle.delivery_core.specs.declared.agent.Kind.TheVariants.{Token, Dpop, Adopt}

-- the view of an agent of this kind
abbrev pub view_of : Kind → View
view_of (Token a) = TokenKind a
view_of (Dpop a) = DpopKind a
view_of (Adopt a) = AdoptKind a.value
