-- Parcels of an agent of one kind, as those of an agent.
use Rattle.std.proofs.Common.{◌≡◌, ℕ, List, sym, ap, subst, ◌∙◌}
use Rattle.std.specs.List.{All}
use Rattle.protocol_steps.specs.declared.message.Message.{Message}
use Rattle.protocol_steps.specs.View.{View}
use Rattle.protocol_steps.specs.Machine.{IsToNeighbour}
use Rattle.delivery_core.specs.declared.agent.Kind.{Kind}
use Rattle.delivery_core.specs.Kinds.{view_of}

pub toward : (v : View) (kind one : Kind) (sent out : List (ℕ × Message)) → view_of kind ≡ v → kind ≡ one → out ≡ sent → All (IsToNeighbour (view_of one)) sent → All (IsToNeighbour v) out
toward v kind one sent out viewed is same reach =
    subst (λ (ps : List (ℕ × Message)). All (IsToNeighbour v) ps) (sym same) (subst (λ (w : View). All (IsToNeighbour w) sent) (ap view_of (sym is) ∙ viewed) reach)
