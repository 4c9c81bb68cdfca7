-- The parcels of an agent of one kind, as those of an agent of any kind.
use Rattle.std.proofs.Common.{◌≡◌, ℕ, List, sym, subst}
use Rattle.std.specs.List.{All}
use Rattle.protocol_steps.specs.declared.message.Message.{Message}
use Rattle.protocol_steps.specs.Machine.{IsToNeighbour}
use Rattle.agent_links.specs.declared.agent.Kind.{Kind}
use Rattle.agent_links.specs.Kinds.{kind_view}

pub sent_by : (kind one : Kind) (sent : List (ℕ × Message)) → kind ≡ one → All (IsToNeighbour (kind_view one)) sent → All (IsToNeighbour (kind_view kind)) sent
sent_by kind one sent is reach = subst (λ (k : Kind). All (IsToNeighbour (kind_view k)) sent) (sym is) reach
