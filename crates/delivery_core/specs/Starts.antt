-- How the agents of a core state start.
use Rattle.std.specs.Prelude.{◌≡◌, ℕ, ◌<◌, false, List, [], ◌++◌, map, take, drop, length, Option, Some, None, nat_lt, if◌then◌else◌, slice_get}
use Rattle.dcop_base.specs.Problem.{Dcop}
use Rattle.dcop_base.specs.Graph.{neighbours}
use Rattle.dcop_base.specs.declared.knowledge.Private.{Private}
use Rattle.dcop_base.specs.Knowledge.{private_of as known_by, acquaintance_of}
use Rattle.protocol_steps.specs.declared.message.Message.{Message}
use Rattle.protocol_steps.specs.Token.{new_token}
use Rattle.protocol_steps.specs.Dpop.{new_dpop}
use Rattle.protocol_steps.specs.Adopt.{new_adopt}
use Rattle.protocol_steps.specs.View.{View, TokenKind, DpopKind, AdoptKind, private_of, started_of}
use Rattle.protocol_steps.specs.TreeAgents.{place_at}
use Rattle.protocol_steps.specs.Step.{start_of}
use Rattle.protocol_steps.specs.Network.{messages_to}
use Rattle.letter_queues.specs.Links.{new_link, waiting_from, last_taken, letters_of}
use Rattle.letter_queues.specs.Inboxes.{senders}
use Rattle.delivery_core.specs.declared.start.Start.{Start}
use Rattle.delivery_core.specs.declared.start.Start.TheVariants.{Token, Dpop, Adopt}
use Rattle.delivery_core.specs.State.{SeatView, inbox_at, views_of}

-- what the agent of a variable knows when it is made: a token agent gets no tables
abbrev pub knowledge_for : Dcop → Start → ℕ → Private
knowledge_for p Token i = acquaintance_of p i
knowledge_for p (Dpop tree) i = known_by p i
knowledge_for p (Adopt tree error) i = known_by p i

-- the agent of a variable, as it is made
abbrev pub agent_of : Dcop → Start → ℕ → View
agent_of p Token i = TokenKind (new_token (acquaintance_of p i))
agent_of p (Dpop tree) i = DpopKind (new_dpop (known_by p i) (place_at p tree.paths i))
agent_of p (Adopt tree error) i = AdoptKind (new_adopt (known_by p i) (place_at p tree.paths i) error)

-- a new agent with a new link for each neighbour
abbrev pub new_seat : View → SeatView
new_seat v = record { view = v; inbox = map new_link (private_of v).neighbours }

abbrev pub sends_in : Option View → List (ℕ × Message)
sends_in None = []
sends_in (Some v) = (start_of v).sends

-- what agent j sends at its start
abbrev pub first_sends : List View → ℕ → List (ℕ × Message)
first_sends made j = sends_in (slice_get made j)

-- the view of an agent of this problem that has not started: its neighbours are those of variable i
pub record IsFreshAgent (p : Dcop) (i : ℕ) (v : View) : Type 0 where
  pub near : (private_of v).neighbours ≡ neighbours p i
  pub fresh : started_of v ≡ false

-- the first k of these agents have started: what they sent at their start waits on its links, and
-- nothing was taken
pub record Begun (p : Dcop) (made : List View) (k : ℕ) (seats : List SeatView) : Type 0 where
  pub size : length seats ≡ length made
  pub count : length made ≡ length p.sizes
  pub new : (i : ℕ) (v : View) → slice_get made i ≡ Some v → IsFreshAgent p i v
  pub views : views_of seats ≡ map (λ v. (start_of v).view) (take k made) ++ drop k made
  pub links : (i : ℕ) → i < length seats → senders (inbox_at seats i) ≡ neighbours p i
  pub waits : (i j : ℕ) → i < length seats → waiting_from (inbox_at seats i) j ≡ letters_of j (if nat_lt j k then messages_to i (first_sends made j) else [])
  pub last : (i j : ℕ) → i < length seats → last_taken (inbox_at seats i) j ≡ None

-- if the first k agents have started in the first list, the first `next` agents have started in the
-- second
abbrev pub Starts : ℕ → List SeatView → ℕ → List SeatView → Type 0
Starts k old next new = (p : Dcop) (made : List View) → Begun p made k old → Begun p made next new
