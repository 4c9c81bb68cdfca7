-- What one exchange passes on each link.
use Rattle.std.specs.Prelude.{◌≡◌, ◌≢◌, ℕ, ◌<◌, ◌⊎◌, Bool, List, [], ◌++◌, map, take, ◌==◌, ◌&&◌, if◌then◌else◌, Option, Some, slice_get}
use Rattle.std.specs.List.{flat_map, All}
use Rattle.protocol_steps.specs.declared.message.Message.{Message}
use Rattle.wire_frames.specs.Frame.{framed}
use Rattle.node_exchange.specs.declared.payload.Addressed.{Addressed}
use Rattle.node_exchange.specs.Payloads.{payload_code}
use Rattle.node_exchange.specs.Letters.{letter, stream_of, IsLetter, carried}

-- a link: the agents and the nodes at its ends, what the exchange drained of it, and what has
-- arrived on it so far
pub record Passing : Type 0 where
  pub from : ℕ
  pub to : ℕ
  pub from_node : ℕ
  pub to_node : ℕ
  pub drained : List (ℕ × Message)
  pub arrived : List (ℕ × Message)

-- the link with what was drained replaced
abbrev pub holding : Passing → List (ℕ × Message) → Passing
holding p drained = record { from = p.from; to = p.to; from_node = p.from_node; to_node = p.to_node; drained = drained; arrived = p.arrived }

-- the link with both lists empty
abbrev pub emptied : Passing → Passing
emptied p = record { from = p.from; to = p.to; from_node = p.from_node; to_node = p.to_node; drained = []; arrived = [] }

-- the link leads from one node to another
abbrev pub leads : ℕ → ℕ → Passing → Bool
leads from_node to_node p = p.from_node == from_node && p.to_node == to_node

-- the letters that were drained of a link; none if the link does not lead from the one node to the
-- other
abbrev pub letters_on : ℕ → ℕ → Passing → List Addressed
letters_on from_node to_node p = if leads from_node to_node p then map (letter p.from p.to) p.drained else []

-- the frames of the letters that were drained of a link; none if the link does not lead from the
-- one node to the other
abbrev pub frames_on : ℕ → ℕ → Passing → List ℕ
frames_on from_node to_node p = if leads from_node to_node p then flat_map (λ e. framed (payload_code p.from p.to e)) p.drained else []

-- the letters that were drained of all links from one node to another, link by link
abbrev pub letters_of : ℕ → ℕ → List Passing → List Addressed
letters_of from_node to_node ps = flat_map (letters_on from_node to_node) ps

-- the frames of the letters that were drained of all links from one node to another, link by link
abbrev pub frames_of : ℕ → ℕ → List Passing → List ℕ
frames_of from_node to_node ps = flat_map (frames_on from_node to_node) ps

-- the agents, the nodes and what was drained are as before
pub record SamePassing (before after : Passing) : Type 0 where
  pub from : after.from ≡ before.from
  pub to : after.to ≡ before.to
  pub from_node : after.from_node ≡ before.from_node
  pub to_node : after.to_node ≡ before.to_node
  pub drained : after.drained ≡ before.drained

-- what these letters bring on the link; nothing if it does not lead from the one node to the other
abbrev pub brought : ℕ → ℕ → List Addressed → Passing → List (ℕ × Message)
brought from_node to_node ls p = if leads from_node to_node p then carried p.from p.to ls else []

-- what these letters bring on the link has arrived, after what had arrived before, and nothing else
-- has changed
pub record HasReceived (from_node to_node : ℕ) (ls : List Addressed) (before after : Passing) : Type 0 where
  pub same : SamePassing before after
  pub arrived : after.arrived ≡ before.arrived ++ brought from_node to_node ls before

-- the link has this sender and this receiver, and leads from the one node to the other
abbrev pub is_link : ℕ → ℕ → ℕ → ℕ → Passing → Bool
is_link from_node to_node from to p = (leads from_node to_node p && p.from == from) && p.to == to

-- no two links have the same sender and the same receiver
abbrev pub LeadApart : List Passing → Type 0
LeadApart ps = (k l : ℕ) (p q : Passing) → slice_get ps k ≡ Some p → slice_get ps l ≡ Some q → p.from ≡ q.from → p.to ≡ q.to → k ≡ l

-- each link leads between two different nodes with numbers below `nodes`, and no two links have the
-- same sender and receiver
pub record AreAcross (nodes : ℕ) (ps : List Passing) : Type 0 where
  pub inside : (k : ℕ) (p : Passing) → slice_get ps k ≡ Some p → (p.from_node < nodes) × (p.to_node < nodes)
  pub across : (k : ℕ) (p : Passing) → slice_get ps k ≡ Some p → p.from_node ≢ p.to_node
  pub apart : LeadApart ps

-- one of the links from the one node to the other has the sender and the receiver of this letter
pub record IsOnLink (from_node to_node : ℕ) (ps : List Passing) (l : Addressed) : Type 0 where
  pub place : ℕ
  pub passing : Passing
  pub is : slice_get ps place ≡ Some passing
  pub from_node_is : passing.from_node ≡ from_node
  pub to_node_is : passing.to_node ≡ to_node
  pub from_is : passing.from ≡ l.from
  pub to_is : passing.to ≡ l.to

-- the pair (low, high) comes before the pair (first, second) in lexicographic order
abbrev pub ComeBefore : ℕ → ℕ → ℕ → ℕ → Type 0
ComeBefore low high first second = (low < first) ⊎ ((low ≡ first) × (high < second))

-- if the pair of nodes (low, high) comes before (first, second), exactly what was drained has
-- arrived on the link, else nothing; and so on all links, in either direction
pub record HasComeOn (first second low high : ℕ) (p : Passing) : Type 0 where
  pub all : ComeBefore low high first second → p.arrived ≡ p.drained
  pub none : (ComeBefore low high first second → ⊥) → p.arrived ≡ []

pub record HaveCome (first second : ℕ) (ps : List Passing) : Type 0 where
  pub there : (k : ℕ) (p : Passing) → slice_get ps k ≡ Some p → p.from_node < p.to_node → HasComeOn first second p.from_node p.to_node p
  pub back : (k : ℕ) (p : Passing) → slice_get ps k ≡ Some p → p.to_node < p.from_node → HasComeOn first second p.to_node p.from_node p

-- nothing has arrived on any link
abbrev pub NothingCame : List Passing → Type 0
NothingCame ps = (k : ℕ) (p : Passing) → slice_get ps k ≡ Some p → p.arrived ≡ []

-- exactly what was drained has arrived on each link
abbrev pub AllCame : List Passing → Type 0
AllCame ps = (k : ℕ) (p : Passing) → slice_get ps k ≡ Some p → p.arrived ≡ p.drained

-- these bytes are not the frames of letters on the links from the one node to the other
abbrev pub AreNoLetters : List Passing → ℕ → ℕ → List ℕ → Type 0
AreNoLetters ps from_node to_node came = (ls : List Addressed) → All IsLetter ls → All (IsOnLink from_node to_node ps) ls → came ≢ stream_of ls

-- what came is not the frames of letters on the links from the one node to the other; at this
-- position is the first byte that differs from what was sent, and either byte may be missing
pub record IsOtherByte (ps : List Passing) (from_node to_node : ℕ) (came : List ℕ) (place : ℕ) (sent taken : Option ℕ) : Type 0 where
  pub strange : AreNoLetters ps from_node to_node came
  pub same : take place came ≡ take place (frames_of from_node to_node ps)
  pub sent_is : sent ≡ slice_get (frames_of from_node to_node ps) place
  pub taken_is : taken ≡ slice_get came place
  pub apart : taken ≢ sent
