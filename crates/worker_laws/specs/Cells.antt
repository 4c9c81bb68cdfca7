-- Cells as plain values: an agent with its view, its stamp and its journal, and the messages that it sent to each peer and took from each.
use Rattle.std.specs.Prelude.{◌≡◌, ℕ, ◌<◌, List, [], ◌∷◌, ◌++◌, map, ◌==◌, if◌then◌else◌}
use Rattle.std.specs.List.{All, sum_by, flat_map}
use Rattle.std.specs.List.Sorted.{IsStrictlyIncreasing}
use Rattle.protocol_steps.specs.declared.message.Message.{Message}
use Rattle.protocol_steps.specs.declared.event.Entry.{Entry}
use Rattle.protocol_steps.specs.View.{View}

-- one link of a cell: the peer at its other end, and all messages that were sent on it, or all that were taken, each with its stamp
pub record Lane : Type 0 where
  pub peer : ℕ
  pub messages : List (ℕ × Message)

-- a cell: its agent's number and view, its stamp, its journal, what it sent to each peer and took from each, and for each peer how many messages it knows to be waiting on the link
pub record CellState : Type 0 where
  pub me : ℕ
  pub view : View
  pub stamp : ℕ
  pub journal : List Entry
  pub sent : List Lane
  pub taken : List Lane
  pub known : List (ℕ × ℕ)

-- the peers of these links
abbrev pub peers : List Lane → List ℕ
peers ls = map (λ l. l.peer) ls

-- the messages on the link of peer j; none if there is no such link
abbrev pub lane : ℕ → List Lane → List (ℕ × Message)
lane j ls = flat_map (λ l. if l.peer == j then l.messages else []) ls

-- the links with more messages appended
abbrev pub grown : (ℕ → List (ℕ × Message)) → List Lane → List Lane
grown more ls = map (λ l. record { peer = l.peer; messages = l.messages ++ more l.peer }) ls

-- how many messages are known to be waiting on the link of peer j
abbrev pub known_from : ℕ → List (ℕ × ℕ) → ℕ
known_from j ks = sum_by (λ k. if k.0 == j then k.1 else 0) ks

-- the cell of agent i among n agents: its links lead to the same peers from which links lead to it, and these peers ascend and are agents
pub record IsWired (n i : ℕ) (c : CellState) : Type 0 where
  pub me : c.me ≡ i
  pub both : peers c.sent ≡ peers c.taken
  pub ascend : IsStrictlyIncreasing (peers c.taken)
  pub below : All (λ j. j < n) (peers c.taken)

-- two lists have the same length, and a relation holds at each place
abbrev pub EachAre : {X Y : Type 0} → (X → Y → Type 0) → List X → List Y → Type 0
EachAre R [] [] = Unit {0}
EachAre R [] (y ∷ ys) = ⊥
EachAre R (x ∷ xs) [] = ⊥
EachAre R (x ∷ xs) (y ∷ ys) = R x y × EachAre R xs ys
