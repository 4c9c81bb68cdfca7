-- Links between agents.
use Rattle.std.specs.Prelude.{◌≡◌, ℕ, ◌<◌, List, [], ◌∷◌, ◌++◌, map, length, ◌==◌, if◌then◌else◌, slice_index_or}
use Rattle.std.specs.List.{All, flat_map, range_with_len, slice_set}
use Rattle.std.specs.declared.vec.Vec.{Vec}
use Rattle.std.specs.declared.alloc.Global.{Global}
use Rattle.protocol_steps.specs.declared.message.Message.{Message}
use Rattle.fifo_links.specs.declared.ends.LinkTail.{LinkTail}
use Rattle.fifo_links.specs.declared.ends.LinkHead.{LinkHead}
use Rattle.fifo_links.specs.Link.{AreEnds, sent_on, taken_from}
use Rattle.worker_laws.specs.Cells.{peers}
use Rattle.agent_cells.specs.Links.{Tail, Head, lanes_sent, lanes_taken}
use Rattle.agent_cells.specs.Settled.{EndsJoin}

module _ {T : Type 0} where
  -- vectors of vectors as lists of lists
  abbrev pub rows_in : List (Vec T Global) → List (List T)
  rows_in rows = map (λ row. row.items) rows

  -- lists in which the one at this place has one more item at its end
  abbrev pub pushed : ℕ → T → List (List T) → List (List T)
  pushed at item rows = slice_set rows at (slice_index_or rows at [] ++ item ∷ [])

-- the ends of links of agents with these neighbours: each agent has a tail to and a head from each
-- of its neighbours, and nothing was sent on them; inside a node, the tail of one agent to another
-- and the head of the other from the first are the ends of one link
pub record AreLinksIn (node : ℕ → ℕ) (lists : List (List ℕ)) (tails : List (List Tail)) (heads : List (List Head)) : Type 0 where
  pub tails_size : length tails ≡ length lists
  pub heads_size : length heads ≡ length lists
  pub tail_peers : (i : ℕ) → i < length lists → peers (lanes_sent (slice_index_or tails i [])) ≡ slice_index_or lists i []
  pub head_peers : (i : ℕ) → i < length lists → peers (lanes_taken (slice_index_or heads i [])) ≡ slice_index_or lists i []
  pub unsent : (i : ℕ) → i < length lists → All (λ l. l.messages ≡ []) (lanes_sent (slice_index_or tails i []))
  pub untaken : (i : ℕ) → i < length lists → All (λ l. l.messages ≡ []) (lanes_taken (slice_index_or heads i []))
  pub joined : (i j : ℕ) → i < length lists → j < length lists → node i ≡ node j → EndsJoin (slice_index_or tails i []) j (slice_index_or heads j []) i

-- all agents are in one node
abbrev pub one_node : ℕ → ℕ
one_node agent = 0

-- the ends of links of agents with these neighbours, which are all in one node
abbrev pub AreLinks : List (List ℕ) → List (List Tail) → List (List Head) → Type 0
AreLinks lists tails heads = AreLinksIn one_node lists tails heads

-- a tail from one agent to another and a head of the other from the first, on which nothing was
-- sent: inside a node they are the ends of one link
pub record NewLink (node : ℕ → ℕ) : Type 0 where
  pub from : ℕ
  pub to : ℕ
  pub tail : LinkTail (ℕ × Message)
  pub head : LinkHead (ℕ × Message)
  pub ends : node from ≡ node to → AreEnds tail head
  pub sent : sent_on tail ≡ []
  pub taken : taken_from head ≡ []

module _ {node : ℕ → ℕ} where
  -- the sender and the receiver of a link
  abbrev pub pair_of : NewLink node → ℕ × ℕ
  pair_of l = (l.from, l.to)

  -- the tails of the links from agent i, and the heads of those to it
  abbrev pub tails_of : ℕ → List (NewLink node) → List Tail
  tails_of i ls = flat_map (λ l. if l.from == i then (l.to, l.tail) ∷ [] else []) ls

  abbrev pub heads_of : ℕ → List (NewLink node) → List Head
  heads_of i ls = flat_map (λ l. if l.to == i then (l.from, l.head) ∷ [] else []) ls

-- the tails and heads of `count` agents are those of new links, whose senders and receivers are
-- these pairs
pub record AreNewLinks (node : ℕ → ℕ) (pairs : List (ℕ × ℕ)) (count : ℕ) (tails : List (List Tail)) (heads : List (List Head)) : Type 0 where
  pub links : List (NewLink node)
  pub pairs_are : map pair_of links ≡ pairs
  pub tails_size : length tails ≡ count
  pub heads_size : length heads ≡ count
  pub tails_are : (i : ℕ) → i < count → slice_index_or tails i [] ≡ tails_of i links
  pub heads_are : (i : ℕ) → i < count → slice_index_or heads i [] ≡ heads_of i links

-- the pairs of one sender with each of these receivers
abbrev pub row : ℕ → List ℕ → List (ℕ × ℕ)
row from tos = map (λ to. (from, to)) tos

-- the pairs of each of the first `count` agents with each of its neighbours
abbrev pub pairs_to : List (List ℕ) → ℕ → List (ℕ × ℕ)
pairs_to lists count = flat_map (λ i. row i (slice_index_or lists i [])) (range_with_len 0 count)

-- new links from one agent to each of these were added to new links
abbrev pub AddLinks : (ℕ → ℕ) → ℕ → List ℕ → List (List Tail) → List (List Head) → List (List Tail) → List (List Head) → Type 0
AddLinks node from tos tails heads more_tails more_heads =
    (pairs : List (ℕ × ℕ)) (count : ℕ) → AreNewLinks node pairs count tails heads → AreNewLinks node (pairs ++ row from tos) count more_tails more_heads

-- new links from each agent to each of its neighbours were added to lists without links
abbrev pub AddAllLinks : (ℕ → ℕ) → List (List ℕ) → List (List Tail) → List (List Head) → List (List Tail) → List (List Head) → Type 0
AddAllLinks node lists tails heads more_tails more_heads =
    AreNewLinks node (pairs_to lists 0) (length lists) tails heads → AreNewLinks node (pairs_to lists (length lists)) (length lists) more_tails more_heads
