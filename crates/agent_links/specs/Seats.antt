-- The agents of a problem, each with the ends of its links.
use Rattle.std.specs.Prelude.{◌≡◌, ℕ, ◌<◌, List, [], map, length, Some, slice_get, slice_index_or}
use Rattle.std.specs.List.{All, range_with_len}
use Rattle.dcop_base.specs.Problem.{Dcop}
use Rattle.dcop_base.specs.Graph.{neighbours}
use Rattle.protocol_steps.specs.View.{View}
use Rattle.worker_laws.specs.Cells.{peers}
use Rattle.agent_cells.specs.Links.{Tail, Head, lanes_sent, lanes_taken}
use Rattle.agent_links.specs.Links.{AreLinks}
use Rattle.delivery_core.specs.declared.start.Start.{Start}
use Rattle.delivery_core.specs.Starts.{agent_of}
use Rattle.agent_links.specs.declared.seat.Seat.{Seat}
use Rattle.agent_links.specs.Kinds.{view_of}

-- an agent with this view and number, and these ends of its links
pub record IsSeat (view : View) (me : ℕ) (tails : List Tail) (heads : List Head) (seat : Seat) : Type 0 where
  pub view_is : view_of seat.agent ≡ view
  pub me_is : seat.me ≡ me
  pub tails_are : seat.tails.items ≡ tails
  pub heads_are : seat.heads.items ≡ heads

-- the neighbours of each variable of a problem
abbrev pub all_neighbours : Dcop → List (List ℕ)
all_neighbours p = map (neighbours p) (range_with_len 0 (length p.sizes))

-- ends of links for agents with these neighbours: each agent has a tail to and a head from each of
-- its neighbours, and nothing was sent on them
pub record HaveEnds (lists : List (List ℕ)) (tails : List (List Tail)) (heads : List (List Head)) : Type 0 where
  pub tails_size : length tails ≡ length lists
  pub heads_size : length heads ≡ length lists
  pub tail_peers : (i : ℕ) → i < length lists → peers (lanes_sent (slice_index_or tails i [])) ≡ slice_index_or lists i []
  pub head_peers : (i : ℕ) → i < length lists → peers (lanes_taken (slice_index_or heads i [])) ≡ slice_index_or lists i []
  pub unsent : (i : ℕ) → i < length lists → All (λ l. l.messages ≡ []) (lanes_sent (slice_index_or tails i []))
  pub untaken : (i : ℕ) → i < length lists → All (λ l. l.messages ≡ []) (lanes_taken (slice_index_or heads i []))

-- the agents of a start, in order; agent i has the ends of links at place i
pub record AreSeated (p : Dcop) (start : Start) (tails : List (List Tail)) (heads : List (List Head)) (seats : List Seat) : Type 0 where
  pub size : length seats ≡ length p.sizes
  pub each : (i : ℕ) (s : Seat) → slice_get seats i ≡ Some s → IsSeat (agent_of p start i) i (slice_index_or tails i []) (slice_index_or heads i []) s

-- the agents of a start, in order, each with the ends of new links to and from its neighbours
pub record AreSeats (p : Dcop) (start : Start) (seats : List Seat) : Type 0 where
  pub size : length seats ≡ length p.sizes
  pub tails : List (List Tail)
  pub heads : List (List Head)
  pub linked : AreLinks (all_neighbours p) tails heads
  pub each : (i : ℕ) (s : Seat) → slice_get seats i ≡ Some s → IsSeat (agent_of p start i) i (slice_index_or tails i []) (slice_index_or heads i []) s
