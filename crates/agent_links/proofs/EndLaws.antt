-- The ends of links, and the agents that have them.
use Rattle.std.proofs.Common.{ℕ, List, Result, Ok, Err, IfOk}
use Rattle.std.specs.declared.vec.Vec.{Vec}
use Rattle.std.specs.declared.alloc.Global.{Global}
use Rattle.dcop_base.specs.declared.memory.NoMemory.{NoMemory}
use Rattle.dcop_base.specs.Problem.{Dcop}
use Rattle.agent_cells.specs.Links.{Tail, Head}
use Rattle.agent_links.specs.Links.{AreLinksIn, AreLinks}
use Rattle.delivery_core.specs.declared.start.Start.{Start}
use Rattle.agent_links.specs.declared.seat.Seat.{Seat}
use Rattle.agent_links.specs.Seats.{all_neighbours, HaveEnds, AreSeated, AreSeats}

-- agents that are linked have the ends of their links
pub links_end : (node : ℕ → ℕ) (lists : List (List ℕ)) (tails : List (List Tail)) (heads : List (List Head)) → AreLinksIn node lists tails heads → HaveEnds lists tails heads
links_end node lists tails heads l = record {
  tails_size = l.tails_size;
  heads_size = l.heads_size;
  tail_peers = l.tail_peers;
  head_peers = l.head_peers;
  unsent = l.unsent;
  untaken = l.untaken;
}

-- agents that have the ends of links between them are seated on these
pub seats_linked : (p : Dcop) (start : Start) (tails : List (List Tail)) (heads : List (List Head)) (seats : List Seat) → AreLinks (all_neighbours p) tails heads → AreSeated p start tails heads seats
    → AreSeats p start seats
seats_linked p start tails heads seats linked s = record {
  size = s.size;
  tails = tails;
  heads = heads;
  linked = linked;
  each = s.each;
}

-- so it is if seating them does not run out of memory
pub all_linked : (p : Dcop) (start : Start) (tails : List (List Tail)) (heads : List (List Head)) (r : Result (Vec Seat Global) NoMemory) → AreLinks (all_neighbours p) tails heads
    → IfOk r (λ seats. AreSeated p start tails heads seats.items) → IfOk r (λ seats. AreSeats p start seats.items)
all_linked p start tails heads (Ok seats) linked s = seats_linked p start tails heads seats.items linked s
all_linked p start tails heads (Err e) linked s = tt
