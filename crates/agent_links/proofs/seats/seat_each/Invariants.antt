use Rattle.std.proofs.Common.{◌≡◌, ℕ, [], length, slice_get, slice_index_or, Some}
use Rattle.agent_links.specs.Links.{rows_in}
use Rattle.delivery_core.specs.Starts.{agent_of}
use Rattle.agent_links.specs.declared.seat.Seat.{Seat}
use Rattle.agent_links.specs.Seats.{IsSeat}
use Rattle.agent_links.proofs.seats.seat_each.Given as goal

abbrev pub invariant-loop-own : goal.invariant-loop-own
invariant-loop-own l = record {
  size : length l.seats.items ≡ length l.yielded;
  each : (i : ℕ) (s : Seat) → slice_get l.seats.items i ≡ Some s
      → IsSeat (agent_of l.problem l.start i) i (slice_index_or (rows_in l.fn.links.tails.items) i []) (slice_index_or (rows_in l.fn.links.heads.items) i []) s;
}
