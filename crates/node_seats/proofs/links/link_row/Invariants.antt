use Rattle.std.proofs.Common.{◌≡◌, ◌<◌, ℕ, length, take}
use Rattle.std.specs.List.{All}
use Rattle.agent_links.specs.Links.{rows_in}
use Rattle.node_seats.specs.Links.{AreLinksBefore, AddLinksOver}
use Rattle.node_seats.specs.Seats.{IsSameFrame}
use Rattle.node_seats.proofs.links.link_row.Given as goal

abbrev pub invariant-loop-to : goal.invariant-loop-to
invariant-loop-to g l = record {
  added : AddLinksOver l.from (take l.to-index l.neighbours) l.initial.plan (rows_in l.initial.tails) (rows_in l.initial.heads) l.plan (rows_in l.tails) (rows_in l.heads);
  before : (j : ℕ) → All (λ k. k < j) (take l.to-index l.neighbours) → AreLinksBefore l.plan l.from j (rows_in l.tails) (rows_in l.heads);
  frame : IsSameFrame l.initial.plan l.plan;
  tails : length l.tails ≡ length l.initial.tails;
  heads : length l.heads ≡ length l.initial.heads;
}
