use Rattle.std.proofs.Common.{◌≡◌, length}
use Rattle.agent_links.specs.Beside.{neighbours_in}
use Rattle.agent_links.specs.Links.{rows_in, pairs_to}
use Rattle.node_seats.specs.Links.{AreLinksBefore, AreNewOver}
use Rattle.node_seats.specs.Seats.{IsSameFrame}
use Rattle.node_seats.proofs.links.link_rows.Given as goal

abbrev pub invariant-loop-from : goal.invariant-loop-from
invariant-loop-from g l = record {
  added : AreNewOver l.initial.plan (pairs_to (neighbours_in l.known) 0) (length (neighbours_in l.known)) (rows_in l.initial.tails) (rows_in l.initial.heads)
      → AreNewOver l.plan (pairs_to (neighbours_in l.known) l.from) (length (neighbours_in l.known)) (rows_in l.tails) (rows_in l.heads);
  before : AreLinksBefore l.plan l.from 0 (rows_in l.tails) (rows_in l.heads);
  frame : IsSameFrame l.initial.plan l.plan;
  tails : length l.tails ≡ length l.initial.tails;
  heads : length l.heads ≡ length l.initial.heads;
}
