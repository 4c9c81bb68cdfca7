use Rattle.std.proofs.Common.{◌≡◌, length}
use Rattle.agent_links.specs.Beside.{neighbours_in}
use Rattle.agent_links.specs.Links.{rows_in, one_node, pairs_to, AreNewLinks}
use Rattle.agent_links.proofs.links.link_rows.Given as goal

abbrev pub invariant-loop-from : goal.invariant-loop-from
invariant-loop-from l = record {
  added : AreNewLinks one_node (pairs_to (neighbours_in l.known) 0) (length (neighbours_in l.known)) (rows_in l.initial.tails) (rows_in l.initial.heads)
      → AreNewLinks one_node (pairs_to (neighbours_in l.known) l.from) (length (neighbours_in l.known)) (rows_in l.tails) (rows_in l.heads);
  tails : length l.tails ≡ length l.initial.tails;
  heads : length l.heads ≡ length l.initial.heads;
}
