use Rattle.std.proofs.Common.{◌≡◌, length, take}
use Rattle.agent_links.specs.Links.{rows_in, one_node, AddLinks}
use Rattle.agent_links.proofs.links.link_row.Given as goal

abbrev pub invariant-loop-to : goal.invariant-loop-to
invariant-loop-to l = record {
  added : AddLinks one_node l.from (take l.to-index l.neighbours) (rows_in l.initial.tails) (rows_in l.initial.heads) (rows_in l.tails) (rows_in l.heads);
  tails : length l.tails ≡ length l.initial.tails;
  heads : length l.heads ≡ length l.initial.heads;
}
