use Rattle.std.proofs.Common.{◌≡◌, [], replicate}
use Rattle.agent_links.specs.Links.{rows_in}
use Rattle.node_seats.proofs.links.empty_rows.Given as goal

abbrev pub invariant-loop : goal.invariant-loop
invariant-loop g l = rows_in l.rows.items ≡ replicate l.counter []
