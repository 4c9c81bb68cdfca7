use Rattle.std.proofs.Common.{◌≡◌, [], replicate}
use Rattle.agent_links.specs.Links.{rows_in}
use Rattle.agent_links.proofs.links.empty_rows.Given as goal

abbrev pub invariant-loop-own : goal.invariant-loop-own
invariant-loop-own g l = rows_in l.rows.items ≡ replicate l.own-index []
