use Rattle.std.proofs.Common.{◌<◌}
use Rattle.std.specs.List.{All}
use Rattle.shared_costs.specs.Rows.{AreNaming}
use Rattle.shared_costs.proofs.sharing.naming_places.Given as goal

abbrev pub invariant-loop-place : goal.invariant-loop-place
invariant-loop-place l = record {
  naming : AreNaming l.tables l.var l.naming.items;
  next : All (λ k. k < l.next) l.naming.items;
}
