use Rattle.std.proofs.Common.{◌≡◌, drop, map}
use Rattle.std.specs.List.{list_any, flat_map}
use Rattle.dcop_base.specs.Table.{has}
use Rattle.protocol_steps.specs.Dpop.{there}
use Rattle.dpop_agent.proofs.kept.is_in_kept.Given as goal

abbrev pub invariant-loop-entry : goal.invariant-loop-entry
invariant-loop-entry l =
    list_any (λ scope. has scope l.sought) (map (λ t. t.scope) (flat_map there l.kept))
    ≡ list_any (λ scope. has scope l.sought) (map (λ t. t.scope) (flat_map there (drop l.entry-index l.kept)))
