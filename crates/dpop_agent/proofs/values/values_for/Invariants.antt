use Rattle.std.proofs.Common.{◌≡◌, ◌++◌, drop}
use Rattle.dcop_base.specs.Values.{with_own}
use Rattle.protocol_steps.specs.Values.{valued}
use Rattle.dpop_agent.proofs.ParcelLaws.{values_sent}
use Rattle.dpop_agent.proofs.values.values_for.Given as goal

abbrev pub invariant-loop-k : goal.invariant-loop-k
invariant-loop-k l =
    l.told.items ++ values_sent (with_own l.me l.best (valued l.values)) (drop l.k l.children) (drop l.k l.kept)
    ≡ l.fn.parcels.items ++ values_sent (with_own l.me l.best (valued l.values)) l.children l.kept
