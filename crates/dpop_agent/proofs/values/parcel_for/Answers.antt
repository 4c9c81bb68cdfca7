use Rattle.dpop_agent.proofs.ParcelLaws.{told_in_range}
use Rattle.dpop_agent.proofs.values.parcel_for.Goals as goal

pub invariant_of-result : goal.invariant_of-result
invariant_of-result c =
    told_in_range c.args.scope.now c.args.me c.args.best c.args.values.now c.in_ok-values.values c.in_ok-values.ensures c.requires.scope c.requires.best c.requires.range
