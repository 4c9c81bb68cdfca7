use Rattle.std.proofs.Common.{◌≡◌, drop}
use Rattle.local_costs.specs.Stride.{stride}
use Rattle.local_costs.proofs.adding.stride_of.Given as goal

abbrev pub invariant-loop-k : goal.invariant-loop-k
invariant-loop-k l =
    stride l.scope l.sizes l.var ≡ stride (drop l.k l.scope) (drop l.k l.sizes) l.var
