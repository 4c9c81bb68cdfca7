use Rattle.std.proofs.Common.{◌≡◌, ◌*◌, ◌≤◌, take}
use Rattle.std.specs.List.{sum_by}
use Rattle.dcop_base.specs.Limits.{amount_limit}
use Rattle.adopt_bounds.proofs.allot.sum_of.Given as goal

abbrev pub invariant-loop-amount : goal.invariant-loop-amount
invariant-loop-amount l = record {
  sum : l.sum ≡ sum_by (λ s. s) (take l.amount-index l.share);
  room : l.sum ≤ l.amount-index * amount_limit;
}
