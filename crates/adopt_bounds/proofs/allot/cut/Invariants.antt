use Rattle.std.proofs.Common.{◌≡◌, ℕ, ◌+◌, ◌*◌, ◌≤◌, List, Option, ◌++◌, length, take, drop}
use Rattle.std.specs.List.{All}
use Rattle.dcop_base.specs.Limits.{amount_limit}
use Rattle.adopt_context.specs.Allot.{cut}
use Rattle.adopt_context.specs.Context.{Context}
use Rattle.adopt_bounds.specs.Rows.{entries_of}
use Rattle.adopt_bounds.proofs.allot.cut.Given as goal

abbrev pub invariant-loop-k : goal.invariant-loop-k
invariant-loop-k l = record {
  count : length l.share ≡ length l.fn.share;
  fits : l.excess ≤ amount_limit * (length l.share + l.k);
  within : All (λ s. s ≤ amount_limit) l.share;
  entries : (upper : List (Option ℕ)) (contexts : List Context) → length upper ≡ length l.fn.share → length contexts ≡ length l.fn.share
      → take l.k (entries_of l.lower upper l.share contexts) ++ cut l.excess (drop l.k (entries_of l.lower upper l.share contexts))
      ≡ cut l.fn.excess (entries_of l.lower upper l.fn.share contexts);
}
