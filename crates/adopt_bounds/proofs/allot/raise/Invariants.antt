use Rattle.std.proofs.Common.{◌≡◌, ℕ, ◌+◌, ◌≤◌, List, ◌++◌, length, take, drop}
use Rattle.std.specs.List.{All, sum_by}
use Rattle.dcop_base.specs.Limits.{amount_limit}
use Rattle.adopt_context.specs.Allot.{raise}
use Rattle.adopt_context.specs.Context.{Context}
use Rattle.adopt_bounds.specs.Rows.{entries_of}
use Rattle.adopt_bounds.proofs.allot.raise.Given as goal

abbrev pub invariant-loop-k : goal.invariant-loop-k
invariant-loop-k l = record {
  count : length l.share ≡ length l.fn.share;
  fits : sum_by (λ s. s) (drop l.k l.share) + l.lack ≤ amount_limit;
  within : All (λ s. s ≤ amount_limit) l.share;
  entries : (lower : List ℕ) (contexts : List Context) → length lower ≡ length l.fn.share → length contexts ≡ length l.fn.share
      → take l.k (entries_of lower l.upper l.share contexts) ++ raise l.lack (drop l.k (entries_of lower l.upper l.share contexts))
      ≡ raise l.fn.lack (entries_of lower l.upper l.fn.share contexts);
}
