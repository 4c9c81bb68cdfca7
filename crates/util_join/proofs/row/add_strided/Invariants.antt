use Rattle.std.proofs.Common.{◌≡◌, ℕ, ◌*◌, ◌<◌, ◌≤◌, length, get_or}
use Rattle.std.specs.List.{All}
use Rattle.dcop_base.specs.Limits.{amount_limit}
use Rattle.util_kernel.specs.Lanes.{plus}
use Rattle.util_join.proofs.row.add_strided.Given as goal

abbrev pub invariant-loop-k : goal.invariant-loop-k
invariant-loop-k l = record {
  end : l.k-end ≡ length l.fn.cells;
  count : length l.cells ≡ length l.fn.cells;
  small : All (λ n. n ≤ amount_limit) l.cells;
  done : (p : ℕ) → p < l.k → get_or l.cells p 0 ≡ plus (get_or l.fn.cells p 0) (get_or l.from (l.step * p) 0);
  rest : (p : ℕ) → l.k ≤ p → get_or l.cells p 0 ≡ get_or l.fn.cells p 0;
}
