use Rattle.std.proofs.Common.{◌≡◌, ℕ, ◌<◌, ◌≤◌, length, get_or}
use Rattle.util_join.specs.Strides.{along}
use Rattle.util_join.proofs.alike.copy_row.Given as goal

abbrev pub invariant-loop-p : goal.invariant-loop-p
invariant-loop-p l = record {
  long : length l.copies ≡ length l.fn.copies;
  copied : (q : ℕ) → q < l.p → get_or l.copies q 0 ≡ get_or l.from (along l.width l.step q) 0;
}

abbrev pub invariant-loop-p-2 : goal.invariant-loop-p-2
invariant-loop-p-2 l = record {
  long : length l.copies ≡ length l.fn.copies;
  least : l.width ≤ l.p;
  copied : (q : ℕ) → q < l.p → get_or l.copies q 0 ≡ get_or l.from (along l.width l.step q) 0;
}
