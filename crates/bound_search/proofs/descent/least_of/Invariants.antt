use Rattle.std.proofs.Common.{◌≡◌, ℕ, ◌<◌, ◌≤◌, length, get_or}
use Rattle.bound_search.proofs.descent.least_of.Given as goal

abbrev pub invariant-loop-k : goal.invariant-loop-k
invariant-loop-k l = record {
  place : l.place < length l.row;
  entry : l.least ≡ get_or l.row l.place 0;
  first : l.least ≤ get_or l.row 0 0;
  below : (k : ℕ) → k < l.k → l.least ≤ get_or l.row k 0;
}
