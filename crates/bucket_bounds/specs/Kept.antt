-- Projections that are kept, and those that are replaced.
use Rattle.std.specs.Prelude.{◌≡◌, ℕ, ◌+◌, ◌<◌, ◌≤◌, List, [], ◌∷◌, ◌++◌, length, min}
use Rattle.std.specs.List.{All, fold, sum_by}
use Rattle.std.specs.List.Sorted.{IsPermutation}
use Rattle.dcop_base.specs.Limits.{count_limit}
use Rattle.dcop_base.specs.Table.{CostTable}
use Rattle.dcop_base.specs.Faults.{cell_count}

-- the least of these numbers, or 0 if there are none
abbrev pub least : List ℕ → ℕ
least [] = 0
least (x ∷ xs) = fold min x xs

-- the sum of the least cells of these tables
abbrev pub least_cost : List CostTable → ℕ
least_cost ts = sum_by (λ t. least t.cells) ts

-- what is sent of projections (tables without a bucket's variable), with room for this many cells.
-- `sent` has, unchanged, the projections that name variables, except the `replaced` largest ones:
-- each of these is at least as large as every table of `sent`, and would have, together with the
-- tables of `sent`, more cells than the room. `fixed` is the sum of the least cells of the
-- projections that are not in `sent`, or count_limit if that is less
pub record AreProjectionsKept (room : ℕ) (projections sent : List CostTable) (fixed replaced : ℕ) : Type 0 where
  pub closed : List CostTable
  pub large : List CostTable
  pub each : IsPermutation projections (closed ++ large ++ sent)
  pub plain : All (λ t. t.scope ≡ []) closed
  pub named : All (λ t. 1 ≤ length t.scope) (large ++ sent)
  pub sum : fixed ≡ min (least_cost closed + least_cost large) count_limit
  pub many : replaced ≡ length large
  pub largest : All (λ t. All (λ s. length s.cells ≤ length t.cells) sent) large
  pub full : All (λ t. room < cell_count sent + length t.cells) large
