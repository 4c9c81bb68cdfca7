-- Joined tables: their start, the tables that can be added to them, and the result of adding.
use Rattle.std.specs.Prelude.{◌≡◌, ℕ, ◌<◌, ◌≤◌, List, map, min, replicate, true, Result, Ok, Err, slice_index}
use Rattle.std.specs.List.{All}
use Rattle.dcop_base.specs.Table.{CostTable, IsTableOfParts, AreWithin, product, has}
use Rattle.cost_table.specs.Cells.{cell_of, place_in}
use Rattle.util_kernel.specs.Lanes.{plus}
use Rattle.util_join.specs.declared.joined.JoinFault.{JoinFault}
use Rattle.util_join.specs.declared.joined.JoinFault.TheVariants.{TooWide, NoMemory}
use Rattle.dcop_base.specs.Limits.{joined_limit, count_limit}

-- a result is right for variables with these sizes: a joined table of zeros, if it has at most
-- joined_limit cells; otherwise that it is too wide, with its number of cells; running out of
-- memory is allowed for any sizes
abbrev pub MakesJoined : List ℕ → List ℕ → Result CostTable JoinFault → Type 0
MakesJoined over sizes (Ok t) = (product sizes ≤ joined_limit) × IsTableOfParts over sizes (replicate (product sizes) 0) t
MakesJoined over sizes (Err (TooWide cells)) = (joined_limit < product sizes) × (cells ≡ min (product sizes) count_limit)
MakesJoined over sizes (Err NoMemory) = Unit {0}

-- the table's variables are among these, and have the same sizes
pub record LiesIn (over sizes : List ℕ) (t : CostTable) : Type 0 where
  pub among : All (λ v. has over v ≡ true) t.scope
  pub sized : t.sizes ≡ map (λ v. slice_index sizes (place_in over v)) t.scope

-- a joined table after a table was added: each cell gained the table's cell at the same values, by the capped sum
pub record IsSum (old t new : CostTable) : Type 0 where
  pub same_scope : new.scope ≡ old.scope
  pub same_sizes : new.sizes ≡ old.sizes
  pub cells : (value : ℕ → ℕ) → AreWithin old.sizes (map value old.scope) → cell_of new (map value old.scope) ≡ plus (cell_of old (map value old.scope)) (cell_of t (map value t.scope))
