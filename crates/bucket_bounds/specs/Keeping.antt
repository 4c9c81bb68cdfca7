-- Projections that are kept one by one.
use Rattle.std.specs.Prelude.{◌≡◌, ◌+◌, ◌-◌, ◌<◌, ◌≤◌, ◌⊎◌, ℕ, List, [], ◌∷◌, ◌++◌, length, min}
use Rattle.dcop_base.specs.Limits.{count_limit}
use Rattle.dcop_base.specs.Table.{CostTable}
use Rattle.dcop_base.specs.Faults.{cell_count}
use Rattle.bucket_bounds.specs.Kept.{least, AreProjectionsKept}
use Rattle.bucket_bounds.specs.declared.keeping.Kept.{Kept}

-- what was kept of these tables, and the room that is left
pub record IsKeptOf (room : ℕ) (ts : List CostTable) (kept : Kept) : Type 0 where
  pub are : AreProjectionsKept room ts kept.sent.items kept.fixed kept.replaced
  pub left : cell_count kept.sent.items + kept.room ≡ room

-- a table was kept unchanged
pub record IsKeptWhole (old : Kept) (t : CostTable) (new : Kept) : Type 0 where
  pub named : 1 ≤ length t.scope
  pub sent : new.sent.items ≡ old.sent.items ++ t ∷ []
  pub fixed : new.fixed ≡ old.fixed
  pub replaced : new.replaced ≡ old.replaced
  pub fits : length t.cells ≤ old.room
  pub room : new.room ≡ old.room - length t.cells

-- only the least cell of a table was kept
pub record IsKeptLeast (old : Kept) (t : CostTable) (new : Kept) : Type 0 where
  pub sent : new.sent.items ≡ old.sent.items
  pub fixed : new.fixed ≡ min (old.fixed + least t.cells) count_limit
  pub room : new.room ≡ old.room
  pub why : ((t.scope ≡ []) × (new.replaced ≡ old.replaced)) ⊎ ((1 ≤ length t.scope) × (old.room < length t.cells) × (new.replaced ≡ min (old.replaced + 1) count_limit))

-- a table was kept, unchanged or by its least cell
abbrev pub IsTableKept : Kept → CostTable → Kept → Type 0
IsTableKept old t new = IsKeptWhole old t new ⊎ IsKeptLeast old t new
