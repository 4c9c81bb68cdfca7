-- Lists that belong to the variables of a problem, each at the place of its variable.
use Rattle.std.specs.Prelude.{◌≡◌, ℕ, ◌<◌, Bool, not, ◌&&◌, ◌||◌, ◌==◌, List, [], map, length, slice_index_or}
use Rattle.std.specs.List.Sorted.{IsStrictlyIncreasing}
use Rattle.std.specs.declared.vec.Vec.{Vec}
use Rattle.std.specs.declared.alloc.Global.{Global}
use Rattle.dcop_base.specs.Table.{has}

module _ {T : Type 0} where
  -- the lists of items of these vectors
  abbrev pub rows_in : List (Vec T Global) → List (List T)
  rows_in rows = map (λ row. row.items) rows

-- whether the list of one variable names another
abbrev pub names : List (List ℕ) → ℕ → ℕ → Bool
names rows u v = has (slice_index_or rows u []) v

-- each list is strictly increasing
abbrev pub AreAscending : List (List ℕ) → Type 0
AreAscending rows = (u : ℕ) → u < length rows → IsStrictlyIncreasing (slice_index_or rows u [])

-- the lists gained exactly the pairs of different variables that pass a test, and they are strictly increasing
pub record Adds (near : ℕ → ℕ → Bool) (old new : List (List ℕ)) : Type 0 where
  pub ascend : AreAscending new
  pub named : (u v : ℕ) → u < length old → names new u v ≡ (names old u v || (not (u == v) && near u v))
