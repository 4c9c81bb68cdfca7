-- Worked rows, computed by the definitions: bounds that would cross those that are there are not stored.
use Rattle.std.proofs.Common.{◌≡◌, true, false, [], ◌∷◌, Some, None, refl}
use Rattle.adopt_context.specs.Bounds.{blank, lower_at}
use Rattle.adopt_context.specs.Merge.{may_merge}
use Rattle.adopt_bounds.specs.Rows.{BoundsView, entry_of, with_merged}

-- two own values and the child 3, of which nothing is known
abbrev empty : BoundsView
empty = record { children = 3 ∷ []; rows = (blank ∷ []) ∷ (blank ∷ []) ∷ [] }

pub first_may_be_stored : may_merge (entry_of empty 0 3) 2 (Some 3) ≡ true
first_may_be_stored = refl

-- own value 0 with the bounds 2 and 3, where variable 0 has the value 1
abbrev stored : BoundsView
stored = with_merged empty 0 3 ((0, 1) ∷ []) 2 (Some 3)

pub lower_is_stored : lower_at (λ d. 0) stored.rows 0 ≡ 2
lower_is_stored = refl

pub crossing_may_not : may_merge (entry_of stored 0 3) 4 None ≡ false
crossing_may_not = refl
