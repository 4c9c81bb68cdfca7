-- The rows of entries that flat lists hold, one row for each own value.
use Rattle.std.specs.Prelude.{ℕ, zero, suc, List, [], ◌∷◌, Option, ◌==◌, take, drop}
use Rattle.std.specs.List.{position}
use Rattle.adopt_context.specs.Context.{Context, or_zero}
use Rattle.adopt_context.specs.Bounds.{Entry, entry_at}
use Rattle.adopt_context.specs.Merge.{merged, put_entry}

-- the bounds of an agent: its children, and for each own value a row of entries, one for each child
pub record BoundsView : Type 0 where
  pub children : List ℕ
  pub rows : List (List Entry)

-- the place of a child in the rows
abbrev pub place_of : List ℕ → ℕ → ℕ
place_of children j = or_zero (position (λ child. child == j) children)

-- the entry for own value d and a child
abbrev pub entry_of : BoundsView → ℕ → ℕ → Entry
entry_of b d j = entry_at b.rows d (place_of b.children j)

-- the bounds after what the child at place k sent was merged into its entry for own value d
abbrev pub merged_at : BoundsView → ℕ → ℕ → Context → ℕ → Option ℕ → BoundsView
merged_at b d k r l u = record b { rows = put_entry b.rows d k (merged (entry_at b.rows d k) r l u) }

-- the bounds after what a child sent was merged into its entry for own value d
abbrev pub with_merged : BoundsView → ℕ → ℕ → Context → ℕ → Option ℕ → BoundsView
with_merged b d j r l u = merged_at b d (place_of b.children j) r l u

-- the entries whose parts are at the same places of four lists
abbrev pub entries_of : List ℕ → List (Option ℕ) → List ℕ → List Context → List Entry
entries_of [] us ss cs = []
entries_of (l ∷ ls) [] ss cs = []
entries_of (l ∷ ls) (u ∷ us) [] cs = []
entries_of (l ∷ ls) (u ∷ us) (s ∷ ss) [] = []
entries_of (l ∷ ls) (u ∷ us) (s ∷ ss) (c ∷ cs) =
    record { lower = l; upper = u; share = s; context = c } ∷ entries_of ls us ss cs

-- entries, cut into `size` rows of `width` entries each
abbrev pub rows_of : ℕ → ℕ → List Entry → List (List Entry)
rows_of zero width es = []
rows_of (suc size) width es = take width es ∷ rows_of size width (drop width es)
