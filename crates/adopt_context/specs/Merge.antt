-- How the bounds that a child sends are merged into an entry of an ADOPT agent.
use Rattle.std.specs.Prelude.{ℕ, Bool, true, List, Option, Some, None, nat_le, max, slice_set}
use Rattle.adopt_context.specs.Context.{Context, union}
use Rattle.adopt_context.specs.Bounds.{Entry, row_at}
use Rattle.adopt_context.specs.Allot.{lower_to}

-- the lesser of two upper bounds; none counts as the largest
abbrev pub lesser : Option ℕ → Option ℕ → Option ℕ
lesser None y = y
lesser (Some x) y = Some (lower_to x y)

-- whether a lower bound does not exceed an upper one
abbrev pub is_at_most : ℕ → Option ℕ → Bool
is_at_most l None = true
is_at_most l (Some u) = nat_le l u

-- whether the bounds that a child sends can be merged into an entry: the better lower bound does not exceed the better upper bound
abbrev pub may_merge : Entry → ℕ → Option ℕ → Bool
may_merge e l u = is_at_most (max e.lower l) (lesser e.upper u)

-- an entry merged with what a child sends: the better of each two bounds, the union of both contexts, and a share between the bounds
abbrev pub merged : Entry → Context → ℕ → Option ℕ → Entry
merged e r l u = record {
  lower = max e.lower l;
  upper = lesser e.upper u;
  share = lower_to (max e.share (max e.lower l)) (lesser e.upper u);
  context = union e.context r;
}

-- the rows with the entry e for own value d and the child at place k
abbrev pub put_entry : List (List Entry) → ℕ → ℕ → Entry → List (List Entry)
put_entry rows d k e = slice_set rows d (slice_set (row_at rows d) k e)
