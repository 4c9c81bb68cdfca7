-- What an ADOPT agent does with its entries: it resets them, and allots its threshold to its children.
use Rattle.std.specs.Prelude.{ℕ, ◌+◌, ◌-◌, List, [], ◌∷◌, map, Option, Some, None, nat_lt, if◌then◌else◌, min, max}
use Rattle.std.specs.List.{sum_by}
use Rattle.adopt_context.specs.Context.{Context, part_of}
use Rattle.adopt_context.specs.Bounds.{Entry, blank}

-- an entry; or, if its context is not part of the context x, the blank entry, in which nothing is
-- known
abbrev pub kept : Context → Entry → Entry
kept x e = if part_of e.context x then e else blank

-- reset: every entry whose context is not part of the context x becomes blank
abbrev pub reset : Context → List (List Entry) → List (List Entry)
reset x rows = map (λ row. map (kept x) row) rows

-- a number, or the upper bound if there is one and the number is above it
abbrev pub lower_to : ℕ → Option ℕ → ℕ
lower_to x None = x
lower_to x (Some u) = min x u

-- the sum of the shares allotted to the children, without the cap
abbrev pub share_sum : List Entry → ℕ
share_sum row = sum_by (λ e. e.share) row

-- the share of an entry raised by what is lacking, but to no more than its upper bound
abbrev pub raised : ℕ → Entry → ℕ
raised lack e = lower_to (e.share + lack) e.upper

-- raises the shares of a row by what is lacking, in the order of the children, each to no more than its upper bound
abbrev pub raise : ℕ → List Entry → List Entry
raise lack [] = []
raise lack (e ∷ es) = record e { share = raised lack e } ∷ raise (lack + e.share - raised lack e) es

-- the share of an entry lowered by the excess, but to no less than its lower bound
abbrev pub lowered : ℕ → Entry → ℕ
lowered excess e = max (e.share - excess) e.lower

-- lowers the shares of a row by the excess, in the order of the children, each to no less than its lower bound
abbrev pub cut : ℕ → List Entry → List Entry
cut excess [] = []
cut excess (e ∷ es) = record e { share = lowered excess e } ∷ cut (excess + lowered excess e - e.share) es

-- allots the goal to the children of a row; if their shares already add up to the goal, they stay
abbrev pub allot : ℕ → List Entry → List Entry
allot goal row =
    if nat_lt (share_sum row) goal then raise (goal - share_sum row) row
    else (if nat_lt goal (share_sum row) then cut (share_sum row - goal) row else row)
