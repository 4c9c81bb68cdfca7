-- Bounds of an ADOPT agent: one entry for each own value and child, and the bounds that the entries give.
use Rattle.std.specs.Prelude.{ℕ, suc, zero, ◌+◌, Bool, true, false, List, [], ◌∷◌, Option, Some, None, nat_lt, if◌then◌else◌, slice_index_or, min}
use Rattle.std.specs.List.{sum_by}
use Rattle.adopt_context.specs.Context.{Context}
use Rattle.dcop_base.specs.Limits.{amount_limit}

-- what an agent holds for one own value and one child: the lower and the upper bound, which is none as long as it is not known; the share allotted to the child; and the context on which the bounds depend
pub record Entry : Type 0 where
  pub lower : ℕ
  pub upper : Option ℕ
  pub share : ℕ
  pub context : Context

-- the entry in which nothing is known
abbrev pub blank : Entry
blank = record { lower = 0; upper = None; share = 0; context = [] }

-- the row of own value d, one entry for each child
abbrev pub row_at : List (List Entry) → ℕ → List Entry
row_at rows d = slice_index_or rows d []

-- the entry of own value d and the child at place k
abbrev pub entry_at : List (List Entry) → ℕ → ℕ → Entry
entry_at rows d k = slice_index_or (row_at rows d) k blank

-- a number, or amount_limit, which is called the cap, if the number is above it
abbrev pub cap : ℕ → ℕ
cap x = min x amount_limit

-- the sum of two upper bounds; none if one of them is none
abbrev pub plus_bound : Option ℕ → Option ℕ → Option ℕ
plus_bound None y = None
plus_bound (Some x) None = None
plus_bound (Some x) (Some y) = Some (x + y)

-- the sum of the lower bounds of a row
abbrev pub lower_sum : List Entry → ℕ
lower_sum row = sum_by (λ e. e.lower) row

-- the sum of the upper bounds of a row
abbrev pub upper_sum : List Entry → Option ℕ
upper_sum [] = Some 0
upper_sum (e ∷ es) = plus_bound e.upper (upper_sum es)

-- an upper bound, or the cap if the bound is above it
abbrev pub capped : Option ℕ → Option ℕ
capped None = None
capped (Some x) = Some (cap x)

-- LB(d): the cost of d by the agent's own tables plus the lower bounds of its row
abbrev pub lower_at : (ℕ → ℕ) → List (List Entry) → ℕ → ℕ
lower_at own rows d = cap (own d + lower_sum (row_at rows d))

-- UB(d): the cost of d plus the upper bounds of its row; none if the own cost is not yet known or a bound is none
abbrev pub upper_at : (ℕ → Option ℕ) → List (List Entry) → ℕ → Option ℕ
upper_at own rows d = capped (plus_bound (own d) (upper_sum (row_at rows d)))

-- whether one upper bound is below another; none counts as the largest
abbrev pub is_below : Option ℕ → Option ℕ → Bool
is_below None y = false
is_below (Some x) None = true
is_below (Some x) (Some y) = nat_lt x y

-- the lowest of the numbers 0 to n at which f is least
abbrev pub lowest : {X : Type 0} → (X → X → Bool) → (ℕ → X) → ℕ → ℕ
lowest less f zero = 0
lowest less f (suc n) = if less (f (suc n)) (f (lowest less f n)) then suc n else lowest less f n
