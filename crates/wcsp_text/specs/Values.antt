-- The WCSP value of an assignment, and how the costs of the problem relate to it.
use Rattle.std.specs.Prelude.{◌≡◌, ℕ, ◌≤◌, Bool, ◌||◌, List, nat_lt, nat_le, if◌then◌else◌}
use Rattle.std.specs.List.{list_any, sum_by}
use Rattle.dcop_base.specs.Table.{cell_at}
use Rattle.dcop_base.specs.Problem.{Dcop, IsAssignment, cost}
use Rattle.wcsp_text.specs.Networks.{Network}

-- whether an assignment selects a cell of at least top
abbrev pub is_forbidden : Network → List ℕ → Bool
is_forbidden w values = list_any (λ f. nat_le w.top (cell_at f.table values)) w.functions

-- the plain sum of the cells that an assignment selects
abbrev pub plain_sum : Network → List ℕ → ℕ
plain_sum w values = sum_by (λ f. cell_at f.table values) w.functions

-- the WCSP value of an assignment: top if it selects a cell of at least top or its plain sum is at
-- least top, and the plain sum otherwise
abbrev pub wcsp_value : Network → List ℕ → ℕ
wcsp_value w values =
    if is_forbidden w values || nat_le w.top (plain_sum w values) then w.top else plain_sum w values

-- the WCSP value of each assignment is its cost if that is below the bar, and top otherwise
abbrev pub IsValued : Network → Dcop → ℕ → Type 0
IsValued w p bar = (values : List ℕ) → IsAssignment p values
    → wcsp_value w values ≡ (if nat_lt (cost p values) bar then cost p values else w.top)

-- an assignment is cheapest: no assignment costs less
abbrev pub IsCheapest : Dcop → List ℕ → Type 0
IsCheapest p best = (values : List ℕ) → IsAssignment p values → cost p best ≤ cost p values

-- an assignment that costs least (`IsCheapest`) has the least WCSP value
abbrev pub HasLeastValue : Network → Dcop → Type 0
HasLeastValue w p = (best values : List ℕ) → IsAssignment p best → IsCheapest p best → IsAssignment p values
    → wcsp_value w best ≤ wcsp_value w values
