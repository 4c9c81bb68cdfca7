-- Buckets that are parted only if they are too wide.
use Rattle.std.specs.Prelude.{◌≡◌, ℕ, ◌+◌, ◌*◌, ◌<◌, ◌≤◌, true, false, List, [], ◌∷◌, ◌++◌, length, slice_index}
use Rattle.std.specs.List.{All, list_any}
use Rattle.dcop_base.specs.Table.{CostTable, has, has_repeat}
use Rattle.bucket_bounds.specs.Union.{cells_over, times_more}
use Rattle.bucket_bounds.specs.declared.bucket.Bucket.{Bucket}
use Rattle.bucket_bounds.specs.declared.group.Group.{Group}

-- the variables that these tables name, each once
pub record IsScopeOf (ts : List CostTable) (vars : List ℕ) : Type 0 where
  pub apart : has_repeat vars ≡ false
  pub both : (u : ℕ) → has vars u ≡ list_any (λ t. has t.scope u) ts

-- tables whose joined table has more cells than the limit
abbrev pub AreTooWide : List ℕ → ℕ → List CostTable → Type 0
AreTooWide sizes limit ts = (vars : List ℕ) → IsScopeOf ts vars → limit < cells_over sizes vars

-- a bucket that is parted only if the joined table of its tables and of the bounds that came to it has more cells than the limit
abbrev pub IsPartedDuly : List ℕ → ℕ → Bucket → Type 0
IsPartedDuly sizes limit bucket = 2 ≤ bucket.groups → AreTooWide sizes limit (bucket.tables ++ bucket.came)

-- a bucket of variable p: a bound of it is replaced only if a table over all other variables that
-- are named in its tables and in the bounds that came to it has more cells than the room
abbrev pub IsReplacedDuly : List ℕ → ℕ → ℕ → Bucket → Type 0
IsReplacedDuly sizes room p bucket = 1 ≤ bucket.replaced → (others : List ℕ) → IsScopeOf (bucket.tables ++ bucket.came) (p ∷ others) → room < cells_over sizes others

-- buckets of the variables from p on, whose bounds are replaced only if there is not room for them
abbrev pub AreReplacedDuly : List ℕ → ℕ → ℕ → List Bucket → Type 0
AreReplacedDuly sizes room p [] = Unit {0}
AreReplacedDuly sizes room p (bucket ∷ later) = IsReplacedDuly sizes room p bucket × AreReplacedDuly sizes room (p + 1) later

-- a table whose variables are all among these
abbrev pub LiesAmong : List ℕ → CostTable → Type 0
LiesAmong vars t = All (λ v. has vars v ≡ true) t.scope

-- variables with values that include all variables of these tables
pub record IsRoomFor (sizes : List ℕ) (ts : List CostTable) (vars : List ℕ) : Type 0 where
  pub positive : All (λ v. 1 ≤ slice_index sizes v) vars
  pub named : All (LiesAmong vars) ts

-- a group is above the limit together with a scope
abbrev pub IsTooWideFor : List ℕ → List ℕ → ℕ → Group → Type 0
IsTooWideFor sizes scope limit g = limit < g.cells * times_more sizes g.vars scope

-- groups into which tables were parted only if one group cannot hold them all: they name only variables of these tables, and there are two or more only if the tables are too wide
pub record ArePartedDuly (sizes : List ℕ) (limit : ℕ) (ts : List CostTable) (groups : List Group) : Type 0 where
  pub named : (vars : List ℕ) → All (LiesAmong vars) ts → All (λ g. All (λ v. has vars v ≡ true) g.vars) groups
  pub wide : 2 ≤ length groups → (vars : List ℕ) → IsRoomFor sizes ts vars → limit < cells_over sizes vars
