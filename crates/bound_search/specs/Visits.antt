-- What a search visits, value by value, how many nodes these are, and what it leaves open.
use Rattle.std.specs.Prelude.{◌≡◌, ℕ, ◌+◌, ◌*◌, ◌<◌, ◌≤◌, ◌⊎◌, min, Bool, true, List, [], ◌∷◌, Option, Some, None}
use Rattle.std.specs.List.{range_with_len}
use Rattle.std.specs.List.Sorted.{IsPermutation, IsNonDecreasingBy}
use Rattle.dcop_base.specs.Values.{with_own}
use Rattle.bucket_bounds.specs.declared.bucket.Bucket.{Bucket}
use Rattle.bound_search.specs.Estimate.{estimate, IsPassedOver}
use Rattle.bound_search.specs.Grounds.{scaled_cost}
use Rattle.bound_search.specs.declared.rules.Rules.{Rules}

-- how far a search has come: the cost that a better assignment must be below, the number of nodes that were visited, the least estimate of what was passed over, left open or found, and whether a value was left open
pub record Far : Type 0 where
  pub best : Option ℕ
  pub nodes : ℕ
  pub least : ℕ
  pub left_open : Bool

-- a search that has come this far
abbrev pub far : Option ℕ → ℕ → ℕ → Bool → Far
far best nodes least left_open = record { best = best; nodes = nodes; least = least; left_open = left_open }

-- a value with this estimate is a node: it is not passed over, and nothing is known yet or the budget is not reached
abbrev pub IsNode : Rules → ℕ → Far → Type 0
IsNode rules f old = (¬ IsPassedOver rules.scale rules.error old.best f) × ((old.best ≡ None) ⊎ (old.nodes < rules.budget))

-- a value with this estimate is passed over, and nothing is visited
abbrev pub PassesOver : Rules → ℕ → Far → Far → Type 0
PassesOver rules f old new = IsPassedOver rules.scale rules.error old.best f × (new ≡ far old.best old.nodes (min old.least f) old.left_open)

-- a value with this estimate is left open: it is not passed over, but the budget is reached and something is known
abbrev pub LeavesOpen : Rules → ℕ → Far → Far → Type 0
LeavesOpen rules f old new = (¬ IsPassedOver rules.scale rules.error old.best f) × (rules.budget ≤ old.nodes) × ((best : ℕ) × (old.best ≡ Some best)) × (new ≡ far old.best old.nodes (min old.least f) true)

-- the turn of a value with this estimate: it is a node, which is counted and then what is below it is searched; or it is passed over; or it is left open
abbrev pub IsValueTurn : Rules → ℕ → (Far → Far → Type 0) → Far → Far → Type 0
IsValueTurn rules f Behind old new = (IsNode rules f old × Behind (far old.best (old.nodes + 1) old.least old.left_open) new) ⊎ (PassesOver rules f old new ⊎ LeavesOpen rules f old new)

-- these values have their turns, one after the other
abbrev pub AreValueTurns : Rules → (ℕ → ℕ) → (ℕ → Far → Far → Type 0) → List ℕ → Far → Far → Type 0
AreValueTurns rules f Behind [] old new = new ≡ old
AreValueTurns rules f Behind (a ∷ later) old new = (mid : Far) × (IsValueTurn rules (f a) (Behind a) old mid) × (AreValueTurns rules f Behind later mid new)

-- each value of a variable with this size has one turn, in ascending order of the estimates
pub record VisitsEach (rules : Rules) (f : ℕ → ℕ) (size : ℕ) (Behind : ℕ → Far → Far → Type 0) (old new : Far) : Type 0 where
  pub order : List ℕ
  pub each : IsPermutation (range_with_len 0 size) order
  pub ascending : IsNonDecreasingBy f order
  pub turns : AreValueTurns rules f Behind order old new

-- what is visited from this depth on, after these values of the variables before, when the others have these sizes: the values of the next one, and after each node what is visited from the next depth on; with no variable left, the assignment becomes the best known one
abbrev pub VisitsFrom : List ℕ → List Bucket → Rules → ℕ → (ℕ → ℕ) → Far → Far → Type 0
VisitsFrom [] buckets rules depth value old new = (cost : ℕ) × (scaled_cost buckets value ≡ rules.scale * cost) × (new ≡ far (Some cost) old.nodes (min old.least (rules.scale * cost)) old.left_open)
VisitsFrom (size ∷ sizes) buckets rules depth value old new =
    VisitsEach rules (λ a. estimate (depth + 1) buckets (with_own depth a value)) size (λ a before after. VisitsFrom sizes buckets rules (depth + 1) (with_own depth a value) before after) old new

-- a whole search: it visits from the first variable on
abbrev pub HasVisited : List ℕ → List Bucket → Rules → Far → Far → Type 0
HasVisited sizes buckets rules old new = VisitsFrom sizes buckets rules 0 (λ v. 0) old new
