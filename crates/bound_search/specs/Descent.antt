-- What holds of a search before and after a descent.
use Rattle.std.specs.Prelude.{◌≡◌, ℕ, ◌+◌, ◌-◌, ◌*◌, ◌<◌, ◌≤◌, ◌⊎◌, min, true, false, Bool, List, Option, Some, None, length, drop, slice_index}
use Rattle.dcop_base.specs.Limits.{amount_limit, count_limit}
use Rattle.dcop_base.specs.Table.{AreWithin}
use Rattle.shared_costs.specs.Values.{AreValues, AgreeBelow}
use Rattle.bucket_bounds.specs.Bounds.{tables_in}
use Rattle.bucket_bounds.specs.Exact.{AreExact}
use Rattle.bucket_bounds.specs.declared.bucket.Bucket.{Bucket}
use Rattle.bound_search.specs.Estimate.{IsPassedOver}
use Rattle.bound_search.specs.Known.{IsBelow, IsNoWorse}
use Rattle.bound_search.specs.Searched.{most_nodes, tree_nodes, TakesEffort}
use Rattle.bound_search.specs.Grounds.{scaled_cost}
use Rattle.bound_search.specs.Visits.{Far, far}
use Rattle.bound_search.specs.declared.progress.Progress.{Progress}
use Rattle.bound_search.specs.declared.rules.Rules.{Rules}

-- the room: an estimate is not passed over exactly if it is below the room
pub record IsRoom (rules : Rules) (best : Option ℕ) (room : ℕ) : Type 0 where
  pub below : (f : ℕ) → f ≤ amount_limit → f < room → ¬ IsPassedOver rules.scale rules.error best f
  pub above : (f : ℕ) → f ≤ amount_limit → room ≤ f → IsPassedOver rules.scale rules.error best f
  pub counted : room ≤ count_limit

-- these values are an assignment with the best known cost
pub record HaveBestCost (sizes : List ℕ) (scale : ℕ) (buckets : List Bucket) (best : Option ℕ) (values : List ℕ) : Type 0 where
  pub within : AreWithin sizes values
  pub cost : ℕ
  pub best_is : best ≡ Some cost
  pub cost_is : scaled_cost buckets (slice_index values) ≡ scale * cost

-- what holds of a search at any time
pub record IsStanding (sizes : List ℕ) (buckets : List Bucket) (rules : Rules) (found : List ℕ) (now : Progress) : Type 0 where
  pub many : length found ≡ length sizes
  pub taken : now.found ≡ true → HaveBestCost sizes rules.scale buckets now.best found
  pub room : IsRoom rules now.best now.room
  pub spent : now.spent ≡ true → rules.budget ≤ now.nodes

-- what was known is not lost; what is found first is better; and unless the budget was reached, the lower bound has not fallen below the room
pub record IsFurther (old new : Progress) : Type 0 where
  pub lower : new.lower ≤ old.lower
  pub room : new.room ≤ old.room
  pub best : IsNoWorse new.best old.best
  pub still : old.found ≡ true → new.found ≡ true
  pub same : new.found ≡ false → new.best ≡ old.best
  pub better : old.found ≡ false → new.found ≡ true → IsBelow new.best old.best
  pub counted : old.nodes ≤ new.nodes
  pub kept : new.spent ≡ false → (old.spent ≡ false) × (min old.lower new.room ≤ new.lower)

-- with exact bounds: at most one node for each of `count` variables, and what was found costs at most the estimate
pub record IsStraight (count f : ℕ) (old new : Progress) : Type 0 where
  pub whole : new.spent ≡ old.spent
  pub few : new.nodes ≤ old.nodes + count
  pub room : new.room ≤ f

-- a descent was made from this depth and this estimate, after these values of the variables before
pub record HasDescended (sizes : List ℕ) (buckets : List Bucket) (rules : Rules) (depth f : ℕ) (value : ℕ → ℕ) (old new : Progress) : Type 0 where
  pub further : IsFurther old new
  pub lower : (other : ℕ → ℕ) → AreValues sizes other → AgreeBelow depth value other → new.lower ≤ scaled_cost buckets other
  pub known : (best : ℕ) × (new.best ≡ Some best)
  pub found : old.best ≡ None → new.found ≡ true
  pub nodes : new.nodes ≤ most_nodes rules.budget (length sizes - depth) old.best old.nodes
  pub tree : new.nodes ≤ old.nodes + tree_nodes (drop depth sizes)
  pub effort : TakesEffort (length sizes - depth) old.found old.nodes new.found new.nodes
  pub straight : AreExact sizes (tables_in buckets) buckets → old.nodes + (length sizes - depth) ≤ rules.budget → IsStraight (length sizes - depth) f old new

-- how far a search has come
abbrev pub far_of : Progress → Far
far_of now = far now.best now.nodes now.lower now.spent

-- a search after the next value, which has this estimate: the value is a node, or passed over, or left open
abbrev pub IsOpened : ℕ → ℕ → Progress → Progress → Bool → Type 0
IsOpened budget f old new true = (f < old.room) × (old.best ≡ None ⊎ old.nodes < budget) × (new ≡ record { best = old.best; found = old.found; nodes = old.nodes + 1; lower = old.lower; spent = old.spent; room = old.room })
IsOpened budget f old new false = (spent : Bool) × (new ≡ record { best = old.best; found = old.found; nodes = old.nodes; lower = min old.lower f; spent = spent; room = old.room })
    × ((old.room ≤ f × spent ≡ old.spent) ⊎ (f < old.room × spent ≡ true × budget ≤ old.nodes × ((best : ℕ) × (old.best ≡ Some best))))
