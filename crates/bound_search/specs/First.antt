-- The first estimate, and what holds at the end of a search.
use Rattle.std.specs.Prelude.{◌≡◌, ℕ, ◌+◌, ◌≤◌, ◌==◌, false, true, List, length, Some, None}
use Rattle.std.specs.List.{filter, sum_by}
use Rattle.dcop_base.specs.Table.{CostTable}
use Rattle.dcop_base.specs.Values.{cost_with}
use Rattle.shared_costs.specs.Values.{AreValues}
use Rattle.bucket_bounds.specs.Bounds.{tables_in}
use Rattle.bucket_bounds.specs.Exact.{AreExact}
use Rattle.bucket_bounds.specs.declared.bucket.Bucket.{Bucket}
use Rattle.bound_search.specs.Searched.{most_nodes, tree_nodes, TakesEffort}
use Rattle.bound_search.specs.Grounds.{scaled_cost}
use Rattle.bound_search.specs.Descent.{IsFurther}
use Rattle.bound_search.specs.declared.progress.Progress.{Progress}
use Rattle.bound_search.specs.declared.rules.Rules.{Rules}

-- the sum of those of the tables that have no variables
abbrev pub constants_cost : List CostTable → ℕ
constants_cost ts = cost_with (filter (λ t. length t.scope == 0) ts) (λ v. 0)

-- the sum of what the buckets send without variables
abbrev pub first_sum : List Bucket → ℕ
first_sum buckets = sum_by (λ bucket. bucket.fixed + constants_cost bucket.sent) buckets

-- all assignments were searched
pub record HasSearched (sizes : List ℕ) (buckets : List Bucket) (rules : Rules) (old new : Progress) : Type 0 where
  pub further : IsFurther old new
  pub lower : (other : ℕ → ℕ) → AreValues sizes other → new.lower ≤ scaled_cost buckets other
  pub known : new.spent ≡ true → (best : ℕ) × (new.best ≡ Some best)
  pub found : old.best ≡ None → new.found ≡ true
  pub nodes : new.nodes ≤ most_nodes rules.budget (length sizes) old.best old.nodes
  pub tree : new.nodes ≤ old.nodes + tree_nodes sizes
  pub effort : TakesEffort (length sizes) old.found old.nodes new.found new.nodes
  pub straight : AreExact sizes (tables_in buckets) buckets → old.nodes + length sizes ≤ rules.budget → (new.spent ≡ false) × (new.nodes ≤ old.nodes + length sizes)
