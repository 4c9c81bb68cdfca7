-- The outcome of a search.
use Rattle.std.specs.Prelude.{◌≡◌, ℕ, ◌+◌, ◌*◌, ◌≤◌, ◌⊎◌, max, Bool, true, false, List, [], ◌∷◌, Option, Some, None, length}
use Rattle.dcop_base.specs.Limits.{count_limit}
use Rattle.dcop_base.specs.Problem.{Dcop, IsAssignment, cost}
use Rattle.bucket_bounds.specs.Exact.{AreExact}
use Rattle.bucket_bounds.specs.declared.bucket.Bucket.{Bucket}
use Rattle.bucket_bounds.specs.Bounds.{tables_in}
use Rattle.bound_search.specs.Estimate.{unscaled}
use Rattle.bound_search.specs.Known.{IsKnown, KnowsMore}
use Rattle.bound_search.specs.Visits.{far, HasVisited}
use Rattle.bound_search.specs.declared.known.Known.{Known}
use Rattle.bound_search.specs.declared.searching.Ended.{Ended}

-- a search that has ended: something is known, and it is at most the lower bound plus the error
pub record HasSearchEnded (error : ℕ) (known : Known) (lower : ℕ) : Type 0 where
  pub best : ℕ
  pub known_is : known.best ≡ Some best
  pub within : best ≤ lower + error

-- a search that is spent: the nodes have reached the budget, and something is known
pub record IsSpent (budget : ℕ) (known : Known) : Type 0 where
  pub some : (best : ℕ) × (known.best ≡ Some best)
  pub reached : budget ≤ known.nodes

-- how a search ended
abbrev pub EndsSo : ℕ → ℕ → Known → Ended → Type 0
EndsSo error budget known ended = ((ended.spent ≡ false) × HasSearchEnded error known ended.lower) ⊎ ((ended.spent ≡ true) × IsSpent budget known)

-- the most nodes in all after a search, which is the greatest of these: the budget; the nodes
-- before the search; and, if nothing was known before it, those nodes plus one for each variable
abbrev pub most_nodes : ℕ → ℕ → Option ℕ → ℕ → ℕ
most_nodes budget count None before = max budget (before + count)
most_nodes budget count (Some best) before = max budget before

-- the first assignment that is found takes at least one node for each of `count` variables
abbrev pub TakesEffort : ℕ → Bool → ℕ → Bool → ℕ → Type 0
TakesEffort count found nodes found' nodes' = found ≡ false → found' ≡ true → nodes + count ≤ nodes'

-- the number of nodes that there are: each value of a variable after each choice of values of the variables before
abbrev pub tree_nodes : List ℕ → ℕ
tree_nodes [] = 0
tree_nodes (s ∷ ss) = s * (1 + tree_nodes ss)

-- a search that ends and visits at most one node for each variable, as with exact bounds and a sufficient budget
pub record GoesStraight (count : ℕ) (old new : Known) (ended : Ended) : Type 0 where
  pub whole : ended.spent ≡ false
  pub few : new.nodes ≤ old.nodes + count

-- a search of a problem by these buckets of costs with this scale: what is known before and after it, and how it ended; its lower bound is the least estimate, and it is spent exactly if a value was left open
pub record IsBoundSearch (p : Dcop) (scale : ℕ) (buckets : List Bucket) (error budget : ℕ) (old new : Known) (ended : Ended) : Type 0 where
  pub known : IsKnown p new
  pub more : KnowsMore old new
  pub found : old.best ≡ None → new.found ≡ true
  pub lower : (values : List ℕ) → IsAssignment p values → ended.lower ≤ cost p values
  pub ends : EndsSo error budget new ended
  pub counted : old.nodes ≤ new.nodes
  pub effort : TakesEffort (length p.sizes) old.found old.nodes new.found new.nodes
  pub nodes : new.nodes ≤ most_nodes budget (length p.sizes) old.best old.nodes
  pub tree : new.nodes ≤ old.nodes + tree_nodes p.sizes
  pub straight : AreExact p.sizes (tables_in buckets) buckets → old.nodes + length p.sizes ≤ budget → GoesStraight (length p.sizes) old new ended
  pub visits : (least : ℕ) × HasVisited p.sizes buckets (record { scale = scale; error = error; budget = budget }) (far old.best old.nodes count_limit false) (far new.best new.nodes least ended.spent) × (ended.lower ≡ unscaled scale least)
