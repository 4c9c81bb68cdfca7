-- How the agents of a turn start, and what they reach.
use Rattle.std.specs.Prelude.{◌≡◌, ℕ, ◌-◌, ◌*◌, List, [], length}
use Rattle.dcop_base.specs.Problem.{Dcop}
use Rattle.pseudotree.specs.Width.{IsNarrow}
use Rattle.dcop_optimum.specs.TreeOptimum.{IsFirstOptimumOf}
use Rattle.protocol_steps.specs.declared.outcome.Outcome.{Outcome}
use Rattle.delivery_core.specs.declared.start.Start.{Start}
use Rattle.delivery_core.specs.declared.start.Start.TheVariants.{Token, Dpop, Adopt}
use Rattle.delivery_core.specs.Agents.{IsTreeFor}
use Rattle.run_laws.specs.Slice.{slice_of}
use Rattle.minimised_problem.specs.Utils.{HaveMade}

-- the paths of the tree on which agents start; none for token agents
abbrev pub paths_in : Start → List (List ℕ)
paths_in Token = []
paths_in (Dpop tree) = tree.paths
paths_in (Adopt tree error) = tree.paths

-- the start of DPOP agents, on a tree on which those of the problem run
abbrev pub IsDpopStart : Dcop → Start → Type 0
IsDpopStart p Token = ⊥
IsDpopStart p (Dpop tree) = IsTreeFor p tree
IsDpopStart p (Adopt tree error) = ⊥

-- the tree is narrow for each slice
abbrev pub IsNarrowForSlices : Dcop → List (List ℕ) → List ℕ → Type 0
IsNarrowForSlices p paths cut = (values : List ℕ) → IsNarrow (slice_of p cut values) paths

-- how many messages one turn takes: for each variable but the root, one UTIL from it and one VALUE
-- to it
abbrev pub turn_deliveries : Dcop → ℕ
turn_deliveries p = 2 * (length p.sizes - 1)

-- the agents have the first optimum of the problem on the tree, they have made their tables, and
-- they took the messages of one turn
pub record HaveFirst (p : Dcop) (paths : List (List ℕ)) (outcome : Outcome) : Type 0 where
  pub first : IsFirstOptimumOf p paths outcome.values
  pub deliveries : outcome.deliveries ≡ turn_deliveries p
  pub tables : HaveMade p paths outcome.tables
