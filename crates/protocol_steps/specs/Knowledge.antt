-- What an agent may be made from: consistent knowledge of a part of a problem.
use Rattle.std.specs.Prelude.{◌≡◌, ℕ, ◌<◌, ◌≤◌, List, ◌∷◌, length, Some}
use Rattle.std.specs.List.{All, AllZip, Contains, zip}
use Rattle.std.specs.List.Sorted.{IsStrictlyIncreasing}
use Rattle.dcop_base.specs.Table.{CostTable}
use Rattle.dcop_base.specs.Problem.{Dcop}
use Rattle.dcop_base.specs.Whole.{IsProblem}
use Rattle.dcop_base.specs.Knowledge.{private_of, acquaintance_of}
use Rattle.dcop_base.specs.declared.knowledge.Private.{Private}
use Rattle.dcop_base.specs.Limits.{variable_limit, size_limit}
use Rattle.adopt_context.specs.Context.{value_in}

-- a number of values that a variable may have
abbrev pub IsSize : ℕ → Type 0
IsSize s = (1 ≤ s) × (s ≤ size_limit)

-- the variables whose sizes an agent knows, with these sizes: its own variable and its neighbours
abbrev pub known_sizes : Private → List (ℕ × ℕ)
known_sizes own = (own.me, own.size) ∷ zip own.neighbours own.neighbour_sizes

-- a table that names the agent and otherwise only neighbours, with the sizes that the agent knows
pub record IsKnownTable (own : Private) (t : CostTable) : Type 0 where
  pub named : Contains t.scope own.me
  pub sized : AllZip (λ u s. value_in (known_sizes own) u ≡ Some s) t.scope t.sizes

-- consistent knowledge: the neighbours ascend, do not include the agent and have one size each; the tables are over the agent and its neighbours; and all numbers are within their ranges
pub record IsKnowledge (own : Private) : Type 0 where
  pub ascend : IsStrictlyIncreasing own.neighbours
  pub apart : ¬ Contains own.neighbours own.me
  pub sized : length own.neighbour_sizes ≡ length own.neighbours
  pub tables : All (IsKnownTable own) own.tables
  pub me_below : own.me < variable_limit
  pub below : All (λ u. u < variable_limit) own.neighbours
  pub size : IsSize own.size
  pub sizes : All IsSize own.neighbour_sizes

-- what an agent is given of a problem is consistent knowledge
abbrev pub PrivatesAreKnowledge : Type 0
PrivatesAreKnowledge = (p : Dcop) (i : ℕ) → IsProblem p → i < length p.sizes → IsKnowledge (private_of p i)

-- what an agent is given of a problem without the costs is consistent knowledge
abbrev pub AcquaintancesAreKnowledge : Type 0
AcquaintancesAreKnowledge = (p : Dcop) (i : ℕ) → IsProblem p → i < length p.sizes → IsKnowledge (acquaintance_of p i)
