-- Agents and their neighbours.
use Rattle.std.specs.Prelude.{◌≡◌, ℕ, Bool, false, List, map, length}
use Rattle.std.specs.List.{filter, range_with_len}
use Rattle.dcop_base.specs.declared.knowledge.Private.{Private}

-- the neighbours of each agent, by what the agents know
abbrev pub neighbours_in : List Private → List (List ℕ)
neighbours_in known = map (λ own. own.neighbours) known

-- the neighbours of agent i by a relation, among `count` agents, in ascending order
abbrev pub near : (ℕ → ℕ → Bool) → ℕ → ℕ → List ℕ
near edge count i = filter (edge i) (range_with_len 0 count)

-- item i of the list has the neighbours of agent i, in ascending order, by one symmetric relation
-- that no agent has to itself
pub record AreBeside (lists : List (List ℕ)) : Type 0 where
  pub edge : ℕ → ℕ → Bool
  pub both : (i j : ℕ) → edge i j ≡ edge j i
  pub apart : (i : ℕ) → edge i i ≡ false
  pub are : lists ≡ map (near edge (length lists)) (range_with_len 0 (length lists))
