-- A DPOP agent, given what it was made from and the tables that it keeps.
use Rattle.std.specs.Prelude.{◌≡◌, ℕ, ◌<◌, Bool, ◌||◌, true, false, List, [], ◌∷◌, ◌++◌, length, map, Option, Some, None, slice_index_or}
use Rattle.std.specs.List.{filter, flat_map, list_any}
use Rattle.dcop_base.specs.Table.{CostTable, has}
use Rattle.dcop_base.specs.declared.knowledge.Private.{Private}
use Rattle.pseudotree.specs.declared.agent.Place.{Place}
use Rattle.protocol_steps.specs.Agent.{not_started}
use Rattle.protocol_steps.specs.Dpop.{DpopView, size_of, there}

-- an agent that keeps these tables of its children
abbrev pub keeping : Private → Place → List (Option CostTable) → DpopView
keeping own place kept = record { own = own; place = place; phase = not_started; kept = kept; made = None; value = 0 }

-- a child's table that may be kept: its scope consists of variables of the path, from the root down, and then the agent, with the sizes that the agent knows
pub record IsChildTable (own : Private) (place : Place) (t : CostTable) : Type 0 where
  pub scope : t.scope ≡ filter (has t.scope) place.path ++ (own.me ∷ [])
  pub sizes : t.sizes ≡ map (size_of (keeping own place [])) t.scope

-- what is kept for a child: nothing yet, or such a table
abbrev pub MayKeep : Private → Place → Option CostTable → Type 0
MayKeep own place None = Unit {0}
MayKeep own place (Some t) = IsChildTable own place t

-- none of these lower variables is in the path
abbrev pub AreOffPath : List ℕ → List ℕ → Type 0
AreOffPath lower path = (u : ℕ) → has lower u ≡ true → has path u ≡ false

-- whether a variable is a neighbour, in this scope or in the scope of a kept table
abbrev pub is_near : Private → List (Option CostTable) → List ℕ → ℕ → Bool
is_near own kept scope u = has own.neighbours u || list_any (λ vars. has vars u) (scope ∷ map (λ t. t.scope) (flat_map there kept))

-- marks at the places of variables: each says whether its variable passes a test
abbrev pub AreMarks : (ℕ → Bool) → List ℕ → List Bool → Type 0
AreMarks p vars marks = (k : ℕ) → k < length vars → slice_index_or marks k false ≡ p (slice_index_or vars k 0)

-- the variables of a list that are neighbours, in this scope or in the scope of a kept table
abbrev pub near_in : Private → List (Option CostTable) → List ℕ → List ℕ → List ℕ
near_in own kept scope path = filter (is_near own kept scope) path
