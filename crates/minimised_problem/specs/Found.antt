-- What the token agents of a problem have found, and how many messages they take.
use Rattle.std.specs.Prelude.{◌≡◌, ℕ, ◌-◌, ◌*◌, List, [], map, length, Option, Some, None}
use Rattle.std.specs.List.{range_with_len}
use Rattle.dcop_base.specs.Problem.{Dcop}
use Rattle.dcop_base.specs.Whole.{IsProblem}
use Rattle.pseudotree.specs.DepthFirst.{dfs}
use Rattle.pseudotree.specs.Pseudotree.{IsPseudotreeOf, IsLinked}
use Rattle.pseudotree.specs.declared.agent.Place.{Place}
use Rattle.protocol_steps.specs.declared.outcome.Outcome.{Outcome}
use Rattle.run_laws.specs.TokenAgents.{place_found}
use Rattle.minimised_problem.specs.declared.search.Found.{Found}

-- the places of all variables in the depth-first tree of a problem, as its token agents find them
abbrev pub places_found : Dcop → List (Option Place)
places_found p = map (λ i. Some (place_found p i)) (range_with_len 0 (length p.sizes))

-- how many messages a search by tokens takes: for each variable except the root, one TOKEN to it
-- and one DONE from it
abbrev pub token_deliveries : Dcop → ℕ
token_deliveries p = 2 * (length p.sizes - 1)

-- each agent of a problem has found its place in the depth-first tree, and the agents took as many
-- messages as the search takes
pub record HaveFound (p : Dcop) (outcome : Outcome) : Type 0 where
  pub places : outcome.places ≡ places_found p
  pub deliveries : outcome.deliveries ≡ token_deliveries p

-- the path in the place of an agent; an empty path if it has no place
abbrev pub path_on : Option Place → List ℕ
path_on None = []
path_on (Some place) = place.path

-- the depth-first tree of a problem, and how many messages the search for it takes
pub record IsFound (p : Dcop) (found : Found) : Type 0 where
  pub whole : IsProblem p
  pub tree : IsPseudotreeOf p found.tree
  pub linked : IsLinked p found.tree.paths
  pub paths : found.tree.paths ≡ dfs p
  pub deliveries : found.deliveries ≡ token_deliveries p
