-- The agents of all variables of a problem, as they are made: token agents, which find a tree, and agents on a tree.
use Rattle.std.specs.Prelude.{ℕ, List, map, length}
use Rattle.std.specs.List.{range_with_len}
use Rattle.dcop_base.specs.Problem.{Dcop}
use Rattle.dcop_base.specs.Knowledge.{private_of, acquaintance_of}
use Rattle.pseudotree.specs.Tree.{path_of, children_of}
use Rattle.pseudotree.specs.Pseudotree.{lower_of}
use Rattle.pseudotree.specs.Place.{sizes_of}
use Rattle.pseudotree.specs.declared.agent.Place.{Place}
use Rattle.protocol_steps.specs.Token.{new_token}
use Rattle.protocol_steps.specs.Dpop.{new_dpop}
use Rattle.protocol_steps.specs.Adopt.{new_adopt}
use Rattle.protocol_steps.specs.View.{View, TokenKind, DpopKind, AdoptKind}

-- the place of variable i in a tree
abbrev pub place_at : Dcop → List (List ℕ) → ℕ → Place
place_at p paths i = record {
  me = i;
  path = path_of paths i;
  path_sizes = sizes_of p (path_of paths i);
  children = children_of paths i;
  lower = lower_of p paths i;
}

-- the token agents, which do not know the costs
abbrev pub token_agents : Dcop → List View
token_agents p = map (λ i. TokenKind (new_token (acquaintance_of p i))) (range_with_len 0 (length p.sizes))

-- the DPOP agents
abbrev pub dpop_agents : Dcop → List (List ℕ) → List View
dpop_agents p paths = map (λ i. DpopKind (new_dpop (private_of p i) (place_at p paths i))) (range_with_len 0 (length p.sizes))

-- the ADOPT agents, for a requested error
abbrev pub adopt_agents : Dcop → List (List ℕ) → ℕ → List View
adopt_agents p paths error = map (λ i. AdoptKind (new_adopt (private_of p i) (place_at p paths i) error)) (range_with_len 0 (length p.sizes))
