-- The agents in a run of tokens, and the places that they find.
use Rattle.std.specs.Prelude.{◌≡◌, ℕ, ◌<◌, true, false, List, [], length, Some, slice_get}
use Rattle.dcop_base.specs.Problem.{Dcop}
use Rattle.dcop_base.specs.Knowledge.{acquaintance_of}
use Rattle.pseudotree.specs.DepthFirst.{dfs}
use Rattle.pseudotree.specs.Pseudotree.{lower_of}
use Rattle.pseudotree.specs.Tree.{path_of, children_of}
use Rattle.pseudotree.specs.declared.agent.Place.{Place}
use Rattle.protocol_steps.specs.View.{View, OfToken, made_of, started_of, failed_of, place_of}
use Rattle.protocol_steps.specs.Laws.{IsBeside}

-- what holds of the agent of variable i: it was made from what variable i knows without its tables, it has started and not failed, and its parent is among its neighbours
pub record IsAgentOf (p : Dcop) (i : ℕ) (v : View) : Type 0 where
  pub made : made_of v ≡ OfToken (acquaintance_of p i)
  pub started : started_of v ≡ true
  pub not_failed : failed_of v ≡ false
  pub beside : IsBeside v

-- the agents of all variables
abbrev pub AreAgents : Dcop → List View → Type 0
AreAgents p views = (i : ℕ) → i < length p.sizes → (v : View) × (slice_get views i ≡ Some v) × IsAgentOf p i v

-- the place of variable i in the depth-first tree of a problem, as a token agent finds it: without the sizes of the path
abbrev pub place_found : Dcop → ℕ → Place
place_found p i = record {
  me = i;
  path = path_of (dfs p) i;
  path_sizes = [];
  children = children_of (dfs p) i;
  lower = lower_of p (dfs p) i;
}

-- the agent of each variable has found its place in the depth-first tree
abbrev pub FoundPlaces : Dcop → List View → Type 0
FoundPlaces p views = (i : ℕ) → i < length p.sizes → (v : View) × (slice_get views i ≡ Some v) × (place_of v ≡ Some (place_found p i))
