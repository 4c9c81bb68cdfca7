-- The tables that were made for the agents of a tree, kept in one list for all variables.
use Rattle.std.specs.Prelude.{◌≡◌, ℕ, ◌<◌, true, List, length, Option, Some, slice_get}
use Rattle.dcop_base.specs.Problem.{Dcop}
use Rattle.dcop_base.specs.Knowledge.{private_of}
use Rattle.pseudotree.specs.Pseudotree.{is_within}
use Rattle.protocol_steps.specs.Dpop.{DpopView}
use Rattle.protocol_steps.specs.TreeAgents.{place_at}
use Rattle.dpop_agent.specs.declared.made.Made.{Made}
use Rattle.dpop_agent.specs.Remade.{with_sent, IsRemade}

-- the agent of variable i of a problem, at its place in a tree, with the tables that its children sent
abbrev pub agent_with : Dcop → List (List ℕ) → List (Option Made) → ℕ → DpopView
agent_with p paths kept i = with_sent (private_of p i) (place_at p paths i) kept

-- the tables of variable i are held: the list has those of its agent's DPOP step, made from the tables that its children sent
pub record IsHeld (p : Dcop) (paths : List (List ℕ)) (kept : List (Option Made)) (i : ℕ) : Type 0 where
  pub made : Made
  pub there : slice_get kept i ≡ Some (Some made)
  pub tables : IsRemade (agent_with p paths kept i) made

-- the tables of variable i and of all its descendants are held
abbrev pub AreHeldFrom : Dcop → List (List ℕ) → List (Option Made) → ℕ → Type 0
AreHeldFrom p paths kept i = (j : ℕ) → is_within paths i j ≡ true → IsHeld p paths kept j

-- the tables of all variables are held
abbrev pub AreAllHeld : Dcop → List (List ℕ) → List (Option Made) → Type 0
AreAllHeld p paths kept = (i : ℕ) → i < length p.sizes → IsHeld p paths kept i
