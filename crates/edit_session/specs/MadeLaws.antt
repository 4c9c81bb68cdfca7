-- Laws of tables that are made and kept.
use Rattle.std.specs.Prelude.{◌≡◌, ℕ, ◌<◌, true, List, map, length, Option, Some, slice_index, slice_set}
use Rattle.dcop_base.specs.Table.{has}
use Rattle.dcop_base.specs.Problem.{Dcop}
use Rattle.dcop_base.specs.Whole.{IsProblem}
use Rattle.dcop_base.specs.Knowledge.{private_of}
use Rattle.pseudotree.specs.Tree.{parent_of}
use Rattle.pseudotree.specs.Pseudotree.{IsPseudotree, IsLinked, separator_of}
use Rattle.pseudotree.specs.Place.{sizes_of}
use Rattle.pseudotree.specs.Width.{IsNarrow, joined_cells}
use Rattle.protocol_steps.specs.Dpop.{best_value, separator, size_of}
use Rattle.protocol_steps.specs.TreeAgents.{place_at}
use Rattle.dcop_optimum.specs.TreeOptimum.{IsFirstOptimumOf}
use Rattle.run_laws.specs.DpopAgents.{IsOptimumTable}
use Rattle.dpop_agent.specs.declared.made.Made.{Made}
use Rattle.dpop_agent.specs.Remade.{MayRemake, IsRemade, joined_count}
use Rattle.edit_session.specs.Held.{agent_with, IsHeld, AreHeldFrom, AreAllHeld}

-- if the tables of a variable and of all its descendants are held, the table that its agent sends is that of its subtree optima
abbrev pub MadeTablesAreOptima : Type 0
MadeTablesAreOptima = (p : Dcop) (paths : List (List ℕ)) (kept : List (Option Made)) (i : ℕ) → IsProblem p → IsPseudotree p paths → i < length p.sizes
    → AreHeldFrom p paths kept i → (held : IsHeld p paths kept i) → IsOptimumTable p paths i held.made.sent

-- each variable has its lowest own value with the least joined cost, at the values of its separator
abbrev pub AreLowestPicks : Dcop → List (List ℕ) → List (Option Made) → List ℕ → Type 0
AreLowestPicks p paths kept values = (i : ℕ) → i < length p.sizes → slice_index values i ≡ best_value (agent_with p paths kept i) (slice_index values)

-- such values are the first optimum of the tree, if the tables of all variables are held
abbrev pub LowestPicksAreFirst : Type 0
LowestPicksAreFirst = (p : Dcop) (paths : List (List ℕ)) (kept : List (Option Made)) (values : List ℕ) → IsProblem p → IsPseudotree p paths
    → AreAllHeld p paths kept → length values ≡ length p.sizes → AreLowestPicks p paths kept values → IsFirstOptimumOf p paths values

-- the tables of all children of variable i and of their descendants are held
abbrev pub AreChildrenHeld : Dcop → List (List ℕ) → List (Option Made) → ℕ → Type 0
AreChildrenHeld p paths kept i = (c : ℕ) → parent_of paths c ≡ Some i → AreHeldFrom p paths kept c

-- the tables of an agent may be made, and the joined one has as many cells as the tree says
pub record MayBeJoined (p : Dcop) (paths : List (List ℕ)) (kept : List (Option Made)) (i : ℕ) : Type 0 where
  pub may : MayRemake (private_of p i) (place_at p paths i) kept
  pub cells : joined_count (agent_with p paths kept i) ≡ joined_cells p paths i

-- on a narrow and linked pseudotree the tables of an agent may be made, if those of its children and their descendants are held
abbrev pub ChildrenMayBeJoined : Type 0
ChildrenMayBeJoined = (p : Dcop) (paths : List (List ℕ)) (kept : List (Option Made)) (i : ℕ) → IsProblem p → IsPseudotree p paths → IsLinked p paths → IsNarrow p paths
    → length kept ≡ length p.sizes → i < length p.sizes → AreChildrenHeld p paths kept i → MayBeJoined p paths kept i

-- after the tables of variable i were put into the list, they are held with those of its descendants, and what was held for any variable and its descendants is still held
pub record KeepsHeld (p : Dcop) (paths : List (List ℕ)) (kept : List (Option Made)) (i : ℕ) (made : Made) : Type 0 where
  pub here : AreHeldFrom p paths (slice_set kept i (Some made)) i
  pub others : (j : ℕ) → AreHeldFrom p paths kept j → AreHeldFrom p paths (slice_set kept i (Some made)) j

-- the tables that are made for a variable are held once they are in the list, and what was held stays held, if the tables of its children and their descendants are held
abbrev pub OneMoreIsHeld : Type 0
OneMoreIsHeld = (p : Dcop) (paths : List (List ℕ)) (kept : List (Option Made)) (i : ℕ) (made : Made) → IsPseudotree p paths → length kept ≡ length p.sizes → i < length p.sizes
    → AreChildrenHeld p paths kept i → IsRemade (agent_with p paths kept i) made → KeepsHeld p paths kept i made

-- what the agent of variable i reads when it picks a value: its separator is that of the tree, with the sizes of its variables, and no other variable's value changes what it picks
pub record ReadsSeparator (p : Dcop) (paths : List (List ℕ)) (kept : List (Option Made)) (i : ℕ) : Type 0 where
  pub separator_is : separator (agent_with p paths kept i) ≡ separator_of p paths i
  pub sizes_are : map (size_of (agent_with p paths kept i)) (separator_of p paths i) ≡ sizes_of p (separator_of p paths i)
  pub same : (f g : ℕ → ℕ) → ((u : ℕ) → has (separator_of p paths i) u ≡ true → f u ≡ g u) → best_value (agent_with p paths kept i) f ≡ best_value (agent_with p paths kept i) g

-- the value that an agent picks depends on the values of its separator alone, if the tables of its children and their descendants are held
abbrev pub PicksReadSeparators : Type 0
PicksReadSeparators = (p : Dcop) (paths : List (List ℕ)) (kept : List (Option Made)) (i : ℕ) → IsProblem p → IsPseudotree p paths → AreChildrenHeld p paths kept i → ReadsSeparator p paths kept i
