-- An edit session: what callers see of it, and what holds of it.
use Rattle.std.specs.Prelude.{◌≡◌, ℕ, ◌-◌, ◌<◌, Bool, false, List, map, length, replicate, Option, Some, None}
use Rattle.dcop_base.specs.Table.{greatest}
use Rattle.dcop_base.specs.Problem.{Dcop}
use Rattle.pseudotree.specs.DepthFirst.{dfs}
use Rattle.pseudotree.specs.Pseudotree.{RootedTree, IsPseudotreeOf}
use Rattle.pseudotree.specs.Width.{IsNarrow, wide_of}
use Rattle.dcop_optimum.specs.Goal.{turned, top_of}
use Rattle.problem_text.specs.File.{TextFile}
use Rattle.problem_text.specs.declared.file.Goal.{Goal}
use Rattle.problem_text.specs.declared.file.Goal.TheVariants.{Min, Max}
use Rattle.minimised_problem.specs.Goal.{problem_solved}
use Rattle.dpop_agent.specs.declared.made.Made.{Made}
use Rattle.edit_session.specs.Held.{AreHeldFrom}
use Rattle.edit_session.specs.State.{SessionState, opened, solved_now, tree_now, is_touched}
use Rattle.edit_session.specs.declared.fault.OpenFault.{OpenFault}
use Rattle.edit_session.specs.declared.fault.OpenFault.TheVariants.{Wide, NoMemory}

-- a session: the state that it answers from, and what is kept of each agent
pub record OpenSession : Type 0 where
  pub state : SessionState
  pub kept : List (Option Made)

-- a session when it is opened: nothing is kept yet
abbrev pub opened_session : TextFile → OpenSession
opened_session f = record { state = opened f; kept = replicate (length f.problem.sizes) None }

-- for each agent that is not touched: its tables and those of its descendants are held, for the
-- current problem
abbrev pub HoldsOthers : OpenSession → Type 0
HoldsOthers v = (i : ℕ) → i < length v.state.touched → is_touched v.state.touched i ≡ false → AreHeldFrom (solved_now v.state) (tree_now v.state) v.kept i

-- the turned problem, if it is the one that is solved
abbrev pub turned_for : Goal → Dcop → Option Dcop
turned_for Min p = None
turned_for Max p = Some (turned p)

-- the turned cells of a table: the greatest cell minus each cell
abbrev pub turned_cells : List ℕ → List ℕ
turned_cells cells = map (λ cell. greatest cells - cell) cells

-- a problem, or the problem that replaces it
abbrev pub or_own : Dcop → Option Dcop → Dcop
or_own p None = p
or_own p (Some q) = q

-- what holds of every session: besides the file it has the turned problem, if that is solved, and
-- the sum of the greatest cells; the tree is the depth-first tree of the problem solved, and
-- narrow; and the tables of agents that are not touched are held
pub record IsSession (file : TextFile) (turned : Option Dcop) (top : ℕ) (tree : RootedTree) (touched : List Bool) (kept : List (Option Made)) : Type 0 where
  pub solved : turned ≡ turned_for file.goal file.problem
  pub summed : top ≡ top_of file.problem
  pub tree_is : IsPseudotreeOf (problem_solved file) tree
  pub paths : tree.paths ≡ dfs (problem_solved file)
  pub narrow : IsNarrow (problem_solved file) (dfs (problem_solved file))
  pub marked : length touched ≡ length file.problem.sizes
  pub counted : length kept ≡ length file.problem.sizes
  pub held : HoldsOthers (record { state = record { file = file; touched = touched }; kept = kept })

-- why a session is not opened: something is too wide in the tree, or memory runs out
abbrev pub IsOpenFault : Dcop → OpenFault → Type 0
IsOpenFault q (Wide wide) = wide_of q (dfs q) ≡ Some wide
IsOpenFault q NoMemory = Unit {0}
