-- The state that an edit session answers from: the current file, and the agents that its edits
-- touch.
use Rattle.std.specs.Prelude.{◌≡◌, ℕ, Bool, true, false, ◌||◌, List, map, length, replicate, count_by, if◌then◌else◌, slice_index_or}
use Rattle.std.specs.List.{sum_by, range_with_len}
use Rattle.dcop_base.specs.Problem.{Dcop, cost}
use Rattle.pseudotree.specs.DepthFirst.{dfs}
use Rattle.pseudotree.specs.Width.{joined_cells}
use Rattle.dcop_optimum.specs.TreeOptimum.{IsFirstOptimumOf}
use Rattle.problem_text.specs.File.{TextFile}
use Rattle.problem_text.specs.declared.edited.Edited.{Edited}
use Rattle.minimised_problem.specs.Goal.{problem_solved}
use Rattle.edit_session.specs.Edits.{table_at, with_cells, is_on_way}

-- the current file, and for each agent whether it is touched
pub record SessionState : Type 0 where
  pub file : TextFile
  pub touched : List Bool

-- the current problem solved
abbrev pub solved_now : SessionState → Dcop
solved_now s = problem_solved s.file

-- the tree of the agents: the depth-first tree of the problem solved
abbrev pub tree_now : SessionState → List (List ℕ)
tree_now s = dfs (solved_now s)

-- whether agent i is touched
abbrev pub is_touched : List Bool → ℕ → Bool
is_touched touched i = slice_index_or touched i false

-- the state when a session is opened: all agents are touched
abbrev pub opened : TextFile → SessionState
opened f = record { file = f; touched = replicate (length f.problem.sizes) true }

-- which agents are touched after an edit of a table with this scope: also those on the path from
-- its deepest variable to the root
abbrev pub touched_by : List (List ℕ) → List ℕ → List Bool → List Bool
touched_by paths scope touched = map (λ i. is_touched touched i || is_on_way paths scope i) (range_with_len 0 (length touched))

-- the file with these cells in table k
abbrev pub edited_file : TextFile → ℕ → List ℕ → TextFile
edited_file f k cells = record {
  version = f.version;
  goal = f.goal;
  names = f.names;
  labels = f.labels;
  problem = with_cells f.problem k cells;
}

-- the state after table k has received these cells
abbrev pub edited : SessionState → ℕ → List ℕ → SessionState
edited s k cells = record {
  file = edited_file s.file k cells;
  touched = touched_by (tree_now s) (table_at s.file.problem k).scope s.touched;
}

-- the state after an answer: no agent is touched
abbrev pub answered : SessionState → SessionState
answered s = record { file = s.file; touched = replicate (length s.touched) false }

-- the answer in a state: the first optimum of the depth-first tree of the problem solved, its cost
-- in the file's problem, and how many agents are touched
pub record IsAnswerNow (s : SessionState) (answer : Edited) : Type 0 where
  pub first : IsFirstOptimumOf (solved_now s) (tree_now s) answer.values
  pub cost : answer.cost ≡ cost s.file.problem answer.values
  pub remade : answer.remade ≡ count_by (λ t. t) s.touched

-- how many cells the joined tables of the touched agents have
abbrev pub touched_cells : SessionState → ℕ
touched_cells s = sum_by (λ i. if is_touched s.touched i then joined_cells (solved_now s) (tree_now s) i else 0) (range_with_len 0 (length s.touched))
