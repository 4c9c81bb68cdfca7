-- The answer of the command `tree` on a file.
use Rattle.std.specs.Prelude.{◌≡◌, ℕ, List, map}
use Rattle.dcop_base.specs.Problem.{Dcop}
use Rattle.dcop_base.specs.Whole.{IsProblem}
use Rattle.pseudotree.specs.Tree.{parent_of}
use Rattle.pseudotree.specs.Preorder.{preorder_of}
use Rattle.pseudotree.specs.Pseudotree.{separator_of}
use Rattle.pseudotree.specs.DepthFirst.{dfs}
use Rattle.problem_text.specs.File.{TextFile}
use Rattle.problem_text.specs.Declarations.{Declared}
use Rattle.problem_text.specs.Steps.{declared_by}
use Rattle.minimised_problem.specs.Found.{token_deliveries}
use Rattle.solve_report.specs.declared.tree.NodeRow.{NodeRow}
use Rattle.solve_report.specs.declared.answer.Answer.{Answer}
use Rattle.solve_report.specs.declared.answer.Answer.TheVariants as answers

-- the node of a variable of a tree: its parent, and the separator that this function gives
abbrev pub row_with : (ℕ → List ℕ) → List (List ℕ) → ℕ → NodeRow
row_with separator paths v = record { var = v; parent = parent_of paths v; separator = separator v }

-- the nodes of a tree in preorder, with the separators that this function gives
abbrev pub rows_with : (ℕ → List ℕ) → List (List ℕ) → List NodeRow
rows_with separator paths = map (row_with separator paths) (preorder_of paths)

-- the nodes of a tree of a problem in preorder, each with its parent and its separator from the
-- root down
abbrev pub rows_of : Dcop → List (List ℕ) → List NodeRow
rows_of p paths = rows_with (separator_of p paths) paths

-- the answer of `tree` on a file: the depth-first tree of its problem, and the number of messages
-- that the search for it takes
abbrev pub IsTreeAnswer : TextFile → Answer → Type 0
IsTreeAnswer file (answers.Tree deliveries nodes names) =
    (deliveries ≡ token_deliveries file.problem) × (nodes ≡ rows_of file.problem (dfs file.problem)) × (names ≡ file.names)
IsTreeAnswer file answer = ⊥

-- the answer of `tree` on a text that declares this: it is the answer on the file of the text,
-- whose joints follow from the tables
pub record AnswersTree (d : Declared) (answer : Answer) : Type 0 where
  pub file : TextFile
  pub whole : IsProblem file.problem
  pub declared : declared_by file ≡ d
  pub is : IsTreeAnswer file answer
