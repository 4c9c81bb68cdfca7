-- What the parts of an edit and of an answer do: they replace cells, recompute tables from the
-- leaves up, and pick values from the root down.
use Rattle.std.specs.Prelude.{◌≡◌, ℕ, ◌<◌, Bool, false, List, length, Option, if◌then◌else◌}
use Rattle.std.specs.List.{sum_by}
use Rattle.std.specs.Option.{option_map}
use Rattle.dcop_base.specs.Problem.{Dcop}
use Rattle.pseudotree.specs.Pseudotree.{IsPseudotreeOf, IsLinked, RootedTree}
use Rattle.pseudotree.specs.Width.{IsNarrow, joined_cells}
use Rattle.dpop_agent.specs.declared.made.Made.{Made}
use Rattle.edit_session.specs.Held.{AreHeldFrom}
use Rattle.dcop_optimum.specs.Goal.{top_of}
use Rattle.problem_text.specs.File.{TextFile}
use Rattle.edit_session.specs.Edits.{table_at, with_cells}
use Rattle.edit_session.specs.State.{is_touched, touched_by, edited_file}
use Rattle.edit_session.specs.Session.{turned_cells}

-- a narrow and linked pseudotree of a problem, with an entry of kept tables for each agent
pub record IsEditGround (p : Dcop) (tree : RootedTree) (kept : List (Option Made)) : Type 0 where
  pub tree_is : IsPseudotreeOf p tree
  pub linked : IsLinked p tree.paths
  pub narrow : IsNarrow p tree.paths
  pub counted : length kept ≡ length p.sizes

-- the tables that are held of agents and their descendants stay held
pub record StayHeld (p : Dcop) (paths : List (List ℕ)) (old new : List (Option Made)) : Type 0 where
  pub counted : length new ≡ length old
  pub held : (i : ℕ) → AreHeldFrom p paths old i → AreHeldFrom p paths new i

-- the tables of agents that are not touched, and of their descendants, are held
abbrev pub AreOthersHeld : Dcop → List (List ℕ) → List Bool → List (Option Made) → Type 0
AreOthersHeld p paths touched kept = (i : ℕ) → i < length touched → is_touched touched i ≡ false → AreHeldFrom p paths kept i

-- how many cells the joined tables of the touched agents among these have
abbrev pub cells_among : Dcop → List (List ℕ) → List Bool → List ℕ → ℕ
cells_among p paths touched vars = sum_by (λ i. if is_touched touched i then joined_cells p paths i else 0) vars

-- table k of a file has received these cells, and that of the turned problem the turned cells; the
-- agents on the path from the table's deepest variable to the root are touched, and `top` is the
-- sum of the greatest cells
pub record HasReplaced (paths : List (List ℕ)) (k : ℕ) (cells : List ℕ) (file file' : TextFile) (turned turned' : Option Dcop) (touched touched' : List Bool) (top : ℕ) : Type 0 where
  pub file_is : file' ≡ edited_file file k cells
  pub turned_is : turned' ≡ option_map (λ q. with_cells q k (turned_cells cells)) turned
  pub touched_is : touched' ≡ touched_by paths (table_at file.problem k).scope touched
  pub top_is : top ≡ top_of (with_cells file.problem k cells)
