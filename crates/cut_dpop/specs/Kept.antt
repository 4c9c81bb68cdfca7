-- The tables of turns that are kept.
use Rattle.std.specs.Prelude.{◌≡◌, ℕ, Bool, true, false, List, [], ◌∷◌, ◌++◌}
use Rattle.std.specs.List.{AllZip, range_with_len}
use Rattle.dcop_base.specs.Problem.{Dcop}
use Rattle.certificate_text.specs.declared.certificate.Turn.{Turn}
use Rattle.run_laws.specs.Slice.{slice_of}
use Rattle.minimised_problem.specs.Utils.{AreUtilsOf}
use Rattle.cut_dpop.specs.Played.{turn_of}

-- the turn with this number: its values, and the tables of all variables of its slice, in preorder
pub record IsCutTurn (p : Dcop) (paths : List (List ℕ)) (cut : List ℕ) (number : ℕ) (turn : Turn) : Type 0 where
  pub values : turn.values ≡ turn_of p cut number
  pub tables : AreUtilsOf (slice_of p cut (turn_of p cut number)) paths turn.tables

-- the first `count` turns with their tables, in order
abbrev pub AreCutTurns : Dcop → List (List ℕ) → List ℕ → ℕ → List Turn → Type 0
AreCutTurns p paths cut count turns = AllZip (IsCutTurn p paths cut) (range_with_len 0 count) turns

-- the first `count` turns with their tables if tables are kept, and none otherwise
abbrev pub AreTurnsKept : Bool → Dcop → List (List ℕ) → List ℕ → ℕ → List Turn → Type 0
AreTurnsKept true p paths cut count turns = AreCutTurns p paths cut count turns
AreTurnsKept false p paths cut count turns = turns ≡ []

-- if tables are kept, those of a turn with these values and this slice are added after the others
abbrev pub KeepsTurn : Bool → Dcop → List (List ℕ) → List ℕ → List Turn → List Turn → Type 0
KeepsTurn true left paths values old new = (turn : Turn) × (new ≡ old ++ turn ∷ []) × (turn.values ≡ values) × AreUtilsOf left paths turn.tables
KeepsTurn false left paths values old new = new ≡ old

-- if tables are kept, those of the turn with this number are added after the others
abbrev pub IsKeptNext : Bool → Dcop → List (List ℕ) → List ℕ → ℕ → List Turn → List Turn → Type 0
IsKeptNext keep p paths cut number old new = KeepsTurn keep (slice_of p cut (turn_of p cut number)) paths (turn_of p cut number) old new
