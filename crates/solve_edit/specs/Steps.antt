-- The effect of one line of an edit session, and how it agrees with the result of the lines.
use Rattle.std.specs.Prelude.{◌≡◌, ℕ, Bool, true, false, List, ◌∷◌, ◌++◌, Option, Some, None, Result, Ok, Err}
use Rattle.problem_text.specs.PlainLines.{Plain}
use Rattle.problem_text.specs.declared.edited.Edited.{Edited}
use Rattle.edit_session.specs.State.{SessionState, IsAnswerNow, answered, edited}
use Rattle.edit_session.specs.Faults.{set_fault, fill_fault, cells_set}
use Rattle.edit_session.specs.declared.fault.SetFault.{SetFault}
use Rattle.edit_session.specs.declared.fault.SetFault.TheVariants as faults
use Rattle.edit_text.specs.declared.kind.EditKind.{EditKind}
use Rattle.edit_text.specs.declared.kind.EditKind.TheVariants as kinds
use Rattle.edit_text.specs.declared.line.EditLine.{EditLine}
use Rattle.edit_text.specs.declared.line.EditLine.TheVariants as lines
use Rattle.problem_text.specs.declared.line_end.LineEnd.{LineEnd}
use Rattle.problem_text.specs.declared.line_end.LineEnd.TheVariants as ends
use Rattle.solve_edit.specs.Running.{EditsTold, Refused, refused, behind, ended, AreLinesTold}
use Rattle.solve_edit.specs.declared.stop.Stop.{Stop}
use Rattle.solve_edit.specs.declared.stop.Stop.TheVariants as stops
use Rattle.solve_edit.specs.declared.playing.Played.{Played}
use Rattle.solve_edit.specs.declared.playing.Played.TheVariants as played

-- the kind of a refused edit
abbrev pub IsKind : SetFault → EditKind → Type 0
IsKind faults.NoTable kind = kind ≡ kinds.NoTable
IsKind faults.NoCell kind = kind ≡ kinds.NoCell
IsKind faults.CostTooLarge kind = kind ≡ kinds.CostTooLarge
IsKind faults.SumTooLarge kind = kind ≡ kinds.SumTooLarge
IsKind faults.NoMemory kind = ⊥

-- the result of an edit, as the effect of its line
abbrev pub IsKindOf : {A : Type 0} → Result A SetFault → Result Played (LineEnd EditKind) → Type 0
IsKindOf (Ok done) result = result ≡ Ok played.Edit
IsKindOf (Err faults.NoTable) result = result ≡ Err (ends.Fault kinds.NoTable)
IsKindOf (Err faults.NoCell) result = result ≡ Err (ends.Fault kinds.NoCell)
IsKindOf (Err faults.CostTooLarge) result = result ≡ Err (ends.Fault kinds.CostTooLarge)
IsKindOf (Err faults.SumTooLarge) result = result ≡ Err (ends.Fault kinds.SumTooLarge)
IsKindOf (Err faults.NoMemory) result = result ≡ Err ends.NoMemory

-- the effect of an edit that has this fault, or none and leads to this state
abbrev pub IsEditPlayed : Option SetFault → SessionState → Result Played (LineEnd EditKind) → SessionState → Type 0
IsEditPlayed (Some fault) next (Err (ends.Fault kind)) after = IsKind fault kind
IsEditPlayed None next (Ok played.Edit) after = after ≡ next
IsEditPlayed fault next (Err ends.NoMemory) after = Unit {0}
IsEditPlayed fault next result after = ⊥

-- the effect of a line in a session with this state, and the state after it
abbrev pub IsLinePlayed : SessionState → EditLine → Result Played (LineEnd EditKind) → SessionState → Type 0
IsLinePlayed s (lines.Set k cell cost) result after = IsEditPlayed (set_fault s.file.problem k cell cost) (edited s k (cells_set s.file.problem.tables k cell cost)) result after
IsLinePlayed s (lines.Fill k cells) result after = IsEditPlayed (fill_fault s.file.problem k cells) (edited s k cells) result after
IsLinePlayed s lines.Answer (Ok (played.Answer answer)) after = IsAnswerNow s answer × (after ≡ answered s)
IsLinePlayed s lines.End (Ok played.End) after = after ≡ s
IsLinePlayed s line (Err ends.NoMemory) after = Unit {0}
IsLinePlayed s line result after = ⊥

-- a line leads a session from one state to another: the result of the later lines, after the optima
-- that the line kept, is the result of all
pub record LeadsSession (l : Plain) (s after : SessionState) (old new : List Edited) : Type 0 where
  pub part : List Edited
  pub kept : new ≡ old ++ part
  pub goes : (last : ℕ) (ls : List Plain) (told : Result EditsTold Refused) → AreLinesTold after last ls told → AreLinesTold s last (l ∷ ls) (behind part told)

-- the session ends at a line, and its state is unchanged
pub record EndsAtLine (l : Plain) (s after : SessionState) (old new : List Edited) : Type 0 where
  pub kept : new ≡ old
  pub same : after ≡ s
  pub ends_so : (last : ℕ) (ls : List Plain) → AreLinesTold s last (l ∷ ls) (ended s ls)

-- the effect of a line on a session and on the optima that are kept
abbrev pub IsLineStep : Plain → SessionState → SessionState → List Edited → List Edited → Result Bool Stop → Type 0
IsLineStep l s after old new (Ok false) = LeadsSession l s after old new
IsLineStep l s after old new (Ok true) = EndsAtLine l s after old new
IsLineStep l s after old new (Err (stops.Refused line kind)) = (last : ℕ) (ls : List Plain) → AreLinesTold s last (l ∷ ls) (refused line kind)
IsLineStep l s after old new (Err stops.NoMemory) = Unit {0}

-- the result of lines in a session
abbrev pub IsRun : SessionState → ℕ → List Plain → Result (List Edited) Stop → SessionState → Type 0
IsRun s last ls (Ok answers) after = AreLinesTold s last ls (Ok (record { answers = answers; file = after.file }))
IsRun s last ls (Err (stops.Refused line kind)) after = AreLinesTold s last ls (refused line kind)
IsRun s last ls (Err stops.NoMemory) after = Unit {0}
