-- The result of the lines of an edit session.
use Rattle.std.specs.Prelude.{◌≡◌, ℕ, List, [], ◌∷◌, ◌++◌, Option, Some, None, Result, Ok, Err}
use Rattle.problem_text.specs.File.{TextFile}
use Rattle.problem_text.specs.PlainLines.{Plain}
use Rattle.problem_text.specs.declared.edited.Edited.{Edited}
use Rattle.edit_session.specs.State.{SessionState, IsAnswerNow, answered, edited}
use Rattle.edit_session.specs.Faults.{set_fault, fill_fault, cells_set}
use Rattle.edit_session.specs.declared.fault.SetFault.{SetFault}
use Rattle.edit_session.specs.declared.fault.SetFault.TheVariants as faults
use Rattle.edit_text.specs.EditLines.{line_said}
use Rattle.edit_text.specs.declared.kind.EditKind.{EditKind}
use Rattle.edit_text.specs.declared.kind.EditKind.TheVariants as kinds
use Rattle.edit_text.specs.declared.line.EditLine.{EditLine}
use Rattle.edit_text.specs.declared.line.EditLine.TheVariants as lines

-- the optima that were found, and the file at the end
pub record EditsTold : Type 0 where
  pub answers : List Edited
  pub file : TextFile

-- a line that is refused, and the kind of its fault
pub record Refused : Type 0 where
  pub line : ℕ
  pub kind : EditKind

-- the result if this line is refused
abbrev pub refused : ℕ → EditKind → Result EditsTold Refused
refused line kind = Err (record { line = line; kind = kind })

-- these optima put before those of later lines; if a later line has a fault, the result is this
-- fault alone
abbrev pub behind : List Edited → Result EditsTold Refused → Result EditsTold Refused
behind answers (Ok told) = Ok (record { answers = answers ++ told.answers; file = told.file })
behind answers (Err fault) = Err fault

-- the result if an edit is refused for this fault; there is none if memory runs out
abbrev pub IsRefusedBy : ℕ → SetFault → Result EditsTold Refused → Type 0
IsRefusedBy line faults.NoTable told = told ≡ refused line kinds.NoTable
IsRefusedBy line faults.NoCell told = told ≡ refused line kinds.NoCell
IsRefusedBy line faults.CostTooLarge told = told ≡ refused line kinds.CostTooLarge
IsRefusedBy line faults.SumTooLarge told = told ≡ refused line kinds.SumTooLarge
IsRefusedBy line faults.NoMemory told = ⊥

-- the result of an edit and of the later lines: the edit is refused, or the lines continue from the
-- state after it
abbrev pub IsEditTold : ℕ → Option SetFault → SessionState → (SessionState → Result EditsTold Refused → Type 0) → Result EditsTold Refused → Type 0
IsEditTold line (Some fault) next later told = IsRefusedBy line fault told
IsEditTold line None next later told = later next told

-- the result of a request for the optimum and of the later lines
pub record IsAnswerTold (s : SessionState) (later : SessionState → Result EditsTold Refused → Type 0) (told : Result EditsTold Refused) : Type 0 where
  pub answer : Edited
  pub is : IsAnswerNow s answer
  pub rest : Result EditsTold Refused
  pub goes : later (answered s) rest
  pub told_is : told ≡ behind (answer ∷ []) rest

-- the result of the line `end`, after which no line may have words
abbrev pub ended : SessionState → List Plain → Result EditsTold Refused
ended s [] = Ok (record { answers = []; file = s.file })
ended s (line ∷ lines) = refused line.number kinds.BadLine

-- the result of a line that says this and of the later lines, in a session with this state
abbrev pub IsLineTold : SessionState → ℕ → Result EditLine EditKind → List Plain → (SessionState → Result EditsTold Refused → Type 0) → Result EditsTold Refused → Type 0
IsLineTold s line (Ok (lines.Set k cell cost)) ls later told = IsEditTold line (set_fault s.file.problem k cell cost) (edited s k (cells_set s.file.problem.tables k cell cost)) later told
IsLineTold s line (Ok (lines.Fill k cells)) ls later told = IsEditTold line (fill_fault s.file.problem k cells) (edited s k cells) later told
IsLineTold s line (Ok lines.Answer) ls later told = IsAnswerTold s later told
IsLineTold s line (Ok lines.End) ls later told = told ≡ ended s ls
IsLineTold s line (Err kind) ls later told = told ≡ refused line kind

-- the result of these lines, in order; the line after the input has the number `last`
abbrev pub AreLinesTold : SessionState → ℕ → List Plain → Result EditsTold Refused → Type 0
AreLinesTold s last [] told = told ≡ refused last kinds.NoEnd
AreLinesTold s last (l ∷ ls) told = IsLineTold s l.number (line_said l.words) ls (λ next rest. AreLinesTold next last ls rest) told
