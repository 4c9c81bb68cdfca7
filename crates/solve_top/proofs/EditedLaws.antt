-- `edit` answers the optima if nothing is too wide and no line is refused.
use Rattle.std.proofs.Common.{take, drop, ◌≡◌, ℕ, ◌+◌, List, [], ◌∷◌, ◌++◌, Option, None, Result, Ok, Err, sym, ap, subst, ◌∙◌}
use Rattle.pseudotree.specs.declared.width.Wide.{Wide}
use Rattle.problem_text.specs.Declarations.{Declared}
use Rattle.problem_text.specs.File.{TextFile}
use Rattle.problem_text.specs.PlainLines.{Plain, plain_lines}
use Rattle.problem_text.specs.declared.edited.Edited.{Edited}
use Rattle.minimised_problem.specs.Goal.{problem_solved}
use Rattle.solve_report.specs.declared.answer.Answer.{Answer}
use Rattle.answer_io.specs.declared.status.Status.TheVariants.{Solved}
use Rattle.answer_io.specs.Statuses.{status_of}
use Rattle.edit_session.specs.State.{SessionState, opened, edited, answered}
use Rattle.edit_session.specs.Faults.{set_fault, fill_fault, cells_set}
use Rattle.edit_session.specs.declared.fault.SetFault.{SetFault}
use Rattle.edit_text.specs.EditLines.{line_said}
use Rattle.edit_text.specs.declared.kind.EditKind.{EditKind}
use Rattle.edit_text.specs.declared.line.EditLine.{EditLine}
use Rattle.edit_text.specs.declared.line.EditLine.TheVariants as said
use Rattle.solve_edit.specs.Editing.{AnswersEdit, IsEditAnswer, IsEditAnswerBy, TellsLines, line_behind, told_answer}
use Rattle.solve_edit.specs.Running.{EditsTold as ToldLines, Refused, AreLinesTold, IsEditTold, IsLineTold, behind, ended}
use Rattle.solve_methods.specs.Dpop.{wide_in}
use Rattle.answer_io.specs.Fronts.{lines_in}
use Rattle.solve_answers.specs.Answering.{IsEditsAnswer}
use Rattle.solve_answers.specs.FitTree.{HasFitTree}
use Rattle.solve_top.specs.Solving.{IsEditedFor}
use Rattle.solve_top.specs.Taken.{AreLinesTaken, IsLineTaken}
use Rattle.solve_answers.proofs.SameLaws.{one_file}

-- optima are answered, and no fault
abbrev AreTold : Result ToldLines Refused → Type 0
AreTold result = (told : ToldLines) × (result ≡ Ok told)

behind_told : (optima : List Edited) (rest : Result ToldLines Refused) → AreTold rest → AreTold (behind optima rest)
behind_told optima rest told = (record { answers = optima ++ told.0.answers; file = told.0.file }, ap (behind optima) told.1)

-- an edit without a fault goes on
edit_told : (line : ℕ) (fault : Option SetFault) (next : SessionState) (later : SessionState → Result ToldLines Refused → Type 0) (told : Result ToldLines Refused)
    → fault ≡ None → (later next told → AreTold told) → IsEditTold line fault next later told → AreTold told
edit_told line fault next later told none goes is = goes (subst (λ (f : Option SetFault). IsEditTold line f next later told) none is)

-- a line that is taken leads to optima if the later lines do
line_told : (s : SessionState) (line : ℕ) (says : Result EditLine EditKind) (ls : List Plain) (later : SessionState → Result ToldLines Refused → Type 0) (taken : TextFile → Type 0) (told : Result ToldLines Refused)
    → ((next : SessionState) (rest : Result ToldLines Refused) → taken next.file → later next rest → AreTold rest)
    → IsLineTaken s.file says ls taken → IsLineTold s line says ls later told → AreTold told
line_told s line (Ok (said.Set k cell price)) ls later taken told goes fine is =
    let next : SessionState = edited s k (cells_set s.file.problem.tables k cell price) in
    edit_told line (set_fault s.file.problem k cell price) next later told fine.0 (λ l. goes next told fine.1 l) is
line_told s line (Ok (said.Fill k cells)) ls later taken told goes fine is =
    let next : SessionState = edited s k cells in edit_told line (fill_fault s.file.problem k cells) next later told fine.0 (λ l. goes next told fine.1 l) is
line_told s line (Ok said.Answer) ls later taken told goes fine is =
    let rest = behind_told (is.answer ∷ []) is.rest (goes (answered s) is.rest fine is.goes) in (rest.0, is.told_is ∙ rest.1)
line_told s line (Ok said.End) ls later taken told goes fine is = (record { answers = []; file = s.file }, is ∙ ap (ended s) fine)
line_told s line (Err kind) ls later taken told goes fine is = absurd fine

-- lines that are taken lead to optima
lines_told : (ls : List Plain) (s : SessionState) (last : ℕ) (told : Result ToldLines Refused) → AreLinesTaken s.file ls → AreLinesTold s last ls told → AreTold told
lines_told [] s last told fine is = absurd fine
lines_told (l ∷ ls) s last told fine is =
    line_told s l.number (line_said l.words) ls (λ next rest. AreLinesTold next last ls rest) (λ next. AreLinesTaken next ls) told
    (λ next rest more goes. lines_told ls next last rest more goes) fine is

told_solved : (told : Result ToldLines Refused) (answer : Answer) → AreTold told → told_answer told answer → status_of answer ≡ Solved
told_solved told answer of is = ap status_of (subst (λ (r : Result ToldLines Refused). told_answer r answer) of.1 is)

-- if nothing is too wide and no line is refused, the optima are answered
fit_solved : (file : TextFile) (before : ℕ) (text : List ℕ) (answer : Answer) → wide_in (problem_solved file) ≡ None → AreLinesTaken file (plain_lines (before + 1) text) → IsEditAnswer file before text answer
    → status_of answer ≡ Solved
fit_solved file before text answer none taken is =
    let lines : TellsLines (opened file) before text answer = subst (λ (wide : Option Wide). IsEditAnswerBy file before text wide answer) none is in
    told_solved lines.told answer (lines_told (plain_lines (before + 1) text) (opened file) (line_behind before text) lines.told taken lines.lines) lines.is

answers_solved : (d : Declared) (before : ℕ) (text : List ℕ) (answer : Answer) (fit : HasFitTree d) → AreLinesTaken fit.file (plain_lines (before + 1) text) → AnswersEdit d before text answer → status_of answer ≡ Solved
answers_solved d before text answer fit taken is =
    let one : is.file ≡ fit.file = one_file is.file fit.file is.whole fit.whole (is.declared ∙ sym fit.declared) in
    fit_solved fit.file before text answer fit.fits taken (subst (λ (f : TextFile). IsEditAnswer f before text answer) one is.is)

pub edits_solved : (text : List ℕ) (answer : Answer) (fits : IsEditedFor text) → IsEditsAnswer text (Ok fits.parts) answer → status_of answer ≡ Solved
edits_solved text answer fits is = answers_solved fits.parts.declared (lines_in (take fits.parts.used text)) (drop fits.parts.used text) answer fits.fits fits.taken is
