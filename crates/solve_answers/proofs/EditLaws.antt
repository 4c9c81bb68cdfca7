-- What `edit` answers: never a failed reading, and what DPOP reports.
use Rattle.std.proofs.Common.{take, drop, ◌≡◌, ℕ, List, Bool, Option, Some, None, Result, Ok, Err, sym, ap, subst, ◌∙◌}
use Rattle.dcop_base.specs.Problem.{Dcop, cost}
use Rattle.dcop_base.specs.Whole.{IsProblem}
use Rattle.pseudotree.specs.DepthFirst.{dfs, DepthFirstTreesAreLinked}
use Rattle.pseudotree.specs.declared.width.Wide.{Wide}
use Rattle.pseudotree.specs.declared.width.Wide.TheVariants.{Agent, Total}
use Rattle.dcop_optimum.specs.TreeOptimum.{FirstOptimaOfTreesAreOne}
use Rattle.problem_text.specs.Declarations.{Declared}
use Rattle.problem_text.specs.File.{TextFile}
use Rattle.problem_text.specs.Reading.{Parts}
use Rattle.problem_text.specs.Steps.{declared_by}
use Rattle.problem_text.specs.declared.edited.Edited.{Edited}
use Rattle.minimised_problem.specs.Goal.{problem_solved}
use Rattle.minimised_problem.proofs.SolvedLaws.{solved_problem}
use Rattle.certificate_text.specs.declared.report.Report.{Report}
use Rattle.solve_report.specs.declared.answer.Answer.{Answer}
use Rattle.solve_report.specs.declared.answer.Answer.TheVariants as answers
use Rattle.edit_session.specs.State.{SessionState, IsAnswerNow}
use Rattle.solve_edit.specs.Editing.{IsEditAnswerBy, told_answer}
use Rattle.solve_edit.specs.Running.{EditsTold as ToldLines, Refused}
use Rattle.solve_methods.specs.Dpop.{wide_in, wide_answer, IsAnswerBy, AnswersDpop}
use Rattle.answer_io.specs.Fronts.{lines_in}
use Rattle.solve_answers.specs.Answering.{IsEditsAnswer}
use Rattle.solve_answers.proofs.SameLaws.{one_file}

-- no answer of `edit` is a failed reading
wide_sound : (names : List (List ℕ)) (wide : Wide) → ¬ (answers.Read ≡ wide_answer names wide)
wide_sound names (Agent var cells) is = cc is
wide_sound names (Total cells) is = cc is

told_sound : (told : Result ToldLines Refused) → ¬ told_answer told answers.Read
told_sound (Ok told) is = cc is
told_sound (Err fault) is = cc is

answer_sound : (file : TextFile) (before : ℕ) (text : List ℕ) (wide : Option Wide) → ¬ IsEditAnswerBy file before text wide answers.Read
answer_sound file before text None is = told_sound is.told is.is
answer_sound file before text (Some wide) is = wide_sound file.names wide is

pub edits_sound : (bytes : List ℕ) (read : Result Parts Answer) → ¬ (read ≡ Err answers.Read) → ¬ IsEditsAnswer bytes read answers.Read
edits_sound bytes (Ok parts) told is = answer_sound is.file (lines_in (take parts.used bytes)) (drop parts.used bytes) (wide_in (problem_solved is.file)) is.is
edits_sound bytes (Err refusal) told is = told (ap Err (sym is))

-- a report of DPOP is no refusal
report_wide : (report : Report) (file : TextFile) (names : List (List ℕ)) (wide : Wide) → ¬ (answers.Report report file ≡ wide_answer names wide)
report_wide report file names (Agent var cells) is = cc is
report_wide report file names (Total cells) is = cc is

-- an optimum of a session has the values and the cost of a report of DPOP on the file as edited so
-- far
module _ (optima : FirstOptimaOfTreesAreOne) (trees : DepthFirstTreesAreLinked) (s : SessionState) (answer : Edited) (whole : IsProblem s.file.problem) (now : IsAnswerNow s answer) where
  same_by : (certified : Bool) (report : Report) (file : TextFile) (wide : Option Wide) → IsAnswerBy s.file certified wide (answers.Report report file) → (report.values ≡ answer.values) × (report.cost ≡ answer.cost)
  same_by certified report file (Some wide) is = absurd (report_wide report file s.file.names wide is)
  same_by certified report file None is =
      let q : Dcop = problem_solved s.file in
      let whole_q = solved_problem s.file.goal s.file.problem whole in
      let values : report.values ≡ answer.values = (optima q (dfs q) whole_q (trees q whole_q).0).one report.values answer.values is.1.first now.first in
      (values, is.1.cost ∙ ap (cost s.file.problem) values ∙ sym now.cost)

  pub same_as_dpop : (d : Declared) (certified : Bool) (report : Report) (file : TextFile) → d ≡ declared_by s.file → AnswersDpop d certified (answers.Report report file) → (report.values ≡ answer.values) × (report.cost ≡ answer.cost)
  same_as_dpop d certified report file declares is =
      let one : is.file ≡ s.file = one_file is.file s.file is.whole whole (is.declared ∙ declares) in
      same_by certified report file (wide_in (problem_solved s.file))
      (subst (λ (f : TextFile). IsAnswerBy f certified (wide_in (problem_solved f)) (answers.Report report file)) one is.is)
