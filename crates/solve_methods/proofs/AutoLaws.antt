-- The answer of auto, from what the agents of the problem solved came to.
use Rattle.std.proofs.Common.{◌≡◌, ℕ, Bool, Option, is_some, refl, sym, subst}
use Rattle.dcop_base.specs.Whole.{IsProblem}
use Rattle.pseudotree.specs.declared.width.Wide.{Wide}
use Rattle.problem_text.specs.File.{TextFile}
use Rattle.problem_text.specs.Steps.{declared_by}
use Rattle.certificate_text.specs.declared.report.Report.{Report}
use Rattle.minimised_problem.specs.Goal.{problem_solved}
use Rattle.solve_report.specs.declared.answer.Answer.TheVariants as answers
use Rattle.solve_methods.specs.Adopt.{IsAdoptReport}
use Rattle.solve_methods.specs.Auto.{AnswersAuto, IsAutoBy, IsWide}
use Rattle.solve_methods.specs.Dpop.{AreBestChosen, IsDpopReport}
use Rattle.solve_methods.specs.declared.dpop.Chosen.{Chosen}

-- a report of what DPOP agents chose is the answer
pub chosen_answers : (file : TextFile) (error budget : ℕ) (certified : Bool) (report : Report) (chosen : Chosen) → is_some chosen.certificate ≡ certified → AreBestChosen file.goal file.problem chosen
    → IsDpopReport file (is_some chosen.certificate) report → AnswersAuto (declared_by file) error budget certified (answers.Report report file)
chosen_answers file error budget certified report chosen asked best form = record {
  file = file;
  whole = best.whole;
  declared = refl;
  is =
      subst (λ (wide : Option Wide). IsAutoBy file error budget certified wide (answers.Report report file)) (sym best.fits)
      (refl, subst (λ (b : Bool). IsDpopReport file b report) asked form);
}

-- a report of what ADOPT agents reached is the answer where DPOP is too wide
pub reached_answers : (file : TextFile) (error budget : ℕ) (certified : Bool) (report : Report) → IsProblem file.problem → IsWide (problem_solved file)
    → IsAdoptReport file error budget certified report → AnswersAuto (declared_by file) error budget certified (answers.Report report file)
reached_answers file error budget certified report whole wide form = record {
  file = file;
  whole = whole;
  declared = refl;
  is = subst (λ (w : Option Wide). IsAutoBy file error budget certified w (answers.Report report file)) (sym wide.1) (refl, form);
}
