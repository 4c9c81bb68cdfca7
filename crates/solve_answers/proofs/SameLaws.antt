-- A text declares one file, which has one answer of DPOP.
use Rattle.std.proofs.Common.{◌≡◌, ℕ, Bool, List, length, Option, Some, None, sym, ap, ap₂, subst, ◌∙◌}
use Rattle.dcop_base.specs.Whole.{IsProblem}
use Rattle.dcop_base.specs.Graph.{AreJoints}
use Rattle.dcop_base.proofs.UniqueLaws.{AreJoints-unique}
use Rattle.pseudotree.specs.DepthFirst.{DepthFirstTreesAreLinked}
use Rattle.pseudotree.specs.declared.width.Wide.{Wide}
use Rattle.dcop_optimum.specs.TreeOptimum.{FirstOptimaOfTreesAreOne}
use Rattle.problem_text.specs.File.{TextFile}
use Rattle.problem_text.specs.Declarations.{Declared}
use Rattle.problem_text.specs.Steps.{declared_by}
use Rattle.certificate_text.specs.declared.report.Report.{Report}
use Rattle.solve_report.specs.declared.answer.Answer.{Answer}
use Rattle.solve_report.specs.declared.answer.Answer.TheVariants as answers
use Rattle.solve_methods.specs.Dpop.{wide_in, IsDpopReport, IsDpopSolved, IsAnswerBy, AnswersDpop}
use Rattle.minimised_problem.specs.Goal.{solved}
use Rattle.solve_methods.proofs.OneLaws.{one_report}

-- the file that declares this, with these joints
abbrev file_with : Declared → List (ℕ × ℕ) → TextFile
file_with d joints = record {
  version = d.version;
  goal = d.goal;
  names = d.names;
  labels = d.labels;
  problem = record { sizes = d.sizes; tables = d.tables; joints = joints };
}

-- files that declare the same are the same, since their joints follow from the tables
pub one_file : (f g : TextFile) → IsProblem f.problem → IsProblem g.problem → declared_by f ≡ declared_by g → f ≡ g
one_file f g of_f of_g e =
    ap₂ file_with e
    (AreJoints-unique (length g.problem.sizes) g.problem.tables f.problem.joints g.problem.joints
    (subst (λ (d : Declared). AreJoints (length d.sizes) d.tables f.problem.joints) e of_f.joints) of_g.joints)

-- the parts of an answer with a report of DPOP
pub report_in : (file : TextFile) (certified : Bool) (answer : Answer) → IsDpopSolved file certified answer
    → (report : Report) × (answer ≡ answers.Report report file) × IsDpopReport file certified report
report_in file certified (answers.Report report same) is = (report, ap (λ (f : TextFile). answers.Report report f) is.0, is.1)
report_in file certified (answers.Tree deliveries nodes names) is = absurd is
report_in file certified (answers.Many n) is = absurd is
report_in file certified (answers.ManyTurns n) is = absurd is
report_in file certified (answers.WideAgent var cells names) is = absurd is
report_in file certified (answers.WideTotal cells) is = absurd is
report_in file certified (answers.Verdict verdict names) is = absurd is
report_in file certified (answers.Drill summary) is = absurd is
report_in file certified (answers.Replay events agents names) is = absurd is
report_in file certified (answers.Upgraded same) is = absurd is
report_in file certified (answers.UpgradedWcsp bar same) is = absurd is
report_in file certified (answers.Edits optima same) is = absurd is
report_in file certified (answers.WcspText line kind problem) is = absurd is
report_in file certified (answers.ReportText line kind) is = absurd is
report_in file certified (answers.EditText line kind) is = absurd is
report_in file certified (answers.Words at kind) is = absurd is
report_in file certified (answers.ProblemText line kind problem) is = absurd is
report_in file certified answers.Read is = absurd is
report_in file certified answers.Link is = absurd is
report_in file certified (answers.LinkDiffers from to at sent taken links) is = absurd is
report_in file certified (answers.LinkBytes round from_node to_node place sent taken) is = absurd is

module _ (optima : FirstOptimaOfTreesAreOne) (trees : DepthFirstTreesAreLinked) (certified : Bool) where
  -- a file in whose tree this is too wide, or nothing, has one answer of DPOP
  one_by : (file : TextFile) → IsProblem file.problem → (wide : Option Wide) (a b : Answer) → IsAnswerBy file certified wide a → IsAnswerBy file certified wide b → a ≡ b
  one_by file whole (Some wide) a b of_a of_b = of_a ∙ sym of_b
  one_by file whole None a b of_a of_b =
      let in_a = report_in file certified a of_a in
      let in_b = report_in file certified b of_b in
      in_a.1 ∙ ap (λ (r : Report). answers.Report r file) (one_report optima trees file whole certified in_a.0 in_b.0 in_a.2 in_b.2) ∙ sym in_b.1

  -- what a text declares has one answer of DPOP
  pub one_answer : (d : Declared) (a b : Answer) → AnswersDpop d certified a → AnswersDpop d certified b → a ≡ b
  one_answer d a b of_a of_b =
      let same : of_b.file ≡ of_a.file = one_file of_b.file of_a.file of_b.whole of_a.whole (of_b.declared ∙ sym of_a.declared) in
      one_by of_a.file of_a.whole (wide_in (solved of_a.file.goal of_a.file.problem)) a b of_a.is
      (subst (λ (f : TextFile). IsAnswerBy f certified (wide_in (solved f.goal f.problem)) b) same of_b.is)
