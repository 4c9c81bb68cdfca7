-- The answer of the method cut, from what a cut of the problem solved came to.
use Rattle.std.proofs.Common.{◌≡◌, ℕ, ◌*◌, ◌≤◌, Bool, List, Some, Option, Result, Ok, Err, IfOk, refl, sym, ap, subst, ◌∙◌, arith}
use Rattle.std.specs.Prelude.{IfErr}
use Rattle.std.specs.List.{All}
use Rattle.dcop_base.specs.Limits.{size_limit}
use Rattle.dcop_base.specs.Problem.{Dcop, IsAssignment, cost}
use Rattle.dcop_base.specs.Whole.{IsProblem}
use Rattle.dcop_base.specs.declared.memory.NoMemory.{NoMemory}
use Rattle.dcop_optimum.specs.Optimum.{IsOptimum}
use Rattle.pseudotree.specs.DepthFirst.{dfs, DepthFirstTreesAreLinked}
use Rattle.run_laws.specs.CutSet.{CutSetsAreOne, HasOneCutSet}
use Rattle.run_laws.specs.Kept.{IsCutAnswer, IsOptimal, CutAnswersAreOptimal}
use Rattle.run_laws.specs.Turns.{turn_count}
use Rattle.cut_dpop.specs.Certificate.{KeptTablesCertify}
use Rattle.cut_dpop.specs.End.{IsCutEnd, IsCutRefused}
use Rattle.cut_dpop.specs.Start.{turn_deliveries}
use Rattle.cut_dpop.specs.declared.run.CutEnd.{CutEnd}
use Rattle.cut_dpop.specs.declared.fault.CutFault.{CutFault}
use Rattle.cut_dpop.specs.declared.fault.CutFault.TheVariants.{TooMany, Total}
use Rattle.cut_dpop.specs.declared.fault.CutFault.TheVariants as faults
use Rattle.problem_text.specs.File.{TextFile}
use Rattle.problem_text.specs.Steps.{declared_by}
use Rattle.problem_text.specs.declared.file.Goal.{Goal}
use Rattle.problem_text.specs.declared.file.Goal.TheVariants.{Min, Max}
use Rattle.certificate_text.specs.declared.report.Report.{Report}
use Rattle.certificate_text.specs.declared.report.Ending.TheVariants.{Solved}
use Rattle.certificate_text.specs.declared.report.Method.TheVariants.{Cut}
use Rattle.minimised_problem.specs.Goal.{solved, problem_solved, IsBestSum}
use Rattle.minimised_problem.proofs.SolvedLaws.{solved_problem}
use Rattle.solve_report.specs.declared.answer.Answer.{Answer}
use Rattle.solve_report.specs.declared.answer.Answer.TheVariants as answers
use Rattle.solve_methods.specs.Goal.{IsRightReport}
use Rattle.solve_methods.proofs.BestLaws.{best_of}
use Rattle.solve_methods.proofs.RightLaws.{right_of_best}
use Rattle.solve_cut.specs.Certified.{certificate_if}
use Rattle.solve_cut.specs.Cut.{refusal_of, IsCutReport, IsRefusalAnswer, IsCutAnswerBy, AnswersCut, GivesCut, IsBestCut}
use Rattle.solve_cut.proofs.CertifiedLaws.{has-turns, certified}

-- no size exceeds the limit
pub sizes-few : (p : Dcop) (limit : ℕ) → IsProblem p → size_limit ≤ limit → All (λ s. s ≤ limit) p.sizes
sizes-few p limit whole least k d lt = let small = (whole.sizes k d lt).1 in omega (arith, small, least)

-- so there is exactly one cut
pub one-cut : (p : Dcop) (limit : ℕ) → CutSetsAreOne → DepthFirstTreesAreLinked → IsProblem p → size_limit ≤ limit → HasOneCutSet p (dfs p) limit
one-cut p limit sets trees whole least = sets p (dfs p) limit whole (trees p whole).0 (sizes-few p limit whole least)

-- the problem solved has as many turns and messages as the file's problem
turns-same : (goal : Goal) (p : Dcop) (cut : List ℕ) → turn_count (solved goal p) cut * turn_deliveries (solved goal p) ≡ turn_count p cut * turn_deliveries p
turns-same Min p cut = refl
turns-same Max p cut = refl

-- the values that a cut came to have the best sum
pub best-cut : (file : TextFile) (limit : ℕ) (keeps : Bool) (end : CutEnd) → CutSetsAreOne → CutAnswersAreOptimal → KeptTablesCertify → DepthFirstTreesAreLinked → IsProblem file.problem → size_limit ≤ limit
    → IsCutEnd (problem_solved file) (dfs (problem_solved file)) limit keeps end → IsBestCut file keeps end
best-cut file limit keeps end sets optimal certify trees whole least h =
    let q : Dcop = problem_solved file in
    let whole_q = solved_problem file.goal file.problem whole in
    let is : IsOptimal q end.cost end.values = optimal q (dfs q) end.cut end.cost end.values whole_q ((one-cut q limit sets trees whole_q least).are_cut end.cut h.cut) h.answer in
    let best = best_of file.goal file.problem whole end.values is.assignment (subst (IsOptimum q) (sym is.costs) is.optimum) in record {
      deliveries = h.deliveries ∙ turns-same file.goal file.problem end.cut;
      first = (end.cost, h.answer);
      assignment = best.0;
      best = best.1;
      turns = has-turns keeps file limit end certify whole_q (trees q whole_q).0 (sizes-few q limit whole_q least) h;
    }

-- a report of them is one of a cut
pub cut-form : (file : TextFile) (keeps : Bool) (end : CutEnd) (report : Report) → IsBestCut file keeps end → report.values ≡ end.values → report.status ≡ Solved → report.method ≡ Cut → report.goal ≡ file.goal → report.error ≡ 0
    → report.deliveries ≡ end.deliveries → report.cost ≡ cost file.problem report.values → report.lower ≡ report.cost → report.upper ≡ report.cost → report.certificate ≡ certificate_if keeps end.cut end.tables
    → IsCutReport file end.cut keeps report
cut-form file keeps end report best values status method goal error deliveries sum lower upper certificate = record {
  status = status;
  method = method;
  goal = goal;
  error = error;
  deliveries = deliveries ∙ best.deliveries;
  first = (best.first.0, subst (λ (vs : List ℕ). IsCutAnswer (problem_solved file) (dfs (problem_solved file)) end.cut best.first.0 vs) (sym values) best.first.1);
  cost = sum;
  best = subst (IsBestSum file.goal file.problem) (sym (sum ∙ ap (cost file.problem) values)) best.best;
  lower = lower;
  upper = upper;
  certificate = certified keeps file end report best.turns values status error (deliveries ∙ best.deliveries) sum lower upper certificate;
}

-- it is right
pub cut-right : (file : TextFile) (keeps : Bool) (end : CutEnd) (report : Report) → IsBestCut file keeps end → report.values ≡ end.values → IsCutReport file end.cut keeps report → IsRightReport file report
cut-right file keeps end report best values form = right_of_best file report (subst (IsAssignment file.problem) (sym values) best.assignment) form.cost form.best form.lower form.upper

-- and the answer
pub report-answers : (file : TextFile) (limit : ℕ) (keeps : Bool) (end : CutEnd) (report : Report) → IsProblem file.problem → IsCutEnd (problem_solved file) (dfs (problem_solved file)) limit keeps end
    → IsCutReport file end.cut keeps report → AnswersCut (declared_by file) limit keeps (answers.Report report file)
report-answers file limit keeps end report whole h form = record {
  file = file;
  whole = whole;
  declared = refl;
  cut = end.cut;
  is_cut = h.cut;
  is = subst (λ (o : Option CutFault). IsCutAnswerBy file end.cut keeps o (answers.Report report file)) (sym h.allowed) (record { report = report; is = refl; form = form });
}

refused-answers : (file : TextFile) (limit : ℕ) (keeps : Bool) (one : HasOneCutSet (problem_solved file) (dfs (problem_solved file)) limit) (fault : CutFault) (answer : Answer) → IsProblem file.problem
    → refusal_of (problem_solved file) one.some.0 keeps ≡ Some fault → IsRefusalAnswer fault answer → AnswersCut (declared_by file) limit keeps answer
refused-answers file limit keeps one fault answer whole refused same = record {
  file = file;
  whole = whole;
  declared = refl;
  cut = one.some.0;
  is_cut = one.some.1;
  is = subst (λ (o : Option CutFault). IsCutAnswerBy file one.some.0 keeps o answer) (sym refused) same;
}

-- what refuses the one cut is the answer
pub refusal-answers : (file : TextFile) (limit : ℕ) (keeps : Bool) (fault : CutFault) (result : Result Answer NoMemory) → HasOneCutSet (problem_solved file) (dfs (problem_solved file)) limit → IsProblem file.problem
    → GivesCut (problem_solved file) limit keeps (Err fault) → IfOk result (IsRefusalAnswer fault) → IfOk result (AnswersCut (declared_by file) limit keeps)
refusal-answers file limit keeps (TooMany turns) (Ok answer) one whole gives is = refused-answers file limit keeps one (TooMany turns) answer whole (gives.refused one.some.0 one.some.1) is
refusal-answers file limit keeps (Total cells) (Ok answer) one whole gives is = refused-answers file limit keeps one (Total cells) answer whole (gives.refused one.some.0 one.some.1) is
refusal-answers file limit keeps faults.NoMemory (Ok answer) one whole gives is = absurd is
refusal-answers file limit keeps (TooMany turns) (Err none) one whole gives is = tt
refusal-answers file limit keeps (Total cells) (Err none) one whole gives is = tt
refusal-answers file limit keeps faults.NoMemory (Err none) one whole gives is = tt

-- what a cut on the depth-first tree gives, as its end or by what refuses it
pub given-by : (p : Dcop) (paths : List (List ℕ)) (limit : ℕ) (keeps : Bool) (result : Result CutEnd CutFault) → paths ≡ dfs p → IfOk result (IsCutEnd p paths limit keeps) → IfErr result (IsCutRefused p paths limit keeps)
    → GivesCut p limit keeps result
given-by p paths limit keeps (Ok end) same is refused = subst (λ (ps : List (List ℕ)). IsCutEnd p ps limit keeps end) same is
given-by p paths limit keeps (Err fault) same is refused = subst (λ (ps : List (List ℕ)). IsCutRefused p ps limit keeps fault) same refused
