-- The answer of DPOP, from what the agents of the problem solved chose.
use Rattle.std.proofs.Common.{◌≡◌, ℕ, ◌-◌, ◌*◌, ◌<◌, Bool, true, false, cond, ltb, List, length, Option, Some, None, is_some, refl, sym, ap, subst, ◌∙◌, arith}
use Rattle.std.specs.List.{position, position_or_len, range_with_len}
use Rattle.std.proofs.lemmas.Bool.{ltb-true}
use Rattle.std.proofs.lemmas.List.FromFn.{length-range_with_len, length-map-range_with_len}
use Rattle.dcop_base.specs.Problem.{Dcop, IsAssignment, cost}
use Rattle.dcop_base.specs.Whole.{IsProblem}
use Rattle.pseudotree.specs.DepthFirst.{dfs, path_in, search_of}
use Rattle.pseudotree.specs.Width.{told, joined_cells, sent_total, first_wide, wide_by}
use Rattle.pseudotree.specs.declared.width.Wide.{Wide}
use Rattle.pseudotree.specs.declared.width.Wide.TheVariants.{Agent, Total}
use Rattle.dcop_base.specs.Limits.{joined_limit, sent_limit}
use Rattle.problem_text.specs.File.{TextFile}
use Rattle.problem_text.specs.Steps.{declared_by}
use Rattle.problem_text.specs.declared.file.Goal.{Goal}
use Rattle.certificate_text.specs.declared.report.Report.{Report}
use Rattle.solve_report.specs.AnswerText.{HasText}
use Rattle.solve_report.specs.declared.answer.Answer.{Answer}
use Rattle.solve_report.specs.declared.answer.Answer.TheVariants as answers
use Rattle.minimised_problem.specs.Goal.{solved, IsBestSum}
use Rattle.minimised_problem.proofs.SolvedLaws.{solved_sizes}
use Rattle.solve_methods.proofs.RightLaws.{right_of_best}
use Rattle.solve_methods.proofs.BestLaws.{best_of}
use Rattle.solve_methods.specs.Goal.{IsRightReport, TellsRight}
use Rattle.solve_methods.specs.Dpop.{wide_in, wide_answer, IsDpopReport, IsAnswerBy, AnswersDpop, HaveAgreed, AreBestChosen}
use Rattle.solve_methods.specs.declared.dpop.Chosen.{Chosen}

pub best_chosen : (goal : Goal) (p : Dcop) → IsProblem p → (chosen : Chosen) → wide_in (solved goal p) ≡ None → HaveAgreed (solved goal p) chosen → AreBestChosen goal p chosen
best_chosen goal p whole chosen fits is =
    let best = best_of goal p whole chosen.values is.first.assignment is.first.optimal in record {
      whole = whole;
      fits = fits;
      first = is.first;
      deliveries = is.deliveries ∙ ap (λ (sizes : List ℕ). 2 * (length sizes - 1)) (solved_sizes goal p);
      assignment = best.0;
      best = best.1;
      certificate = is.certificate;
    }

-- a report of what the agents chose is the answer
pub report_answers : (file : TextFile) (certified : Bool) (report : Report) (chosen : Chosen) → is_some chosen.certificate ≡ certified → AreBestChosen file.goal file.problem chosen
    → IsDpopReport file (is_some chosen.certificate) report → AnswersDpop (declared_by file) certified (answers.Report report file)
report_answers file certified report chosen asked best form = record {
  file = file;
  whole = best.whole;
  declared = refl;
  is =
      subst (λ (wide : Option Wide). IsAnswerBy file certified wide (answers.Report report file)) (sym best.fits)
      (refl, subst (λ (b : Bool). IsDpopReport file b report) asked form);
}

-- and it is right
pub report_right : (file : TextFile) (certified : Bool) (report : Report) (chosen : Chosen) → AreBestChosen file.goal file.problem chosen → IsDpopReport file certified report → report.values ≡ chosen.values
    → IsRightReport file report
report_right file certified report chosen best form values =
    let sum : report.cost ≡ cost file.problem chosen.values = form.cost ∙ ap (cost file.problem) values in
    right_of_best file report (subst (IsAssignment file.problem) (sym values) best.assignment) form.cost (subst (IsBestSum file.goal file.problem) (sym sum) best.best) form.lower form.upper

-- what is too wide is the answer
pub wide_answers : (file : TextFile) (certified : Bool) (wide : Wide) (answer : Answer) → IsProblem file.problem → wide_in (solved file.goal file.problem) ≡ Some wide → answer ≡ wide_answer file.names wide
    → AnswersDpop (declared_by file) certified answer
wide_answers file certified wide answer whole is same = record {
  file = file;
  whole = whole;
  declared = refl;
  is = subst (λ (w : Option Wide). IsAnswerBy file certified w answer) (sym is) same;
}

-- which tells no report
pub wide_right : (names : List (List ℕ)) (wide : Wide) → TellsRight (wide_answer names wide)
wide_right names (Agent var cells) = tt
wide_right names (Total cells) = tt

some_if : (b : Bool) (k i : ℕ) → cond b (Some k) None ≡ Some i → (b ≡ true) × (k ≡ i)
some_if true k i e = (refl, cc)
some_if false k i e = absurd (cc)

-- a place that is found is in the list
position_within : (test : ℕ → Bool) (xs : List ℕ) (i : ℕ) → position test xs ≡ Some i → i < length xs
position_within test xs i e =
    let parts = some_if (ltb (position_or_len test xs) (length xs)) (position_or_len test xs) i e in
    let lt = ltb-true (position_or_len test xs) (length xs) parts.0 in
    subst (λ (k : ℕ). k < length xs) parts.1 lt

-- an agent that is too wide is one of the problem
wide_within : (p : Dcop) (paths : List (List ℕ)) (o : Option ℕ) (var cells : ℕ) → first_wide p paths ≡ o → wide_by p paths o ≡ Some (Agent var cells) → var < length paths
wide_within p paths (Some i) var cells first is =
    let same : i ≡ var = agent_of i var (told (joined_cells p paths i)) cells is in
    let within = position_within (λ k. ltb joined_limit (joined_cells p paths k)) (range_with_len 0 (length paths)) i first in
    let count = length-range_with_len 0 (length paths) in
    omega arith
  where
    agent_of : (i j m n : ℕ) → Some (Agent i m) ≡ Some (Agent j n) → i ≡ j
    agent_of i j m n e = cc
wide_within p paths None var cells first is = absurd (no_agent (ltb sent_limit (sent_total p paths)) (told (sent_total p paths)) var cells is)
  where
    no_agent : (b : Bool) (m var cells : ℕ) → cond b (Some (Total m)) None ≡ Some (Agent var cells) → ⊥
    no_agent true m var cells e = cc
    no_agent false m var cells e = cc

-- so it has its name
pub wide_told : (goal : Goal) (p : Dcop) (names : List (List ℕ)) → length names ≡ length p.sizes → (wide : Wide) → wide_in (solved goal p) ≡ Some wide → HasText (wide_answer names wide)
wide_told goal p names named (Agent var cells) is =
    let q : Dcop = solved goal p in
    let within : var < length (dfs q) = wide_within q (dfs q) (first_wide q (dfs q)) var cells refl is in
    let long : length (dfs q) ≡ length q.sizes = length-map-range_with_len (path_in (search_of q)) 0 (length q.sizes) in
    let same : length q.sizes ≡ length p.sizes = ap length (solved_sizes goal p) in
    omega arith
wide_told goal p names named (Total cells) is = tt
