-- A report that was printed with its certificate fits its file, and holds.
use Rattle.std.proofs.Common.{◌≡◌, ℕ, ◌*◌, ◌<◌, ◌≤◌, Bool, true, false, List, [], ◌∷◌, length, Option, Some, None, IfSome, IsTrue, is_some, refl, sym, subst, arith}
use Rattle.std.specs.List.{All, AllZip}
use Rattle.std.proofs.Math.Nat.{mul-le-mul_right}
use Rattle.std.proofs.lemmas.Bool.{false≢true}
use Rattle.std.proofs.lemmas.List.Elements.{All-nil, All-cons, All-head, All-tail, All-weaker}
use Rattle.dcop_base.specs.Limits.{amount_limit, budget_limit, size_limit, turn_limit, variable_limit}
use Rattle.dcop_base.specs.Problem.{Dcop, IsAssignment, cost}
use Rattle.dcop_base.specs.Table.{AreWithin}
use Rattle.dcop_base.specs.Whole.{IsProblem}
use Rattle.dcop_base.proofs.ProblemLaws.{cost-le-cap}
use Rattle.dcop_optimum.specs.Goal.{top_of}
use Rattle.pseudotree.specs.DepthFirst.{dfs}
use Rattle.pseudotree.proofs.SearchLaws.{depth_first_trees_are_linked}
use Rattle.pseudotree.specs.declared.width.Wide.{Wide}
use Rattle.pseudotree.specs.declared.width.Wide.TheVariants.{Agent, Total}
use Rattle.run_laws.proofs.TokenRunLaws.{token_runs}
use Rattle.run_laws.proofs.AdoptRunLaws.{adopt_bounds_enclose}
use Rattle.protocol_steps.specs.declared.event.Take.{Take}
use Rattle.protocol_steps.specs.Adopt.{AdoptView}
use Rattle.protocol_steps.specs.AdoptBounds.{lower_bound}
use Rattle.protocol_steps.specs.Rounds.{link_share, AreShares}
use Rattle.protocol_steps.proofs.ShareLaws.{rounds_are_bounded}
use Rattle.problem_text.specs.File.{TextFile}
use Rattle.problem_text.specs.Declarations.{Declared}
use Rattle.problem_text.specs.Steps.{declared_by}
use Rattle.problem_text.specs.declared.file.Goal.{Goal}
use Rattle.problem_text.specs.declared.file.Goal.TheVariants.{Min, Max}
use Rattle.run_log.specs.declared.log.LogEvent.{LogEvent}
use Rattle.run_log.specs.EventLine.{take_limit}
use Rattle.run_log.specs.LogText.{IsNamedEvent, FitsEvent}
use Rattle.certificate_text.specs.declared.certificate.Certificate.{Certificate}
use Rattle.certificate_text.specs.declared.certificate.Certificate.TheVariants.{Tables, Log, Cut}
use Rattle.certificate_text.specs.declared.report.Method.TheVariants.{Dpop}
use Rattle.certificate_text.specs.declared.report.Report.{Report}
use Rattle.certificate_text.specs.Fits.{FitsCertificate, Fits}
use Rattle.minimised_problem.specs.Goal.{solved, problem_solved}
use Rattle.minimised_problem.specs.Holds.{HoldsTables, HoldsCut}
use Rattle.minimised_problem.proofs.SolvedLaws.{solved_problem, solved_sizes}
use Rattle.minimised_problem.specs.LogEnds.{least_known, lower_for, upper_for, least_shown, TellsEnd}
use Rattle.minimised_problem.specs.LogHolds.{HoldsLog}
use Rattle.minimised_problem.specs.LogLaws.{LogsShow}
use Rattle.minimised_problem.proofs.HoldsLaws.{logs_show}
use Rattle.solve_report.specs.declared.answer.Answer.TheVariants as answers
use Rattle.solve_methods.specs.Adopt.{IsAdoptReport, IsAdoptAnswer}
use Rattle.solve_methods.specs.Auto.{IsAutoBy}
use Rattle.solve_methods.specs.Certified.{IsCertifiedBy, IsLoggedBy}
use Rattle.solve_methods.specs.Dpop.{wide_in, wide_answer, IsDpopReport, IsAnswerBy}
use Rattle.solve_methods.specs.Readable.{IsSmallEvent}
use Rattle.solve_methods.proofs.NamedLaws.{log_named}
use Rattle.solve_methods.proofs.ReadableLaws.{reports_small}
use Rattle.run_laws.specs.Turns.{turn_count}
use Rattle.run_laws.proofs.CutSetLaws.{cut_sets_are_one}
use Rattle.run_laws.proofs.KeptLaws.{cut_answers_are_optimal}
use Rattle.cut_dpop.specs.Start.{turn_deliveries}
use Rattle.cut_dpop.proofs.EndLaws.{few-turns}
use Rattle.cut_dpop.specs.declared.fault.CutFault.{CutFault}
use Rattle.cut_dpop.specs.declared.fault.CutFault.TheVariants as faults
use Rattle.solve_cut.specs.Cut.{IsCutOf, refusal_of, IsCutReport, IsRefusalAnswer, IsCutAnswerBy}
use Rattle.answer_io.specs.InputTold.{DeclaredInput}
use Rattle.solve_answers.specs.declared.task.FileTask.{FileTask}
use Rattle.solve_answers.specs.declared.task.FileTask.TheVariants as tasks
use Rattle.solve_answers.specs.Answering.{IsUpgraded, IsFileAnswer}
use Rattle.solve_answers.specs.Served.{IsFileTaskInRange}

-- a certificate with which a report holds
abbrev pub Certifies : TextFile → Report → Option Certificate → Type 0
Certifies file report None = ⊥
Certifies file report (Some (Tables utils)) = HoldsTables file report utils
Certifies file report (Some (Log log)) = HoldsLog file report log
Certifies file report (Some (Cut cut turns)) = HoldsCut file report cut turns

-- a report with a certificate, on a file that declares this: it fits the file, and holds
pub record IsCertified (d : Declared) (file : TextFile) (report : Report) : Type 0 where
  pub whole : IsProblem file.problem
  pub declared : declared_by file ≡ d
  pub fits : Fits report file
  pub holds : Certifies file report report.certificate

some_none : (certificate : Option Certificate) → certificate ≡ None → ¬ IsTrue (is_some certificate)
some_none certificate is some = false≢true (subst (λ (c : Option Certificate). is_some c ≡ true) is some)

-- values of the problem solved are values of the file
zip_within : (sizes values : List ℕ) → AreWithin sizes values → AllZip (λ value size. value < size) values sizes
zip_within [] [] within = tt
zip_within [] (v ∷ vs) within = absurd within
zip_within (s ∷ ss) [] within = absurd within
zip_within (s ∷ ss) (v ∷ vs) within = (within.0, zip_within ss vs within.1)

values_fit : (goal : Goal) (p : Dcop) (values : List ℕ) → IsAssignment (solved goal p) values → AllZip (λ value size. value < size) values p.sizes
values_fit Min p values is = zip_within p.sizes values is
values_fit Max p values is = zip_within p.sizes values is

-- a report of DPOP
tables_fit : (file : TextFile) (report : Report) (certificate : Option Certificate) → report.method ≡ Dpop → IsCertifiedBy file report certificate
    → IfSome certificate (FitsCertificate file.problem.sizes report.method)
tables_fit file report None method is = absurd is
tables_fit file report (Some (Tables utils)) method is = (method, is.fits)
tables_fit file report (Some (Log log)) method is = absurd is
tables_fit file report (Some (Cut cut turns)) method is = absurd is

tables_hold : (file : TextFile) (report : Report) (certificate : Option Certificate) → IsCertifiedBy file report certificate → Certifies file report certificate
tables_hold file report None is = absurd is
tables_hold file report (Some (Tables utils)) is = is.holds
tables_hold file report (Some (Log log)) is = absurd is
tables_hold file report (Some (Cut cut turns)) is = absurd is

dpop_certified : (d : Declared) (file : TextFile) (report : Report) → IsProblem file.problem → declared_by file ≡ d → IsDpopReport file true report → IsCertified d file report
dpop_certified d file report whole declared is =
    let most = cost-le-cap file.problem report.values whole in
    let cheap : report.cost ≤ amount_limit = omega (arith, most, is.cost) in record {
      whole = whole;
      declared = declared;
      fits = record {
        values = values_fit file.goal file.problem report.values is.first.assignment;
        error = omega (arith, is.error);
        deliveries = omega (arith, is.deliveries, whole.few);
        cost = cheap;
        lower = omega (arith, cheap, is.lower);
        upper = omega (arith, cheap, is.upper);
        certificate = tables_fit file report report.certificate is.method is.certificate;
        goal = is.goal;
      };
      holds = tables_hold file report report.certificate is.certificate;
    }

-- a report of ADOPT: its bounds are amounts
least-le : (sum : ℕ) (bound : Option ℕ) → least_known sum bound ≤ sum
least-le sum None = omega arith
least-le sum (Some bound) = omega arith

lower-le : (v : AdoptView) → lower_bound v ≤ amount_limit
lower-le v = omega arith

lower_small : (goal : Goal) (p : Dcop) (lower upper : ℕ) → IsProblem p → lower ≤ amount_limit → lower_for goal p lower upper ≤ amount_limit
lower_small Min p lower upper whole small = small
lower_small Max p lower upper whole small = let most : top_of p ≤ amount_limit = whole.sums in omega (arith, most)

upper_small : (goal : Goal) (p : Dcop) (values : List ℕ) (lower : ℕ) (bound : Option ℕ) → IsProblem p → upper_for goal p lower (least_known (cost (solved goal p) values) bound) ≤ amount_limit
upper_small Min p values lower bound whole =
    let most = cost-le-cap p values whole in
    let least = least-le (cost p values) bound in omega (arith, most, least)
upper_small Max p values lower bound whole = let most : top_of p ≤ amount_limit = whole.sums in omega (arith, most)

-- a log of few agents and small events can be read again
small_counts : (ts : List Take) → AreShares ts → All (λ t. t.count ≤ take_limit) ts
small_counts ts h = All-weaker (λ (t : Take). t.count ≤ link_share) (λ (t : Take). t.count ≤ take_limit) (λ t few. omega (arith, few)) ts h

events_fit : (n : ℕ) (log : List LogEvent) → All (IsNamedEvent n) log → All IsSmallEvent log → All (FitsEvent n) log
events_fit n [] named small = All-nil (FitsEvent n)
events_fit n (e ∷ log) named small =
    let one = All-head IsSmallEvent e log small in
    All-cons (FitsEvent n) e log (record { named = All-head (IsNamedEvent n) e log named; stamp = one.0; counts = small_counts e.takes one.1 })
    (events_fit n log (All-tail (IsNamedEvent n) e log named) (All-tail IsSmallEvent e log small))

module _ (d : Declared) (file : TextFile) (report : Report) (error budget : ℕ) (whole : IsProblem file.problem) (declared : declared_by file ≡ d) (small : error ≤ amount_limit)
    (within : budget ≤ budget_limit) (is : IsAdoptReport file error budget true report) where
  -- with this log
  logged_with : (log : List LogEvent) → report.certificate ≡ Some (Log log) → IsLoggedBy file is.play.rounds is.end report (Some (Log log)) → IsCertified d file report
  logged_with log here logged =
      let readable = reports_small rounds_are_bounded file error budget true report whole within is in
      let shows : LogsShow = logs_show token_runs adopt_bounds_enclose in
      let shown = shows file report log whole logged.holds in
      let told : TellsEnd file is.end report = is.told in
      let most = cost-le-cap file.problem report.values whole in
      let named : All (IsNamedEvent (length file.problem.sizes)) log =
      subst (λ (ss : List ℕ). All (IsNamedEvent (length ss)) log) (solved_sizes file.goal file.problem) (log_named (problem_solved file) report.error is.end log logged.run.stamped) in
      let certificate : IfSome (Some (Log log)) (FitsCertificate file.problem.sizes report.method) = (is.method, events_fit (length file.problem.sizes) log named (readable.1 log here)) in
      let lower = lower_small file.goal file.problem (lower_bound told.top) (least_shown (problem_solved file) report.values told.top) whole (lower-le told.top) in
      let upper = upper_small file.goal file.problem report.values (lower_bound told.top) _ whole in record {
        whole = whole;
        declared = declared;
        fits = record {
          values = zip_within file.problem.sizes report.values shown.assignment;
          error = omega (arith, small, is.error_told);
          deliveries = readable.0;
          cost = omega (arith, most, told.sum);
          lower = subst (λ (n : ℕ). n ≤ amount_limit) (sym told.lower) lower;
          upper = subst (λ (n : ℕ). n ≤ amount_limit) (sym told.upper) upper;
          certificate = subst (λ (c : Option Certificate). IfSome c (FitsCertificate file.problem.sizes report.method)) (sym here) certificate;
          goal = is.goal;
        };
        holds = subst (Certifies file report) (sym here) logged.holds;
      }

  by_certificate : (certificate : Option Certificate) → report.certificate ≡ certificate → IsLoggedBy file is.play.rounds is.end report certificate → IsCertified d file report
  by_certificate None here logged = absurd logged
  by_certificate (Some (Tables utils)) here logged = absurd logged
  by_certificate (Some (Cut cut turns)) here logged = absurd logged
  by_certificate (Some (Log log)) here logged = logged_with log here logged

  adopt_certified : IsCertified d file report
  adopt_certified = by_certificate report.certificate refl is.certificate

-- a report of a cut: so few turns take few messages
few_turns : (goal : Goal) (p : Dcop) (cut : List ℕ) → turn_count (solved goal p) cut ≤ turn_limit → turn_count p cut ≤ turn_limit
few_turns Min p cut few = few
few_turns Max p cut few = few

few_deliveries : (deliveries turns each : ℕ) → deliveries ≡ turns * each → turns ≤ turn_limit → each ≤ 2 * variable_limit → deliveries ≤ amount_limit
few_deliveries deliveries turns each is few small = let low : turns * each ≤ turn_limit * each = mul-le-mul_right each few in omega (arith, low, is, small)

-- no domain size exceeds the limit
few_values : (p : Dcop) (limit : ℕ) → IsProblem p → size_limit ≤ limit → All (λ s. s ≤ limit) p.sizes
few_values p limit whole least k d lt = let small = (whole.sizes k d lt).1 in omega (arith, small, least)

module _ (d : Declared) (file : TextFile) (report : Report) (limit : ℕ) (cut : List ℕ) (whole : IsProblem file.problem) (declared : declared_by file ≡ d) (least : size_limit ≤ limit) (is_cut : IsCutOf (problem_solved file) limit cut)
    (allowed : refusal_of (problem_solved file) cut true ≡ None) (is : IsCutReport file cut true report) where
  -- its values are an assignment
  cut_assignment : IsAssignment (problem_solved file) report.values
  cut_assignment =
      let q : Dcop = problem_solved file in
      let whole_q = solved_problem file.goal file.problem whole in
      let are_cut = (cut_sets_are_one q (dfs q) limit whole_q (depth_first_trees_are_linked q whole_q).0 (few_values q limit whole_q least)).are_cut cut is_cut in
      (cut_answers_are_optimal q (dfs q) cut is.first.0 report.values whole_q are_cut is.first.1).assignment

  -- and its number of messages is an amount
  cut_deliveries : report.deliveries ≤ amount_limit
  cut_deliveries =
      let few = few_turns file.goal file.problem cut (few-turns (problem_solved file) (dfs (problem_solved file)) cut true allowed) in
      let each : turn_deliveries file.problem ≤ 2 * variable_limit = omega (arith, whole.few) in
      few_deliveries report.deliveries (turn_count file.problem cut) (turn_deliveries file.problem) is.deliveries few each

  cut_certified : IsCertified d file report
  cut_certified =
      let most = cost-le-cap file.problem report.values whole in
      let cheap : report.cost ≤ amount_limit = omega (arith, most, is.cost) in
      let told : report.certificate ≡ Some (Cut cut is.certificate.0) = is.certificate.1 in
      let turns = is.certificate.2 in
      let certificate : IfSome (Some (Cut cut is.certificate.0)) (FitsCertificate file.problem.sizes report.method) = (is.method, turns.fits) in
      record {
        whole = whole;
        declared = declared;
        fits = record {
          values = values_fit file.goal file.problem report.values cut_assignment;
          error = omega (arith, is.error);
          deliveries = cut_deliveries;
          cost = cheap;
          lower = omega (arith, cheap, is.lower);
          upper = omega (arith, cheap, is.upper);
          certificate = subst (λ (c : Option Certificate). IfSome c (FitsCertificate file.problem.sizes report.method)) (sym told) certificate;
          goal = is.goal;
        };
        holds = subst (Certifies file report) (sym told) turns.holds;
      }

-- an answer with a report is about its own file
wide_no_report : (names : List (List ℕ)) (wide : Wide) (report : Report) (file : TextFile) → ¬ (answers.Report report file ≡ wide_answer names wide)
wide_no_report names (Agent var cells) report file e = cc
wide_no_report names (Total cells) report file e = cc

no_refusal_report : (fault : CutFault) (report : Report) (file : TextFile) → ¬ IsRefusalAnswer fault (answers.Report report file)
no_refusal_report (faults.TooMany turns) report file is = cc is
no_refusal_report (faults.Total cells) report file is = cc is
no_refusal_report faults.NoMemory report file is = is

module _ (d : Declared) (report : Report) (file same : TextFile) (whole : IsProblem file.problem) (declared : declared_by file ≡ d) (some : IsTrue (is_some report.certificate)) where
  by_dpop : (certified : Bool) → (same ≡ file) × IsDpopReport file certified report → IsCertified d same report
  by_dpop false is = absurd (some_none report.certificate is.1.certificate some)
  by_dpop true is = subst (λ (f : TextFile). IsCertified d f report) (sym is.0) (dpop_certified d file report whole declared is.1)

  by_wide : (certified : Bool) (wide : Option Wide) → IsAnswerBy file certified wide (answers.Report report same) → IsCertified d same report
  by_wide certified None is = by_dpop certified is
  by_wide certified (Some wide) is = absurd (wide_no_report file.names wide report same is)

  by_adopt : (error budget : ℕ) (certified : Bool) → (error ≤ amount_limit) × (budget ≤ budget_limit) → IsAdoptAnswer file error budget certified (answers.Report report same) → IsCertified d same report
  by_adopt error budget false small is = absurd (some_none report.certificate is.1.certificate some)
  by_adopt error budget true small is = subst (λ (f : TextFile). IsCertified d f report) (sym is.0) (adopt_certified d file report error budget whole declared small.0 small.1 is.1)

  by_auto : (error budget : ℕ) (certified : Bool) (wide : Option Wide) → (error ≤ amount_limit) × (budget ≤ budget_limit) → IsAutoBy file error budget certified wide (answers.Report report same) → IsCertified d same report
  by_auto error budget certified None small is = by_dpop certified is
  by_auto error budget certified (Some wide) small is = by_adopt error budget certified small is

  by_cut : (limit : ℕ) (cut : List ℕ) (certified : Bool) → size_limit ≤ limit → IsCutOf (problem_solved file) limit cut → refusal_of (problem_solved file) cut certified ≡ None → IsCutReport file cut certified report → same ≡ file
      → IsCertified d same report
  by_cut limit cut false least is_cut allowed is own = absurd (some_none report.certificate is.certificate some)
  by_cut limit cut true least is_cut allowed is own = subst (λ (f : TextFile). IsCertified d f report) (sym own) (cut_certified d file report limit cut whole declared least is_cut allowed is)

  by_refusal : (limit : ℕ) (cut : List ℕ) (certified : Bool) (refusal : Option CutFault) → size_limit ≤ limit → IsCutOf (problem_solved file) limit cut → refusal_of (problem_solved file) cut certified ≡ refusal
      → IsCutAnswerBy file cut certified refusal (answers.Report report same) → IsCertified d same report
  by_refusal limit cut certified (Some fault) least is_cut refused is = absurd (no_refusal_report fault report same is)
  by_refusal limit cut certified None least is_cut allowed is =
      let told = is.is in
      let one : is.report ≡ report = cc in
      let own : same ≡ file = cc in
      by_cut limit cut certified least is_cut allowed (subst (λ (r : Report). IsCutReport file cut certified r) one is.form) own

upgraded_no_report : (d : Declared) (bar : Option ℕ) (report : Report) (file : TextFile) → ¬ IsUpgraded d bar (answers.Report report file)
upgraded_no_report d None report file is = is
upgraded_no_report d (Some bar) report file is = is

-- a report that any task prints with a certificate
pub task_certified : (task : FileTask) (told : DeclaredInput) (report : Report) (file : TextFile) → IsFileTaskInRange task → IsFileAnswer task told (answers.Report report file) → IsTrue (is_some report.certificate)
    → IsCertified told.declared file report
task_certified tasks.Plain told report file range is some = absurd (some_none report.certificate is.2.certificate some)
task_certified (tasks.Dpop certified) told report file range is some =
    by_wide told.declared report is.file file is.whole is.declared some certified (wide_in (solved is.file.goal is.file.problem)) is.is
task_certified (tasks.Adopt error budget certified) told report file range is some =
    by_adopt told.declared report is.file file is.whole is.declared some error budget certified range is.is
task_certified (tasks.Auto error budget certified) told report file range is some =
    by_auto told.declared report is.file file is.whole is.declared some error budget certified (wide_in (problem_solved is.file)) range is.is
task_certified (tasks.Cut limit certified) told report file range is some =
    by_refusal told.declared report is.file file is.whole is.declared some limit is.cut certified (refusal_of (problem_solved is.file) is.cut certified) range.0 is.is_cut refl is.is
task_certified tasks.Tree told report file range is some = absurd is.is
task_certified tasks.Upgrade told report file range is some = absurd (upgraded_no_report told.declared told.bar report file is)
