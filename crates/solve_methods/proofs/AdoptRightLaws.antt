-- A report that tells what ADOPT agents of the problem solved have reached is right.
use Rattle.std.proofs.Common.{◌≡◌, ℕ, ◌≤◌, Bool, true, List, length, Option, Some, None, IfSome, is_some, sym, ap, subst, ◌∙◌, arith, All}
use Rattle.dcop_base.specs.Problem.{Dcop, IsAssignment, cost}
use Rattle.dcop_base.specs.Whole.{IsProblem}
use Rattle.dcop_optimum.specs.Goal.{top_of}
use Rattle.dcop_optimum.proofs.OptimumLaws.{some_optimum}
use Rattle.dcop_optimum.proofs.TurnLaws.{sum_to_top}
use Rattle.protocol_steps.specs.AdoptBounds.{lower_bound, upper_bound}
use Rattle.protocol_steps.specs.Effect.{has_ended}
use Rattle.run_laws.specs.TokenLaws.{TokenRuns}
use Rattle.run_laws.specs.AdoptRunLaws.{AdoptBoundsEnclose}
use Rattle.run_laws.specs.AdoptEnd.{AdoptEnds}
use Rattle.run_log.specs.declared.log.LogEvent.{LogEvent}
use Rattle.run_log.specs.LogText.{IsNamedEvent}
use Rattle.problem_text.specs.File.{TextFile, IsFile}
use Rattle.problem_text.specs.declared.file.Goal.{Goal}
use Rattle.problem_text.specs.declared.file.Goal.TheVariants.{Min, Max}
use Rattle.certificate_text.specs.Named.{IsNamedCertificate, CanTell}
use Rattle.certificate_text.specs.declared.certificate.Certificate.{Certificate}
use Rattle.certificate_text.specs.declared.report.Report.{Report}
use Rattle.certificate_text.specs.declared.report.Method.TheVariants.{Adopt}
use Rattle.minimised_problem.specs.Goal.{solved, problem_solved, IsAtMostWorse}
use Rattle.minimised_problem.proofs.SolvedLaws.{solved_problem, solved_sizes}
use Rattle.solve_methods.specs.Certified.{IsLogFor, IsLoggedBy, IsLogged, certificate_of_log}
use Rattle.solve_methods.specs.Goal.{IsRightReport}
use Rattle.solve_methods.specs.Kept.{IsLogOf}
use Rattle.minimised_problem.specs.LogEnds.{least_known, least_shown, lower_for, upper_for, TellsEnd}
use Rattle.minimised_problem.specs.LogHolds.{agents_for}
use Rattle.minimised_problem.proofs.HoldsLaws.{small-gap}
use Rattle.minimised_problem.proofs.GoalLaws.{solved-assigned, right-bounds, right-near, solved-ended}
use Rattle.solve_methods.specs.Adopt.{IsAdoptReport}
use Rattle.solve_methods.specs.Reached.{HaveReached}
use Rattle.solve_methods.specs.declared.adopt.Reached.{Reached}
use Rattle.solve_methods.proofs.NamedLaws.{log_named}
use Rattle.solve_methods.proofs.TellLaws.{CanTell-certified}

-- in the problem solved an assignment costs at most the top sum
solved-top : (goal : Goal) (p : Dcop) → IsProblem p → (values : List ℕ) → IsAssignment (solved goal p) values → cost (solved goal p) values ≤ top_of p
solved-top Min p whole values within = let sum = sum_to_top p whole values within in omega (arith, sum)
solved-top Max p whole values within = let sum = sum_to_top p whole values within in omega (arith, sum)

least-below : (sum : ℕ) (bound : Option ℕ) → least_known sum bound ≤ sum
least-below sum None = omega arith
least-below sum (Some bound) = omega arith

module _ (goal : Goal) (p : Dcop) (whole : IsProblem p) (error budget : ℕ) (certified : Bool) (r : Reached) (is : HaveReached (solved goal p) error budget certified r) where
  -- so what the agents reached is at most the top sum
  pub upper-top : r.upper ≤ top_of p
  upper-top =
      let below = least-below (cost (solved goal p) r.values) (upper_bound is.top) in
      let top = solved-top goal p whole r.values is.assignment in
      let same = is.upper in
      omega (arith, below, top, same)

  pub lower-top : r.lower ≤ top_of p
  lower-top =
      let some = some_optimum (solved goal p) (solved_problem goal p whole) in
      let both = is.enclosed some.0 some.1 in
      let top = upper-top in
      omega (arith, both.0, both.1, top)

-- a report tells what the agents have reached
pub record Tells (file : TextFile) (error : ℕ) (r : Reached) (report : Report) : Type 0 where
  pub status : report.status ≡ r.ending
  pub method : report.method ≡ Adopt
  pub goal : report.goal ≡ file.goal
  pub error_told : report.error ≡ error
  pub deliveries : report.deliveries ≡ r.deliveries
  pub values : report.values ≡ r.values
  pub sum : report.cost ≡ cost file.problem report.values
  pub lower : report.lower ≡ lower_for file.goal file.problem r.lower r.upper
  pub upper : report.upper ≡ upper_for file.goal file.problem r.lower r.upper
  pub certificate : report.certificate ≡ certificate_of_log r.log

module _ (file : TextFile) (error budget : ℕ) (certified : Bool) (r : Reached) (report : Report) (is : HaveReached (problem_solved file) error budget certified r) (tells : Tells file error r report) (whole : IsProblem file.problem) where
  told-sum : report.cost ≡ cost file.problem r.values
  told-sum = tells.sum ∙ ap (cost file.problem) tells.values

  -- it is right
  pub reached-right : IsRightReport file report
  reached-right = record {
    assignment = subst (IsAssignment file.problem) (sym tells.values) (solved-assigned file.goal file.problem r.values is.assignment);
    cost = tells.sum;
    enclosed = λ best optimal.
        let both = right-bounds file.goal file.problem whole r.lower r.upper is.enclosed best optimal in
        let low = tells.lower in
        let high = tells.upper in
        (omega (arith, both.0, low), omega (arith, both.1, high));
    near = λ ended best optimal.
        let over : has_ended is.end ≡ true = solved-ended (has_ended is.end) (sym (tells.status ∙ is.ending) ∙ ended) in
        let close = right-near file.goal file.problem whole r.values is.assignment error (is.near over) best optimal in
        subst (λ (sum : ℕ). IsAtMostWorse file.goal report.error sum best) (sym told-sum)
        (subst (λ (e : ℕ). IsAtMostWorse file.goal e (cost file.problem r.values) best) (sym tells.error_told) close);
    exact = λ other. absurd (other tells.method);
  }

  -- it tells the end of the run
  told-end : TellsEnd file is.end report
  told-end =
      let p = problem_solved file in
      let high : r.upper ≡ least_shown p report.values is.top = is.upper ∙ ap (λ (values : List ℕ). least_shown p values is.top) (sym tells.values) in
      record {
        top = is.top;
        is_top = is.is_top;
        status = tells.status ∙ is.ending;
        delivered = tells.deliveries ∙ is.delivered;
        values = tells.values ∙ is.values;
        sum = tells.sum;
        lower = tells.lower ∙ ap (λ (l : ℕ). lower_for file.goal file.problem l r.upper) is.lower ∙ ap (λ (u : ℕ). lower_for file.goal file.problem (lower_bound is.top) u) high;
        upper = tells.upper ∙ ap (λ (l : ℕ). upper_for file.goal file.problem l r.upper) is.lower ∙ ap (λ (u : ℕ). upper_for file.goal file.problem (lower_bound is.top) u) high;
      }

  -- the log of the run shows that it holds
  log-shows : TokenRuns → AdoptBoundsEnclose → AdoptEnds → (log : List LogEvent) → IsLogOf (agents_for file error) is.play.rounds is.end log → IsLogFor file is.play.rounds is.end report log
  log-shows tokens bounds ends log kept =
      let ran : IsLogOf (agents_for file report.error) is.play.rounds is.end log = subst (λ (e : ℕ). IsLogOf (agents_for file e) is.play.rounds is.end log) (sym tells.error_told) kept in
      record {
        run = ran;
        holds = record {
          end = is.end;
          run = ran.stamped;
          told = told-end;
          near = small-gap tokens bounds file report log is.end whole ran.stamped told-end ends;
        };
      }

  log-certifies : TokenRuns → AdoptBoundsEnclose → AdoptEnds → (o : Option (List LogEvent)) → report.certificate ≡ certificate_of_log o → IfSome o (IsLogOf (agents_for file error) is.play.rounds is.end)
      → IsLogged (is_some o) file is.play.rounds is.end report
  log-certifies tokens bounds ends None certificate kept = certificate
  log-certifies tokens bounds ends (Some log) certificate kept = subst (IsLoggedBy file is.play.rounds is.end report) (sym certificate) (log-shows tokens bounds ends log kept)

  -- it is of the form of a report of ADOPT
  pub reached-form : TokenRuns → AdoptBoundsEnclose → AdoptEnds → IsAdoptReport file error budget certified report
  reached-form tokens bounds ends = record {
    end = is.end;
    play = is.play;
    told = told-end;
    spent = is.spent;
    method = tells.method;
    goal = tells.goal;
    error_told = tells.error_told;
    certificate = subst (λ (b : Bool). IsLogged b file is.play.rounds is.end report) is.asked (log-certifies tokens bounds ends r.log tells.certificate is.logged);
  }

  log-worded : IsFile file → (o : Option (List LogEvent)) → IfSome o (IsLogOf (agents_for file error) is.play.rounds is.end) → IfSome (certificate_of_log o) (IsNamedCertificate (length file.names))
  log-worded is_file None kept = tt
  log-worded is_file (Some log) kept =
      subst (λ (n : ℕ). All (IsNamedEvent n) log) (ap length (solved_sizes file.goal file.problem) ∙ sym is_file.named) (log_named (problem_solved file) error is.end log kept.stamped)

  -- the names of the file can tell it
  pub reached-told : IsFile file → CanTell report file
  reached-told is_file =
      CanTell-certified file report is_file (subst (IsAssignment file.problem) (sym tells.values) (solved-assigned file.goal file.problem r.values is.assignment))
      (subst (λ (c : Option Certificate). IfSome c (IsNamedCertificate (length file.names))) (sym tells.certificate) (log-worded is_file r.log is.logged))
