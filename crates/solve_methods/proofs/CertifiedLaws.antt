-- The certificate of a report of DPOP: it fits the file, holds, and can be told.
use Rattle.std.proofs.Common.{◌≡◌, ℕ, List, length, Option, Some, None, IfSome, is_some, sym, subst, ◌∙◌, All}
use Rattle.std.proofs.lemmas.List.Elements.{All-weaker}
use Rattle.dcop_base.specs.Problem.{Dcop, IsAssignment, cost}
use Rattle.dcop_base.specs.Whole.{IsProblem}
use Rattle.pseudotree.specs.DepthFirst.{dfs, DepthFirstTreesAreLinked}
use Rattle.problem_text.specs.File.{TextFile, IsFile}
use Rattle.certificate_text.specs.declared.certificate.Certificate.{Certificate}
use Rattle.certificate_text.specs.declared.certificate.Certificate.TheVariants.{Tables, Log, Cut}
use Rattle.certificate_text.specs.declared.certificate.Util.{Util}
use Rattle.certificate_text.specs.declared.report.Report.{Report}
use Rattle.certificate_text.specs.declared.report.Ending.TheVariants.{Solved}
use Rattle.certificate_text.specs.declared.report.Method.TheVariants.{Dpop}
use Rattle.certificate_text.specs.Fits.{FitsUtil, FitsTables}
use Rattle.certificate_text.specs.Named.{IsNamedUtil, IsNamedCertificate, CanTell}
use Rattle.minimised_problem.specs.Goal.{problem_solved}
use Rattle.minimised_problem.proofs.SolvedLaws.{solved_problem, solved_sizes}
use Rattle.minimised_problem.specs.Utils.{AreUtilsOf}
use Rattle.solve_methods.specs.Certified.{HasUtilsOf, AreTablesOf, IsCertifiedBy, IsCertified}
use Rattle.solve_methods.specs.Dpop.{dpop_deliveries, IsFirstOfTree, IsDpopReport, AreBestChosen}
use Rattle.solve_methods.specs.declared.dpop.Chosen.{Chosen}
use Rattle.solve_methods.proofs.TellLaws.{CanTell-certified}
use Rattle.minimised_problem.proofs.UtilLaws.{tables_fit, tables_show}

module _ (trees : DepthFirstTreesAreLinked) (file : TextFile) (whole : IsProblem file.problem) where
  -- the tables of the problem solved fit the file's problem
  tables_fit_file : (utils : List Util) → AreUtilsOf (problem_solved file) (dfs (problem_solved file)) utils → FitsTables file.problem.sizes utils
  tables_fit_file utils are =
      let q : Dcop = problem_solved file in
      let whole_q = solved_problem file.goal file.problem whole in
      subst (λ (sizes : List ℕ). FitsTables sizes utils) (solved_sizes file.goal file.problem) (tables_fit q (dfs q) whole_q (trees q whole_q).0 utils are)

  -- so the names of the file can tell a certificate of them
  certificate_named : length file.names ≡ length file.problem.sizes → (certificate : Option Certificate) → IfSome certificate (HasUtilsOf (problem_solved file))
      → IfSome certificate (IsNamedCertificate (length file.names))
  certificate_named named None are = tt
  certificate_named named (Some (Log log)) are = absurd are
  certificate_named named (Some (Cut cut turns)) are = absurd are
  certificate_named named (Some (Tables utils)) are =
      subst (λ (n : ℕ). All (IsNamedUtil n) utils) (sym named)
      (All-weaker (FitsUtil file.problem.sizes) (IsNamedUtil (length file.problem.sizes)) (λ u fits. fits.named) utils (tables_fit_file utils are).each)

  module _ (report : Report) (chosen : Chosen) (best : AreBestChosen file.goal file.problem chosen) (values : report.values ≡ chosen.values) (certificate : report.certificate ≡ chosen.certificate) where
    pub chosen_told : IsFile file → CanTell report file
    chosen_told is_file =
        let named = certificate_named is_file.named chosen.certificate best.certificate in
        CanTell-certified file report is_file (subst (IsAssignment file.problem) (sym values) best.assignment)
        (subst (λ (c : Option Certificate). IfSome c (IsNamedCertificate (length file.names))) (sym certificate) named)

    -- the report of what the agents chose
    pub chosen_form : report.status ≡ Solved → report.method ≡ Dpop → report.goal ≡ file.goal → report.error ≡ 0 → report.deliveries ≡ chosen.deliveries
        → report.cost ≡ cost file.problem report.values → report.lower ≡ report.cost → report.upper ≡ report.cost → IsDpopReport file (is_some chosen.certificate) report
    chosen_form status method goal error deliveries sum lower upper = record {
      status = status;
      method = method;
      goal = goal;
      error = error;
      deliveries = taken;
      first = first;
      cost = sum;
      lower = lower;
      upper = upper;
      certificate = certified chosen.certificate certificate best.certificate;
    } where
      taken : report.deliveries ≡ dpop_deliveries file.problem
      taken = deliveries ∙ best.deliveries

      first : IsFirstOfTree (problem_solved file) report.values
      first = subst (IsFirstOfTree (problem_solved file)) (sym values) best.first

      tables_hold : (utils : List Util) → AreUtilsOf (problem_solved file) (dfs (problem_solved file)) utils → AreTablesOf file report utils
      tables_hold utils are =
          let q : Dcop = problem_solved file in
          let whole_q = solved_problem file.goal file.problem whole in record {
            tables = are;
            fits = tables_fit_file utils are;
            holds = record {
              tables = tables_show q (dfs q) whole_q (trees q whole_q).0 utils are report.values first.optimal;
              cost = sum;
              lower = lower;
              upper = upper;
              error = error;
              deliveries = taken;
              status = status;
            };
          }

      certified : (c : Option Certificate) → report.certificate ≡ c → IfSome c (HasUtilsOf (problem_solved file)) → IsCertified (is_some c) file report
      certified None is are = is
      certified (Some (Log log)) is are = absurd are
      certified (Some (Cut cut turns)) is are = absurd are
      certified (Some (Tables utils)) is are = subst (IsCertifiedBy file report) (sym is) (tables_hold utils are)
