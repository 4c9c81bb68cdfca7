-- The certificate of a report of a cut: it holds, and the names of the file can tell it.
use Rattle.std.proofs.Common.{◌≡◌, ℕ, ◌*◌, ◌≤◌, Bool, true, false, List, length, Option, IfSome, refl, sym, ap, subst, ◌∙◌, All}
use Rattle.std.proofs.lemmas.List.Elements.{All-weaker}
use Rattle.dcop_base.specs.Problem.{Dcop, IsAssignment, cost}
use Rattle.dcop_base.specs.Whole.{IsProblem}
use Rattle.cost_table.specs.Slices.{ones_at}
use Rattle.cost_table.proofs.ProblemCutLaws.{length-ones_at}
use Rattle.pseudotree.specs.DepthFirst.{dfs}
use Rattle.pseudotree.specs.Pseudotree.{IsPseudotree}
use Rattle.run_laws.specs.Certificate.{IsCutCertificate}
use Rattle.run_laws.specs.Turns.{turn_count}
use Rattle.cut_dpop.specs.Certificate.{KeptTablesCertify}
use Rattle.cut_dpop.specs.End.{IsCutEnd}
use Rattle.cut_dpop.specs.Start.{turn_deliveries}
use Rattle.cut_dpop.specs.declared.run.CutEnd.{CutEnd}
use Rattle.problem_text.specs.File.{TextFile, IsFile}
use Rattle.problem_text.specs.declared.file.Goal.{Goal}
use Rattle.problem_text.specs.declared.file.Goal.TheVariants.{Min, Max}
use Rattle.certificate_text.specs.declared.certificate.Certificate.{Certificate}
use Rattle.certificate_text.specs.declared.certificate.Certificate.TheVariants.{Cut}
use Rattle.certificate_text.specs.declared.certificate.Turn.{Turn}
use Rattle.certificate_text.specs.declared.report.Report.{Report}
use Rattle.certificate_text.specs.declared.report.Ending.TheVariants.{Solved}
use Rattle.certificate_text.specs.Fits.{FitsUtil, FitsCut}
use Rattle.certificate_text.specs.Named.{IsNamedUtil, IsNamedCertificate, CanTell}
use Rattle.certificate_text.specs.Turns.{first_tables}
use Rattle.minimised_problem.specs.Goal.{solved, problem_solved}
use Rattle.minimised_problem.specs.Told.{parents_told}
use Rattle.minimised_problem.specs.Turns.{turn_scopes, turn_cells}
use Rattle.minimised_problem.proofs.SolvedLaws.{solved_sizes}
use Rattle.solve_methods.proofs.TellLaws.{CanTell-certified}
use Rattle.solve_cut.specs.Certified.{IsCutCertified, certificate_if, HasTurns, HasTurnsIf}

-- at the end of a cut stand the tables of all turns, where they are kept
pub has-turns : (keeps : Bool) (file : TextFile) (limit : ℕ) (end : CutEnd) → KeptTablesCertify → IsProblem (problem_solved file) → IsPseudotree (problem_solved file) (dfs (problem_solved file))
    → All (λ s. s ≤ limit) (problem_solved file).sizes → IsCutEnd (problem_solved file) (dfs (problem_solved file)) limit keeps end → HasTurnsIf keeps file end
has-turns false file limit end certify whole pseudo few h = tt
has-turns true file limit end certify whole pseudo few h = record {
  tables = h.tables;
  certified = certify (problem_solved file) (dfs (problem_solved file)) limit end whole pseudo few h;
}

-- the problem solved has as many turns as the file's problem
count-same : (goal : Goal) (p : Dcop) (cut : List ℕ) → turn_count (solved goal p) cut ≡ turn_count p cut
count-same Min p cut = refl
count-same Max p cut = refl

-- they fit the file
turns-fit : (file : TextFile) (end : CutEnd) → HasTurns file end → FitsCut file.problem.sizes end.cut end.tables
turns-fit file end has = subst (λ (sizes : List ℕ). FitsCut sizes end.cut end.tables) (solved_sizes file.goal file.problem) has.certified.fits

-- a report with them holds, and its certificate is one of the cut exactly where it is asked for
pub certified : (keeps : Bool) (file : TextFile) (end : CutEnd) (report : Report) → HasTurnsIf keeps file end → report.values ≡ end.values → report.status ≡ Solved → report.error ≡ 0
    → report.deliveries ≡ turn_count file.problem end.cut * turn_deliveries file.problem → report.cost ≡ cost file.problem report.values → report.lower ≡ report.cost → report.upper ≡ report.cost
    → report.certificate ≡ certificate_if keeps end.cut end.tables → IsCutCertified keeps file end.cut report
certified false file end report has values status error deliveries sum lower upper is = is
certified true file end report has values status error deliveries sum lower upper is =
    let q : Dcop = problem_solved file in (
      end.tables,
      is,
      record {
        tables = has.tables;
        fits = turns-fit file end has;
        holds = record {
          tables =
              subst (λ (vs : List ℕ). IsCutCertificate q (parents_told q (first_tables end.tables)) end.cut (turn_scopes q end.cut end.tables) (turn_cells q end.cut end.tables) vs)
              (sym values) has.certified.certificate;
          cost = sum;
          lower = lower;
          upper = upper;
          error = error;
          deliveries = deliveries ∙ ap (λ (n : ℕ). n * turn_deliveries file.problem) (sym (has.certified.count ∙ count-same file.goal file.problem end.cut));
          status = status;
        };
      },
    )

-- turns that fit name only variables
turns-named : (sizes cut : List ℕ) (turns : List Turn) → FitsCut sizes cut turns → IsNamedCertificate (length sizes) (Cut cut turns)
turns-named sizes cut turns fits = (
  fits.within,
  λ k d lt. All-weaker (FitsUtil (ones_at cut sizes)) (IsNamedUtil (length sizes)) (λ u one. subst (λ (n : ℕ). IsNamedUtil n u) (length-ones_at cut sizes) one.named) _ (fits.tables k d lt).each,
)

certificate-named : (keeps : Bool) (file : TextFile) (end : CutEnd) (n : ℕ) → HasTurnsIf keeps file end → n ≡ length file.problem.sizes → IfSome (certificate_if keeps end.cut end.tables) (IsNamedCertificate n)
certificate-named false file end n has named = tt
certificate-named true file end n has named =
    subst (λ (m : ℕ). IsNamedCertificate m (Cut end.cut end.tables)) (sym named) (turns-named file.problem.sizes end.cut end.tables (turns-fit file end has))

-- so the names of the file can tell a report with them
pub told : (keeps : Bool) (file : TextFile) (end : CutEnd) (report : Report) → IsFile file → HasTurnsIf keeps file end → IsAssignment file.problem report.values
    → report.certificate ≡ certificate_if keeps end.cut end.tables → CanTell report file
told keeps file end report is_file has assignment is =
    CanTell-certified file report is_file assignment
    (subst (λ (c : Option Certificate). IfSome c (IsNamedCertificate (length file.names))) (sym is) (certificate-named keeps file end (length file.names) has is_file.named))
