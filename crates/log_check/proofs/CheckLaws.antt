-- What a verdict by the first difference says.
use Rattle.std.proofs.Common.{◌≡◌, ℕ, ◌<◌, List, [], ◌∷◌, length, Option, Some, None, sym, ◌∙◌}
use Rattle.std.specs.List.{AllZip}
use Rattle.std.proofs.lemmas.Option.{none-some}
use Rattle.dcop_base.specs.Table.{AreWithin}
use Rattle.dcop_base.specs.Whole.{IsProblem}
use Rattle.run_log.specs.declared.log.LogEvent.{LogEvent}
use Rattle.problem_text.specs.File.{TextFile}
use Rattle.certificate_text.specs.declared.report.Report.{Report}
use Rattle.certificate_text.specs.declared.verdict.Differs.{Differs}
use Rattle.minimised_problem.specs.Verdict.{verdict_by, ShowsBest}
use Rattle.minimised_problem.specs.Differences.{log_difference}
use Rattle.minimised_problem.specs.LogVerdicts.{IsLogExact}
use Rattle.minimised_problem.specs.LogLaws.{LogsShow, DifferencesAreExact}
use Rattle.log_check.specs.Shows.{ShowsReport}

-- pairs the other way round
pub within_of : (values sizes : List ℕ) → AllZip (λ value size. value < size) values sizes → AreWithin sizes values
within_of [] [] h = h
within_of [] (s ∷ ss) h = absurd h
within_of (v ∷ vs) [] h = absurd h
within_of (v ∷ vs) (s ∷ ss) h = (h.0, within_of vs ss h.1)

module _ (f : TextFile) (r : Report) (log : List LogEvent) (show : LogsShow) (exact : DifferencesAreExact) (whole : IsProblem f.problem) (size : length r.values ≡ length f.problem.sizes) where
  pub exact_by : (o : Option Differs) → log_difference f r log ≡ o → IsLogExact f r log (verdict_by f r o)
  exact_by None is = exact.holds f r log whole size is
  exact_by (Some differs) is = λ holds. none-some differs (sym (exact.none f r log whole holds) ∙ is)

  pub shows_by : (o : Option Differs) → log_difference f r log ≡ o → ShowsReport f r (verdict_by f r o)
  shows_by None is = show f r log whole (exact.holds f r log whole size is)
  shows_by (Some differs) is = tt

  pub best_by : (o : Option Differs) → log_difference f r log ≡ o → ShowsBest f (verdict_by f r o)
  best_by None is = (show f r log whole (exact.holds f r log whole size is)).near
  best_by (Some differs) is = tt
