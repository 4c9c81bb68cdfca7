-- What `check` and `replay` answer on a report whose certificate holds.
use Rattle.std.proofs.Common.{◌≡◌, ℕ, zero, suc, ◌+◌, List, [], ◌∷◌, take, Option, Some, None, Ok, IsSomeAnd, refl, sym, ◌∙◌}
use Rattle.std.proofs.lemmas.Option.{none-some}
use Rattle.protocol_steps.specs.Network.{Network, start_state}
use Rattle.protocol_steps.specs.declared.event.EventFault.{EventFault}
use Rattle.problem_text.specs.File.{TextFile}
use Rattle.run_log.specs.declared.log.LogEvent.{LogEvent}
use Rattle.run_log.specs.Logs.{event_of, events_of}
use Rattle.certificate_text.specs.declared.certificate.Certificate.{Certificate}
use Rattle.certificate_text.specs.declared.certificate.Certificate.TheVariants.{Tables, Log, Cut}
use Rattle.certificate_text.specs.declared.report.Report.{Report}
use Rattle.certificate_text.specs.declared.verdict.Differs.{Differs}
use Rattle.certificate_text.specs.declared.verdict.Differs.TheVariants as differences
use Rattle.certificate_text.specs.declared.verdict.Verdict.{Verdict}
use Rattle.certificate_text.specs.declared.verdict.Verdict.TheVariants.{Yes, No}
use Rattle.certificate_check.specs.Verdicts.{IsExactOn}
use Rattle.delivery_core.specs.Faults.{FirstFault}
use Rattle.minimised_problem.specs.Differences.{unlawful, fault_in}
use Rattle.minimised_problem.specs.LogHolds.{agents_for, HoldsLog}
use Rattle.minimised_problem.proofs.PlayedLaws.{or_none, or_parts, run-lawful}
use Rattle.log_check.proofs.DifferLaws.{fault_told}
use Rattle.protocol_steps.specs.Effect.{effect}
use Rattle.protocol_steps.specs.Run.{event_fault}
use Rattle.solve_report.specs.declared.answer.Answer.{Answer}
use Rattle.solve_report.specs.declared.answer.Answer.TheVariants as answers
use Rattle.solve_printed.specs.Checking.{IsReadAnswer}
use Rattle.solve_printed.specs.Replaying.{log_up_to, IsReplay}
use Rattle.answer_io.specs.Statuses.{status_of, status_of_verdict}
use Rattle.answer_io.specs.declared.status.Status.TheVariants.{Solved}
use Rattle.solve_answers.proofs.CertificateLaws.{Certifies}

-- the checker says yes to a certificate that holds
verdict_yes : (file : TextFile) (report : Report) (certificate : Option Certificate) (verdict : Verdict) → Certifies file report certificate
    → IsSomeAnd certificate (IsExactOn file report verdict) → status_of_verdict verdict ≡ Solved
verdict_yes file report None verdict holds exact = absurd holds
verdict_yes file report (Some (Tables utils)) (Yes cost error) holds exact = refl
verdict_yes file report (Some (Tables utils)) (No differs) holds exact = absurd (exact holds)
verdict_yes file report (Some (Log log)) (Yes cost error) holds exact = refl
verdict_yes file report (Some (Log log)) (No differs) holds exact = absurd (exact holds)
verdict_yes file report (Some (Cut cut turns)) (Yes cost error) holds exact = refl
verdict_yes file report (Some (Cut cut turns)) (No differs) holds exact = absurd (exact holds)

pub read_solved : (file : TextFile) (before : ℕ) (report : Report) (answer : Answer) → IsReadAnswer file before (Ok report) answer → Certifies file report report.certificate
    → status_of answer ≡ Solved
read_solved file before report (answers.Verdict verdict names) is holds = verdict_yes file report report.certificate verdict holds is.2
read_solved file before report (answers.Report other same) is holds = absurd is
read_solved file before report (answers.Tree deliveries nodes names) is holds = absurd is
read_solved file before report (answers.Drill summary) is holds = absurd is
read_solved file before report (answers.Replay events agents names) is holds = absurd is
read_solved file before report (answers.Upgraded same) is holds = absurd is
read_solved file before report (answers.UpgradedWcsp bar same) is holds = absurd is
read_solved file before report (answers.Edits optima same) is holds = absurd is
read_solved file before report (answers.Words at kind) is holds = absurd is
read_solved file before report (answers.ProblemText line kind problem) is holds = absurd is
read_solved file before report (answers.WcspText line kind problem) is holds = absurd is
read_solved file before report (answers.ReportText line kind) is holds = absurd is
read_solved file before report (answers.EditText line kind) is holds = absurd is
read_solved file before report (answers.Many n) is holds = absurd is
read_solved file before report (answers.ManyTurns n) is holds = absurd is
read_solved file before report (answers.WideAgent var cells names) is holds = absurd is
read_solved file before report (answers.WideTotal cells) is holds = absurd is
read_solved file before report answers.Read is holds = absurd is
read_solved file before report answers.Link is holds = absurd is
read_solved file before report (answers.LinkDiffers from to at sent taken links) is holds = absurd is
read_solved file before report (answers.LinkBytes round from_node to_node place sent taken) is holds = absurd is

-- the first events of a run are lawful
lawful-first : (k : ℕ) (net : Network) (log : List LogEvent) (after : ℕ) → fault_in k net log ≡ None → fault_in k net (take after log) ≡ None
lawful-first k net log zero none = refl
lawful-first k net [] (suc after) none = refl
lawful-first k net (e ∷ log) (suc after) none =
    let parts = or_parts (unlawful k (event_fault net (event_of e))) (fault_in (k + 1) (effect net (event_of e)) log) none in
    or_none (unlawful k (event_fault net (event_of e))) (fault_in (k + 1) (effect net (event_of e)) (take after log)) parts.0
    (lawful-first (k + 1) (effect net (event_of e)) log after parts.1)

pub lawful-up-to : (net : Network) (log : List LogEvent) (after : Option ℕ) → fault_in 1 net log ≡ None → fault_in 1 net (log_up_to after log) ≡ None
lawful-up-to net log None none = none
lawful-up-to net log (Some after) none = lawful-first 1 net log after none

no_fault : (net : Network) (log : List LogEvent) (place : ℕ) (fault : EventFault) → fault_in 1 net log ≡ None → ¬ FirstFault net (events_of log) place fault
no_fault net log place fault none first = none-some (differences.Event (1 + place) fault) (sym none ∙ fault_told 1 net log place fault first)

-- the replay of a run answers with its end
module _ (file : TextFile) (net : Network) (log : List LogEvent) (none : fault_in 1 net log ≡ None) where
  differs_replayed : (differs : Differs) (names : List (List ℕ)) → ¬ IsReplay file net (events_of log) (answers.Verdict (No differs) names)
  differs_replayed (differences.Event at fault) names is = no_fault net log is.1.0 fault none is.1.2
  differs_replayed (differences.TreeRoots count) names is = is
  differs_replayed (differences.TreeLoop var) names is = is
  differs_replayed (differences.TreePair one other) names is = is
  differs_replayed (differences.Scope var) names is = is
  differs_replayed (differences.Cell var cell value left right) names is = is
  differs_replayed (differences.TurnScope turn var) names is = is
  differs_replayed (differences.TurnCell turn var cell value left right) names is = is
  differs_replayed (differences.Cost left right) names is = is
  differs_replayed (differences.Root left right) names is = is
  differs_replayed (differences.Lower left right) names is = is
  differs_replayed (differences.Upper left right) names is = is
  differs_replayed (differences.Error left right) names is = is
  differs_replayed (differences.Deliveries left right) names is = is
  differs_replayed (differences.Status ending) names is = is
  differs_replayed (differences.Stamp at left right) names is = is
  differs_replayed (differences.Value var) names is = is

  verdict_replayed : (verdict : Verdict) (names : List (List ℕ)) → ¬ IsReplay file net (events_of log) (answers.Verdict verdict names)
  verdict_replayed (Yes cost error) names is = is
  verdict_replayed (No differs) names is = differs_replayed differs names is

  run_replayed : (answer : Answer) → IsReplay file net (events_of log) answer → status_of answer ≡ Solved
  run_replayed (answers.Replay events agents names) is = refl
  run_replayed (answers.Verdict verdict names) is = absurd (verdict_replayed verdict names is)
  run_replayed (answers.Report other same) is = absurd is
  run_replayed (answers.Tree deliveries nodes names) is = absurd is
  run_replayed (answers.Drill summary) is = absurd is
  run_replayed (answers.Upgraded same) is = absurd is
  run_replayed (answers.UpgradedWcsp bar same) is = absurd is
  run_replayed (answers.Edits optima same) is = absurd is
  run_replayed (answers.Words at kind) is = absurd is
  run_replayed (answers.ProblemText line kind problem) is = absurd is
  run_replayed (answers.WcspText line kind problem) is = absurd is
  run_replayed (answers.ReportText line kind) is = absurd is
  run_replayed (answers.EditText line kind) is = absurd is
  run_replayed (answers.Many n) is = absurd is
  run_replayed (answers.ManyTurns n) is = absurd is
  run_replayed (answers.WideAgent var cells names) is = absurd is
  run_replayed (answers.WideTotal cells) is = absurd is
  run_replayed answers.Read is = absurd is
  run_replayed answers.Link is = absurd is
  run_replayed (answers.LinkDiffers from to at sent taken links) is = absurd is
  run_replayed (answers.LinkBytes round from_node to_node place sent taken) is = absurd is

pub log_replayed : (file : TextFile) (report : Report) (log : List LogEvent) (after : Option ℕ) (answer : Answer) → HoldsLog file report log
    → IsReplay file (start_state (agents_for file report.error)) (events_of (log_up_to after log)) answer → status_of answer ≡ Solved
log_replayed file report log after answer holds is =
    let net : Network = start_state (agents_for file report.error) in
    run_replayed file net (log_up_to after log) (lawful-up-to net log after (run-lawful 1 net holds.end log holds.run.leads).0) answer is
