-- A report that is printed with the log of its run is traced.
use Rattle.std.proofs.Common.{◌≡◌, ℕ, List, drop, Some, None, Ok, sym, subst, ◌∙◌}
use Rattle.dcop_base.specs.Whole.{IsProblem}
use Rattle.protocol_steps.specs.Network.{Network, start_state}
use Rattle.protocol_steps.specs.Run.{run}
use Rattle.problem_text.specs.File.{TextFile, IsFile}
use Rattle.problem_text.specs.Steps.{declared_by}
use Rattle.run_log.specs.declared.log.LogEvent.{LogEvent}
use Rattle.run_log.specs.Logs.{events_of}
use Rattle.minimised_problem.specs.Differences.{fault_in, played}
use Rattle.minimised_problem.specs.LogHolds.{agents_for, HoldsLog}
use Rattle.minimised_problem.proofs.PlayedLaws.{run-lawful, lawful-leads}
use Rattle.solve_printed.specs.Replaying.{log_up_to}
use Rattle.solve_top.specs.Solving.{IsLoggedFor}
use Rattle.solve_answers.proofs.CertificateLaws.{Certifies}
use Rattle.solve_answers.proofs.CheckedLaws.{lawful-up-to}
use Rattle.solve_top.proofs.PrintedLaws.{certified, front_is, again}
use Rattle.solve_answers.proofs.SameLaws.{one_file}
use Rattle.trace_top.specs.Tracing.{TellsRun}
use Rattle.trace_top.specs.declared.words.Asked.{Asked}
use Rattle.trace_laws.specs.Printed.{PrintedReportsAreTraced}

-- the first events of a run are a run
module _ (net end : Network) (log : List LogEvent) (to : ℕ) (ran : run net (events_of log) ≡ Some end) where
  first_ran : run net (events_of (log_up_to (Some to) log)) ≡ Some (played net (log_up_to (Some to) log))
  first_ran =
      let none : fault_in 1 net log ≡ None = (run-lawful 1 net end log ran).0 in
      lawful-leads 1 net (log_up_to (Some to) log) (lawful-up-to net log (Some to) none)

module _ (asked : Asked) (text : List ℕ) (logged : IsLoggedFor asked.format text) where
  abbrev used : ℕ
  used = logged.printed.parts.used

  -- the file that the report was printed for has such a run
  own_run : IsFile logged.printed.file → TellsRun asked (drop used text) logged.printed.file
  own_run is_file =
      let file : TextFile = logged.printed.file in
      let net : Network = start_state (agents_for file logged.printed.report.error) in
      let holds : HoldsLog file logged.printed.report logged.log = subst (Certifies file logged.printed.report) logged.is (certified asked.format text logged.printed).holds in
      record {
        report = logged.printed.report;
        read = again asked.format text logged.printed is_file;
        log = logged.log;
        given = logged.is;
        end = played net (log_up_to (Some asked.to) logged.log);
        ran = first_ran net holds.end logged.log asked.to holds.run.leads;
      }

  -- so has any file that declares the same
  any_run : (file : TextFile) → IsFile file → IsProblem file.problem → declared_by file ≡ logged.printed.parts.declared → TellsRun asked (drop used text) file
  any_run file is_file whole declared =
      let own = certified asked.format text logged.printed in
      let one : file ≡ logged.printed.file = one_file file logged.printed.file whole own.whole (declared ∙ sym own.declared) in
      subst (TellsRun asked (drop used text)) (sym one) (own_run (subst IsFile one is_file))

pub printed_traced : PrintedReportsAreTraced
printed_traced words text asked told short logged = record {
  asked = asked;
  answered = told;
  short = short;
  accepted = record {
    parts = logged.printed.parts;
    front = front_is asked.format text logged.printed;
    runs = any_run asked text logged;
  };
}
