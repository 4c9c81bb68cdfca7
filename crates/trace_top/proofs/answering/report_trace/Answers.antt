use Rattle.std.proofs.Common.{◌≡◌, List, Some, length, ap, subst, ◌∙◌}
use Rattle.std.proofs.lemmas.Result.{IfOk-weaker}
use Rattle.protocol_steps.specs.Network.{Network, start_state}
use Rattle.problem_text.specs.File.{IsFile}
use Rattle.problem_text.specs.Steps.{declared_by}
use Rattle.run_log.specs.declared.log.LogEvent.{LogEvent}
use Rattle.report_reader.specs.ReportReading.{report_read}
use Rattle.minimised_problem.specs.LogHolds.{agents_for}
use Rattle.solve_printed.specs.LogReads.{IsLogRead, IsPlayable}
use Rattle.solve_printed.specs.Replaying.{log_up_to}
use Rattle.solve_printed.proofs.ReplayLaws.{shown-fit}
use Rattle.trace_top.specs.Answering.{IsTrace, RepliesTrace}
use Rattle.trace_top.proofs.LogLaws.{trace-read, refusal-read}
use Rattle.trace_top.proofs.answering.report_trace.Goals as goal

pub traced-requires-clause-events : goal.traced-requires-clause-events
traced-requires-clause-events c =
    let count = length c.args.file.problem.sizes in
    let playable = subst (IsPlayable count) c.in-Log.is c.in_ok-error.ensures.playable in
    shown-fit count (Some c.args.asked.to) c.in-Log.log c.as_slice.result.now c.log_up_to.result.now playable.1 c.as_slice.ensures c.log_up_to.ensures

pub returns-in-Log-clause-belongs : goal.returns-in-Log-clause-belongs
returns-in-Log-clause-belongs c =
    let text = c.args.text.now in
    let net : Network = start_state (agents_for c.args.file c.in-Log.error) in
    let whole : IsFile c.args.file = rw (← c.file.view_is) c.file.invariant in
    let given = subst (IsLogRead c.args.before text (report_read text c.args.file)) c.in-Log.is c.in_ok-error.ensures.read in
    let shown : c.log_up_to.result.now ≡ log_up_to (Some c.args.asked.to) c.in-Log.log = c.log_up_to.ensures ∙ ap (log_up_to (Some c.args.asked.to)) c.as_slice.ensures in
    IfOk-weaker c.traced.result (IsTrace c.args.file c.args.asked.from net c.log_up_to.result.now) (RepliesTrace (declared_by c.args.file) c.args.before text c.args.asked)
    (λ reply is. trace-read c.args.file c.args.before text c.args.asked c.in-Log.error c.in-Log.log reply whole c.whole_problem.ensures given
    (subst (λ (log : List LogEvent). IsTrace c.args.file c.args.asked.from net log reply) shown is)) c.traced.ensures.belongs

pub returns-in-Refused-clause-belongs : goal.returns-in-Refused-clause-belongs
returns-in-Refused-clause-belongs c =
    let text = c.args.text.now in
    let whole : IsFile c.args.file = rw (← c.file.view_is) c.file.invariant in
    let given = subst (IsLogRead c.args.before text (report_read text c.args.file)) c.in-Refused.is c.in_ok-error.ensures.read in
    refusal-read c.args.file c.args.before text c.args.asked c.in-Refused.refusal whole c.whole_problem.ensures given
