-- The replies of `dcop_trace` are sound.
use Rattle.std.proofs.Common.{◌≡◌, ◌≢◌, ℕ, List, drop, take, Result, Ok, Err, ap, subst}
use Rattle.problem_text.specs.Reading.{Parts}
use Rattle.report_reader.specs.ReportReading.{report_read}
use Rattle.solve_report.specs.declared.answer.Answer.{Answer}
use Rattle.solve_report.specs.declared.answer.Answer.TheVariants as answers
use Rattle.answer_io.specs.declared.status.Status.{Status}
use Rattle.answer_io.specs.declared.status.Status.TheVariants as statuses
use Rattle.answer_io.specs.Fronts.{front_read, lines_in}
use Rattle.answer_io.proofs.RefusalLaws.{front_told}
use Rattle.program_frame.specs.declared.reply.Reply.TheVariants.{Own, Refused}
use Rattle.program_frame.proofs.WorkLaws.{IsSound}
use Rattle.trace_top.specs.declared.words.Asked.{Asked}
use Rattle.trace_top.specs.Answering.{IsTextReply}
use Rattle.trace_top.specs.Tracing.{IsTraceable, trace_program}
use Rattle.trace_top.proofs.LogLaws.{report-sound, report-well, report-own}

text-read : (bytes : List ℕ) (asked : Asked) (read : Result Parts Answer) → ¬ (read ≡ Err answers.Read) → ¬ IsTextReply bytes asked read (Refused answers.Read)
text-read bytes asked (Ok parts) other is =
    report-sound is.file (lines_in (take parts.used bytes)) (drop parts.used bytes) asked (report_read (drop parts.used bytes) is.file) is.is
text-read bytes asked (Err refusal) other is =
    let same : refusal ≡ answers.Read = cc is in
    other (ap (λ (a : Answer). Err a) same)

text-own : (bytes : List ℕ) (asked : Asked) (read : Result Parts Answer) (text : List ℕ) (status : Status) → IsTextReply bytes asked read (Own text status) → status ≡ statuses.Solved
text-own bytes asked (Ok parts) text status is =
    report-own is.file (lines_in (take parts.used bytes)) (drop parts.used bytes) asked (report_read (drop parts.used bytes) is.file) text status is.is
text-own bytes asked (Err refusal) text status is = cc is

solved-fine : (status : Status) → status ≡ statuses.Solved → (status ≢ statuses.ReadFault) × (status ≢ statuses.WriteFault)
solved-fine status is = (λ e. cc, λ e. cc)

text-well : (bytes : List ℕ) (asked : Asked) (refusal : Answer) (good : IsTraceable asked bytes) → ¬ IsTextReply bytes asked (front_read asked.format bytes) (Refused refusal)
text-well bytes asked refusal good is =
    let of = subst (λ (r : Result Parts Answer). IsTextReply bytes asked r (Refused refusal)) good.front is in
    let found = good.runs of.file of.is_file of.whole of.declared in
    let behind = drop good.parts.used bytes in
    report-well of.file (lines_in (take good.parts.used bytes)) behind asked (report_read behind of.file) found.report found.log found.end refusal found.read found.given found.ran of.is

pub trace-sound : IsSound trace_program
trace-sound = record {
  unread = λ asked bytes. text-read bytes asked (front_read asked.format bytes) (front_told asked.format bytes);
  own = λ asked bytes. text-own bytes asked (front_read asked.format bytes);
  ends = solved-fine;
  accepted = λ asked bytes refusal good. text-well bytes asked refusal good;
}
