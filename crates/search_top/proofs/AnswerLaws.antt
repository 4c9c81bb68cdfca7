-- The replies of `dcop_search` are sound.
use Rattle.std.proofs.Common.{◌≡◌, ◌≢◌, inl, inr, ℕ, List, Result, Ok, Err, ap, subst}
use Rattle.solve_report.specs.declared.answer.Answer.{Answer}
use Rattle.solve_report.specs.declared.answer.Answer.TheVariants as answers
use Rattle.answer_io.specs.declared.status.Status.{Status}
use Rattle.answer_io.specs.declared.status.Status.TheVariants as statuses
use Rattle.answer_io.specs.Inputs.{input_read}
use Rattle.answer_io.specs.InputTold.{DeclaredInput}
use Rattle.answer_io.proofs.RefusalLaws.{input_told}
use Rattle.program_frame.specs.declared.reply.Reply.TheVariants.{Own, Refused}
use Rattle.program_frame.proofs.WorkLaws.{IsSound}
use Rattle.search_stages.specs.declared.asked.Asked.{Asked}
use Rattle.search_stages.specs.declared.report.SearchEnding.{SearchEnding}
use Rattle.search_stages.specs.declared.report.SearchEnding.TheVariants.{Solved, Spent, NoneBetter}
use Rattle.search_top.specs.Answering.{status_of_ending, IsTextReply, search_program}

text-read : (asked : Asked) (read : Result DeclaredInput Answer) → ¬ (read ≡ Err answers.Read) → ¬ IsTextReply asked read (Refused answers.Read)
text-read asked (Ok told) other is = is
text-read asked (Err refusal) other is =
    let same : refusal ≡ answers.Read = cc is in
    other (ap (λ (a : Answer). Err a) same)

ending-own : (ending : SearchEnding) (status : Status) → status ≡ status_of_ending ending → search_program.ends status
ending-own Solved status is = inl is
ending-own Spent status is = inr (inl is)
ending-own NoneBetter status is = inr (inr is)

text-own : (asked : Asked) (read : Result DeclaredInput Answer) (text : List ℕ) (status : Status) → IsTextReply asked read (Own text status) → search_program.ends status
text-own asked (Ok told) text status is = ending-own is.report.ending status is.ended
text-own asked (Err refusal) text status is = cc is

ends-fine : (status : Status) → search_program.ends status → (status ≢ statuses.ReadFault) × (status ≢ statuses.WriteFault)
ends-fine status (inl is) = (λ e. cc, λ e. cc)
ends-fine status (inr (inl is)) = (λ e. cc, λ e. cc)
ends-fine status (inr (inr is)) = (λ e. cc, λ e. cc)

pub search-sound : IsSound search_program
search-sound = record {
  unread = λ asked bytes. text-read asked (input_read asked.format bytes) (input_told asked.format bytes);
  own = λ asked bytes. text-own asked (input_read asked.format bytes);
  ends = ends-fine;
  accepted = λ asked bytes refusal accepts is. subst (λ (r : Result DeclaredInput Answer). IsTextReply asked r (Refused refusal)) accepts.1 is;
}
