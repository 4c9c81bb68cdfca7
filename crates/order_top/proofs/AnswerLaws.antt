-- The replies of `dcop_order` are sound.
use Rattle.std.proofs.Common.{◌≡◌, ◌≢◌, ℕ, List, Result, Ok, Err, subst}
use Rattle.problem_text.specs.Declarations.{Declared}
use Rattle.problem_text.specs.Reading.{Fault}
use Rattle.solve_report.specs.declared.answer.Answer.TheVariants as answers
use Rattle.answer_io.specs.declared.status.Status.{Status}
use Rattle.answer_io.specs.declared.status.Status.TheVariants as statuses
use Rattle.answer_io.specs.Whole.{whole_read}
use Rattle.program_frame.specs.declared.reply.Reply.TheVariants.{Own, Refused}
use Rattle.program_frame.proofs.WorkLaws.{IsSound}
use Rattle.order_top.specs.declared.words.Asked.{Asked}
use Rattle.order_top.specs.Answering.{IsTextReply, order_program}

text-read : (asked : Asked) (read : Result Declared Fault) → ¬ IsTextReply asked read (Refused answers.Read)
text-read asked (Ok d) is = is
text-read asked (Err fault) is = cc is

text-own : (asked : Asked) (read : Result Declared Fault) (text : List ℕ) (status : Status) → IsTextReply asked read (Own text status) → status ≡ statuses.Solved
text-own asked (Ok d) text status is = is.1
text-own asked (Err fault) text status is = cc is

solved-fine : (status : Status) → status ≡ statuses.Solved → (status ≢ statuses.ReadFault) × (status ≢ statuses.WriteFault)
solved-fine status is = (λ e. cc, λ e. cc)

pub order-sound : IsSound order_program
order-sound = record {
  unread = λ asked bytes. text-read asked (whole_read bytes);
  own = λ asked bytes. text-own asked (whole_read bytes);
  ends = solved-fine;
  accepted = λ asked bytes refusal accepts is. subst (λ (r : Result Declared Fault). IsTextReply asked r (Refused refusal)) accepts.1 is;
}
