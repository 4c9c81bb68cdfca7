-- Which reply of `dcop_search` belongs to which words and input. Refusals are those of `dcop`.
use Rattle.std.specs.Prelude.{◌≡◌, ◌⊎◌, ℕ, List, Result, Ok, Err}
use Rattle.dcop_base.specs.Whole.{IsProblem}
use Rattle.problem_text.specs.Declarations.{Declared}
use Rattle.problem_text.specs.File.{TextFile}
use Rattle.problem_text.specs.Steps.{declared_by}
use Rattle.solve_report.specs.declared.answer.Answer.{Answer}
use Rattle.answer_io.specs.declared.status.Status.{Status}
use Rattle.answer_io.specs.declared.status.Status.TheVariants as statuses
use Rattle.answer_io.specs.Inputs.{input_read}
use Rattle.answer_io.specs.InputTold.{DeclaredInput}
use Rattle.program_frame.specs.Program.{Program}
use Rattle.program_frame.specs.declared.reply.Reply.{Reply}
use Rattle.program_frame.specs.declared.reply.Reply.TheVariants.{Own, Refused}
use Rattle.search_stages.specs.declared.asked.Asked.{Asked}
use Rattle.search_stages.specs.declared.report.SearchEnding.{SearchEnding}
use Rattle.search_stages.specs.declared.report.SearchEnding.TheVariants.{Solved, Spent, NoneBetter}
use Rattle.search_stages.specs.declared.report.SearchReport.{SearchReport}
use Rattle.search_top.specs.Report.{IsSearchReport}
use Rattle.search_top.specs.Text.{search_text}
use Rattle.search_top.specs.Words.{search_answer_to}

-- the status of an ending; that of `none` has the code 10
abbrev pub status_of_ending : SearchEnding → Status
status_of_ending Solved = statuses.Solved
status_of_ending Spent = statuses.Spent
status_of_ending NoneBetter = statuses.No

-- a text and a status are those of the report of a search on a file that declares this
pub record IsReported (asked : Asked) (d : Declared) (text : List ℕ) (status : Status) : Type 0 where
  pub report : SearchReport
  pub file : TextFile
  pub declared : declared_by file ≡ d
  pub whole : IsProblem file.problem
  pub is : IsSearchReport file.goal file.problem asked report
  pub told : text ≡ search_text report file
  pub ended : status ≡ status_of_ending report.ending

-- the reply to a text that declares this: the report of a search
abbrev pub IsFileReply : Asked → Declared → Reply → Type 0
IsFileReply asked d (Own text status) = IsReported asked d text status
IsFileReply asked d (Refused refusal) = ⊥

-- the reply to a text that is read as this
abbrev pub IsTextReply : Asked → Result DeclaredInput Answer → Reply → Type 0
IsTextReply asked (Ok told) reply = IsFileReply asked told.declared reply
IsTextReply asked (Err refusal) reply = reply ≡ Refused refusal

-- a text is accepted: it is read without a fault in the format that is asked for
abbrev pub IsRead : Asked → List ℕ → Type 0
IsRead asked text = (told : DeclaredInput) × (input_read asked.format text ≡ Ok told)

-- the program `dcop_search`
abbrev pub search_program : Program Asked
search_program = record {
  asked = search_answer_to;
  replies = λ asked bytes. IsTextReply asked (input_read asked.format bytes);
  accepts = IsRead;
  ends = λ status. (status ≡ statuses.Solved) ⊎ (status ≡ statuses.Spent) ⊎ (status ≡ statuses.No);
}
