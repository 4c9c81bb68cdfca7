-- Which reply of `dcop_order` belongs to which words and input. Refusals are those of `dcop`.
use Rattle.std.specs.Prelude.{◌≡◌, ℕ, List, Result, Ok, Err}
use Rattle.dcop_base.specs.Whole.{IsProblem}
use Rattle.problem_text.specs.Canonical.{canonical}
use Rattle.problem_text.specs.Declarations.{Declared}
use Rattle.problem_text.specs.File.{TextFile}
use Rattle.problem_text.specs.Reading.{Fault}
use Rattle.problem_text.specs.Steps.{declared_by}
use Rattle.problem_order.specs.Narrowed.{IsNarrowed}
use Rattle.order_search.specs.Finding.{IsSearched}
use Rattle.answer_io.specs.declared.status.Status.TheVariants as statuses
use Rattle.answer_io.specs.Showing.{refused_by}
use Rattle.answer_io.specs.Whole.{whole_read}
use Rattle.program_frame.specs.Program.{Program, RepliesAreOne}
use Rattle.program_frame.specs.declared.reply.Reply.{Reply}
use Rattle.program_frame.specs.declared.reply.Reply.TheVariants.{Own, Refused}
use Rattle.order_top.specs.declared.words.Asked.{Asked}
use Rattle.order_top.specs.Words.{order_answer_to}

-- a text that declares this becomes this file by the search that the words ask for, which never
-- makes its tree wider
pub record IsOrderedAs (asked : Asked) (d : Declared) (file : TextFile) : Type 0 where
  pub old : TextFile
  pub whole : IsProblem old.problem
  pub declared : declared_by old ≡ d
  pub narrowed : IsNarrowed old file
  pub searched : IsSearched old asked.tries asked.seed file

-- the reply is the canonical text of the file read, in the order that the search finds
abbrev pub IsOrdered : Asked → Declared → Reply → Type 0
IsOrdered asked d (Own text status) =
    ((file : TextFile) × IsOrderedAs asked d file × (text ≡ canonical file)) × (status ≡ statuses.Solved)
IsOrdered asked d (Refused refusal) = ⊥

-- the reply to a text that is read as this
abbrev pub IsTextReply : Asked → Result Declared Fault → Reply → Type 0
IsTextReply asked (Ok d) reply = IsOrdered asked d reply
IsTextReply asked (Err fault) reply = reply ≡ Refused (refused_by fault)

-- a text is accepted: what it declares is read without a fault
abbrev pub IsRead : List ℕ → Type 0
IsRead text = (declared : Declared) × (whole_read text ≡ Ok declared)

-- the program `dcop_order`
abbrev pub order_program : Program Asked
order_program = record {
  asked = order_answer_to;
  replies = λ asked bytes. IsTextReply asked (whole_read bytes);
  accepts = λ asked text. IsRead text;
  ends = λ status. status ≡ statuses.Solved;
}

-- the same words and the same input have one reply, and so one text
abbrev pub OrderAnswersAreOne : Type 0
OrderAnswersAreOne = RepliesAreOne order_program

-- for what words ask for and what a text declares, no two different files are ordered as asked
abbrev pub OrderedFilesAreOne : Type 0
OrderedFilesAreOne = (asked : Asked) (d : Declared) (f g : TextFile) → IsOrderedAs asked d f → IsOrderedAs asked d g → f ≡ g
