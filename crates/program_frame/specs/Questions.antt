-- What a program has to answer, after its words and its input were read.
use Rattle.std.specs.Prelude.{◌≡◌, Result, Ok, Err}
use Rattle.solve_report.specs.AnswerText.{HasText}
use Rattle.solve_report.specs.declared.answer.Answer.{Answer}
use Rattle.solve_report.specs.declared.answer.Answer.TheVariants as answers
use Rattle.solve_words.specs.Kinds.{number_of_words}
use Rattle.solve_words.specs.declared.fault.WordFault.{WordFault}
use Rattle.solve_words.specs.declared.fault.WordFault.TheVariants as words
use Rattle.answer_io.specs.Input.{Input, Unread, Broken, TooLong, Whole, SourceState, IsReadFrom}
use Rattle.program_frame.specs.declared.question.Question.{Question}
use Rattle.program_frame.specs.declared.question.Question.TheVariants.{Text, Refused}

-- how an input that was not read whole is refused
abbrev pub IsInputRefusal : Input → Answer → Type 0
IsInputRefusal Unread refusal = ⊥
IsInputRefusal Broken refusal = refusal ≡ answers.Read
IsInputRefusal TooLong refusal = refusal ≡ answers.ProblemText 0 9 0
IsInputRefusal (Whole bytes) refusal = ⊥

-- how words are refused, or an input that was not read whole
abbrev pub IsRefusal : {A : Type 0} → Result A WordFault → Input → Answer → Type 0
IsRefusal (Ok asked) input refusal = IsInputRefusal input refusal
IsRefusal (Err (words.Bad at kind)) input refusal = (input ≡ Unread) × (refusal ≡ answers.Words at (number_of_words kind))
IsRefusal (Err words.NoMemory) input refusal = ⊥

-- a refusal, with the input read for it from a source with this state before and this state after
pub record IsRefusedBy {A : Type 0} (asked : Result A WordFault) (before after : SourceState) (refusal : Answer) : Type 0 where
  pub input : Input
  pub read : IsReadFrom input before after
  pub refused : IsRefusal asked input refusal

-- what a program has to answer, given what words ask for or their fault: what they ask for, with
-- the whole input, or a refusal of the words or of the input
abbrev pub IsQuestion : {A : Type 0} → Result A WordFault → SourceState → SourceState → Question A → Type 0
IsQuestion asked before after (Text same bytes) = (asked ≡ Ok same) × IsReadFrom (Whole bytes) before after
IsQuestion asked before after (Refused refusal) = IsRefusedBy asked before after refusal

-- if what a program has to answer is a refusal, the refusal has a text
abbrev pub IsPlain : {A : Type 0} → Question A → Type 0
IsPlain (Text asked bytes) = Unit {0}
IsPlain (Refused refusal) = HasText refusal
