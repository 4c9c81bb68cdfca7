-- How an answer is shown, and the answer to a text that is refused.
use Rattle.std.specs.Prelude.{◌≡◌, ℕ, ◌≤◌, ◌⊎◌, true}
use Rattle.dcop_edge.specs.Faults.{Rose}
use Rattle.dcop_edge.specs.Sink.{Adds}
use Rattle.problem_text.specs.Kinds.{number_of_text, number_of_problem}
use Rattle.problem_text.specs.Reading.{Fault}
use Rattle.solve_report.specs.AnswerText.{answer_text}
use Rattle.solve_report.specs.declared.answer.Answer.{Answer}
use Rattle.solve_report.specs.declared.answer.Answer.TheVariants as answers
use Rattle.answer_io.specs.declared.status.Status.{Status}
use Rattle.answer_io.specs.declared.status.Status.TheVariants as statuses
use Rattle.answer_io.specs.Output.{SinkState, AddsPrefix}
use Rattle.answer_io.specs.Statuses.{status_of}

-- the answer to a problem text whose first fault is this
abbrev pub refused_by : Fault → Answer
refused_by fault = answers.ProblemText fault.line (number_of_text fault.kind) (number_of_problem fault.kind)

-- the whole text of an answer was written, the sink is finished, and the status is the answer's
pub record IsWholeShown (answer : Answer) (before after : SinkState) (status : Status) : Type 0 where
  pub text : Adds before.held (answer_text answer) after.held
  pub finished : after.finished ≡ true
  pub same : status ≡ status_of answer

-- the sink failed after a prefix of the text of an answer
pub record IsCutShort (answer : Answer) (before after : SinkState) (status : Status) : Type 0 where
  pub prefix : AddsPrefix before.held (answer_text answer) after.held
  pub fault : status ≡ statuses.WriteFault

-- a count of faults is as it was; or it rose, and then this holds
abbrev pub StaysUnless : ℕ → ℕ → Type 0 → Type 0
StaysUnless old new why = (new ≡ old) ⊎ ((old ≤ new) × Rose old new × why)

-- an answer was shown by a sink that did not fail; or the sink failed and its count of faults rose;
-- or memory ran out and no fault was counted
abbrev pub ShowsAnswer : Answer → SinkState → SinkState → ℕ → ℕ → Status → Type 0
ShowsAnswer answer sink sink' faults faults' status =
    ((status ≡ statuses.NoMemory) × (faults' ≡ faults))
    ⊎ (IsWholeShown answer sink sink' status × (faults' ≡ faults))
    ⊎ (IsCutShort answer sink sink' status × (faults ≤ faults') × Rose faults faults')
