-- How a reply is shown: as the answers of `dcop` are.
use Rattle.std.specs.Prelude.{◌≡◌, ◌≢◌, ℕ, ◌≤◌, ◌⊎◌, true, List}
use Rattle.dcop_edge.specs.Faults.{Rose}
use Rattle.dcop_edge.specs.Sink.{Adds}
use Rattle.solve_report.specs.AnswerText.{answer_text, HasText}
use Rattle.answer_io.specs.declared.status.Status.{Status}
use Rattle.answer_io.specs.declared.status.Status.TheVariants as statuses
use Rattle.answer_io.specs.Output.{SinkState, AddsPrefix}
use Rattle.answer_io.specs.Statuses.{status_of}
use Rattle.program_frame.specs.declared.reply.Reply.{Reply}
use Rattle.program_frame.specs.declared.reply.Reply.TheVariants.{Own, Refused}

-- the text of a reply
abbrev pub reply_text : Reply → List ℕ
reply_text (Own text status) = text
reply_text (Refused refusal) = answer_text refusal

-- the status of a reply
abbrev pub reply_status : Reply → Status
reply_status (Own text status) = status
reply_status (Refused refusal) = status_of refusal

-- a reply can be shown: it is a refusal that has a text, or a text of the program's own with any
-- status but `NoMemory`
abbrev pub IsShowable : Reply → Type 0
IsShowable (Own text status) = status ≢ statuses.NoMemory
IsShowable (Refused refusal) = HasText refusal

-- the whole text of a reply was written, the sink is finished, and the status is the reply's
pub record IsShown (reply : Reply) (before after : SinkState) (status : Status) : Type 0 where
  pub text : Adds before.held (reply_text reply) after.held
  pub finished : after.finished ≡ true
  pub same : status ≡ reply_status reply

-- the sink failed after a prefix of the text of a reply
pub record IsCut (reply : Reply) (before after : SinkState) (status : Status) : Type 0 where
  pub prefix : AddsPrefix before.held (reply_text reply) after.held
  pub fault : status ≡ statuses.WriteFault

-- a reply was shown by a sink that did not fail; or the sink failed and its count of faults rose;
-- or memory ran out and no fault was counted
abbrev pub Shows : Reply → SinkState → SinkState → ℕ → ℕ → Status → Type 0
Shows reply sink sink' faults faults' status =
    ((status ≡ statuses.NoMemory) × (faults' ≡ faults))
    ⊎ (IsShown reply sink sink' status × (faults' ≡ faults))
    ⊎ (IsCut reply sink sink' status × (faults ≤ faults') × Rose faults faults')
