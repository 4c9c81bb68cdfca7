-- What makes up a program that reads one text and writes one, and its replies.
use Rattle.std.specs.Prelude.{◌≡◌, ℕ, ◌≤◌, List, length, Result, Ok}
use Rattle.dcop_base.specs.Limits.{input_limit}
use Rattle.solve_report.specs.declared.answer.Answer.{Answer}
use Rattle.solve_words.specs.declared.fault.WordFault.{WordFault}
use Rattle.answer_io.specs.declared.status.Status.{Status}
use Rattle.answer_io.specs.Input.{Input, Whole, SourceState, IsReadFrom}
use Rattle.program_frame.specs.Questions.{IsRefusal}
use Rattle.program_frame.specs.declared.reply.Reply.{Reply}
use Rattle.program_frame.specs.declared.reply.Reply.TheVariants.{Own, Refused}

-- a program: what words ask of it; its replies to a whole input; the inputs that it accepts; and
-- the statuses of its own texts, those that are no refusals
pub record Program (A : Type 0) : Type 1 where
  pub asked : List (List ℕ) → Result A WordFault
  pub replies : A → List ℕ → Reply → Type 0
  pub accepts : A → List ℕ → Type 0
  pub ends : Status → Type 0

-- a reply is a refusal, and this holds for it
abbrev pub IsRefused : (Answer → Type 0) → Reply → Type 0
IsRefused is (Own text status) = ⊥
IsRefused is (Refused refusal) = is refusal

-- a reply to what words ask for, or to words that are refused
abbrev pub IsAskedReply : {A : Type 0} → Program A → Result A WordFault → Input → Reply → Type 0
IsAskedReply p (Ok asked) (Whole bytes) reply = p.replies asked bytes reply
IsAskedReply p asked input reply = IsRefused (IsRefusal asked input) reply

-- a reply of a program to words and an input
abbrev pub IsReply : {A : Type 0} → Program A → List (List ℕ) → Input → Reply → Type 0
IsReply p words input reply = IsAskedReply p (p.asked words) input reply

-- the same words and the same input have one reply, and so one text
abbrev pub RepliesAreOne : {A : Type 0} → Program A → Type 0
RepliesAreOne p = (words : List (List ℕ)) (input : Input) (a b : Reply) → IsReply p words input a → IsReply p words input b → a ≡ b

-- a reply to words, with the input read for it from a source with this state before and this state
-- after
pub record IsReplied {A : Type 0} (p : Program A) (words : List (List ℕ)) (before after : SourceState) (reply : Reply) : Type 0 where
  pub input : Input
  pub read : IsReadFrom input before after
  pub belongs : IsReply p words input reply

-- words and a text are accepted
pub record IsAccepted {A : Type 0} (p : Program A) (words : List (List ℕ)) (text : List ℕ) : Type 0 where
  pub asked : A
  pub answered : p.asked words ≡ Ok asked
  pub short : length text ≤ input_limit
  pub accepted : p.accepts asked text
