-- Words and an input have one reply.
use Rattle.std.proofs.Common.{◌≡◌, ℕ, List, Result, Ok, Err, sym, ap, ◌∙◌}
use Rattle.solve_report.specs.declared.answer.Answer.{Answer}
use Rattle.solve_words.specs.declared.fault.WordFault.{WordFault}
use Rattle.solve_words.specs.declared.fault.WordFault.TheVariants as words
use Rattle.answer_io.specs.Input.{Input, Unread, Broken, TooLong, Whole}
use Rattle.program_frame.specs.Questions.{IsInputRefusal, IsRefusal}
use Rattle.program_frame.specs.Program.{Program, IsRefused, IsAskedReply, RepliesAreOne}
use Rattle.program_frame.specs.declared.reply.Reply.{Reply}
use Rattle.program_frame.specs.declared.reply.Reply.TheVariants.{Own, Refused}

-- an input that was not read whole has one refusal
one_input : (input : Input) (a b : Answer) → IsInputRefusal input a → IsInputRefusal input b → a ≡ b
one_input Unread a b of_a of_b = absurd of_a
one_input Broken a b of_a of_b = of_a ∙ sym of_b
one_input TooLong a b of_a of_b = of_a ∙ sym of_b
one_input (Whole bytes) a b of_a of_b = absurd of_a

-- so have words
one_refusal : {A : Type 0} (asked : Result A WordFault) (input : Input) (a b : Answer) → IsRefusal asked input a → IsRefusal asked input b → a ≡ b
one_refusal (Ok asked) input a b of_a of_b = one_input input a b of_a of_b
one_refusal (Err (words.Bad at kind)) input a b of_a of_b = of_a.1 ∙ sym of_b.1
one_refusal (Err words.NoMemory) input a b of_a of_b = absurd of_a

-- replies that refuse are the same if their refusals are
one_refused : (is : Answer → Type 0) → ((a b : Answer) → is a → is b → a ≡ b) → (a b : Reply) → IsRefused is a → IsRefused is b → a ≡ b
one_refused is one (Own text status) b of_a of_b = absurd of_a
one_refused is one (Refused a) (Own text status) of_a of_b = absurd of_b
one_refused is one (Refused a) (Refused b) of_a of_b = ap Refused (one a b of_a of_b)

-- a program whose replies to a whole input are one
module _ {A : Type 0} (p : Program A) (one : (asked : A) (bytes : List ℕ) (a b : Reply) → p.replies asked bytes a → p.replies asked bytes b → a ≡ b) where
  one_asked : (asked : Result A WordFault) (input : Input) (a b : Reply) → IsAskedReply p asked input a → IsAskedReply p asked input b → a ≡ b
  one_asked (Ok asked) (Whole bytes) a b of_a of_b = one asked bytes a b of_a of_b
  one_asked (Ok asked) Unread a b of_a of_b = one_refused (IsInputRefusal Unread) (one_input Unread) a b of_a of_b
  one_asked (Ok asked) Broken a b of_a of_b = one_refused (IsInputRefusal Broken) (one_input Broken) a b of_a of_b
  one_asked (Ok asked) TooLong a b of_a of_b = one_refused (IsInputRefusal TooLong) (one_input TooLong) a b of_a of_b
  one_asked (Err fault) input a b of_a of_b = one_refused (IsRefusal {A = A} (Err fault) input) (one_refusal {A = A} (Err fault) input) a b of_a of_b

  pub replies_one : RepliesAreOne p
  replies_one words input a b of_a of_b = one_asked (p.asked words) input a b of_a of_b
