-- A program whose replies are sound works.
use Rattle.std.proofs.Common.{◌≡◌, ◌≢◌, ℕ, List, Option, Some, Result, Ok, Err, IfOk, sym, ap, subst, ◌∙◌, refl, inl, arith}
use Rattle.dcop_base.specs.declared.memory.NoMemory.{NoMemory}
use Rattle.dcop_edge.specs.Faults.{Rose}
use Rattle.solve_report.specs.declared.answer.Answer.{Answer}
use Rattle.solve_report.specs.declared.answer.Answer.TheVariants as answers
use Rattle.solve_words.specs.declared.fault.WordFault.{WordFault}
use Rattle.solve_words.specs.declared.fault.WordFault.TheVariants as words
use Rattle.answer_io.specs.declared.status.Status.{Status}
use Rattle.answer_io.specs.declared.status.Status.TheVariants.{ReadFault, WriteFault, NoMemory as no_memory}
use Rattle.answer_io.specs.Input.{Input, Unread, Broken, TooLong, Whole, SourceState, IsAllOf, IsReadFrom}
use Rattle.answer_io.specs.Output.{SinkState}
use Rattle.answer_io.specs.Showing.{StaysUnless}
use Rattle.answer_io.specs.Statuses.{status_of}
use Rattle.answer_io.proofs.InputLaws.{taken-least, count-stays}
use Rattle.answer_io.proofs.StatusLaws.{told-status as refusal-status, read-alone}
use Rattle.program_frame.specs.Questions.{IsRefusal, IsInputRefusal, IsQuestion}
use Rattle.program_frame.specs.declared.question.Question.{Question}
use Rattle.program_frame.specs.declared.question.Question.TheVariants as questions
use Rattle.program_frame.specs.Program.{Program, IsRefused, IsAskedReply, IsReplied, IsAccepted}
use Rattle.program_frame.specs.Replies.{Shows, reply_status}
use Rattle.program_frame.specs.Working.{Works}
use Rattle.program_frame.specs.declared.reply.Reply.{Reply}
use Rattle.program_frame.specs.declared.reply.Reply.TheVariants.{Own, Refused}
use Rattle.program_frame.proofs.ShowLaws.{shown-so, read-so, write-so, source-stays, sink-stays, status-so}

-- a program's replies to a whole input are never that it could not be read; its own texts have its
-- own statuses, which are no faults; and an accepted input is not refused
pub record IsSound {A : Type 0} (p : Program A) : Type 0 where
  pub unread : (asked : A) (bytes : List ℕ) → ¬ p.replies asked bytes (Refused answers.Read)
  pub own : (asked : A) (bytes text : List ℕ) (status : Status) → p.replies asked bytes (Own text status) → p.ends status
  pub ends : (status : Status) → p.ends status → (status ≢ ReadFault) × (status ≢ WriteFault)
  pub accepted : (asked : A) (bytes : List ℕ) (refusal : Answer) → p.accepts asked bytes → ¬ p.replies asked bytes (Refused refusal)

module _ {A : Type 0} (p : Program A) where
  refused-asked : (asked : Result A WordFault) (input : Input) (refusal : Answer) → IsRefusal asked input refusal → IsAskedReply p asked input (Refused refusal)
  refused-asked (Ok asked) (Whole bytes) refusal is = absurd is
  refused-asked (Ok asked) Unread refusal is = is
  refused-asked (Ok asked) Broken refusal is = is
  refused-asked (Ok asked) TooLong refusal is = is
  refused-asked (Err fault) input refusal is = is

  -- words, what was read for them, and the question that followed
  module _ (words : List (List ℕ)) (told : Result A WordFault) (before after : SourceState) (question : Question A) (same : told ≡ p.asked words) (asks : IsQuestion told before after question) where
    -- a question that is refused is replied to by its refusal
    pub refused-replied : (refusal : Answer) → question ≡ questions.Refused refusal → IsReplied p words before after (Refused refusal)
    refused-replied refusal is =
        let r = subst (λ (q : Question A). IsQuestion told before after q) is asks in
        record {
          input = r.input;
          read = r.read;
          belongs = subst (λ (t : Result A WordFault). IsAskedReply p t r.input (Refused refusal)) same (refused-asked told r.input refusal r.refused);
        }

    -- a whole input is replied to by what belongs to it, unless memory ran out
    pub text-replied : (asked : A) (bytes slice : List ℕ) (result : Result Reply NoMemory) → question ≡ questions.Text asked bytes → slice ≡ bytes
        → IfOk result (p.replies asked slice) → IfOk result (IsReplied p words before after)
    text-replied asked bytes slice (Ok reply) is whole belongs =
        let t = subst (λ (q : Question A). IsQuestion told before after q) is asks in
        record {
          input = Whole bytes;
          read = t.1;
          belongs = subst (λ (r : Result A WordFault). IsAskedReply p r (Whole bytes) reply) (sym t.0 ∙ same) (subst (λ (text : List ℕ). p.replies asked text reply) whole belongs);
        }
    text-replied asked bytes slice (Err none) is whole belongs = tt

  -- a call for which memory ran out works, if no fault was counted
  pub none-works : (words : List (List ℕ)) (source source' : SourceState) (sink sink' : SinkState) (faults faults' : ℕ) → source'.faults ≡ source.faults → faults' ≡ faults
      → Works p words source source' sink sink' faults faults' no_memory
  none-works words source source' sink sink' faults faults' quiet steady = record {
    answered = λ some. absurd (some refl);
    read_fault = λ e. cc;
    write_fault = λ e. cc;
    source_failed = inl quiet;
    sink_failed = inl steady;
    complete = λ text told accepted still calm. inl refl;
  }

  module _ (sound : IsSound p) where
    -- the status of a reply to a whole input is no fault of the source or of the sink
    whole-fine : (asked : A) (bytes : List ℕ) (reply : Reply) → p.replies asked bytes reply → (reply_status reply ≢ ReadFault) × (reply_status reply ≢ WriteFault)
    whole-fine asked bytes (Own text status) is = sound.ends status (sound.own asked bytes text status is)
    whole-fine asked bytes (Refused refusal) is =
        (λ fault. sound.unread asked bytes (subst (λ (a : Answer). p.replies asked bytes (Refused a)) (read-alone refusal fault) is), (refusal-status refusal).0)

    refused-fine : (is : Answer → Type 0) (reply : Reply) → IsRefused is reply → reply_status reply ≢ WriteFault
    refused-fine is (Own text status) of = absurd of
    refused-fine is (Refused refusal) of = (refusal-status refusal).0

    -- no reply has the status of a failed sink
    asked-fine : (asked : Result A WordFault) (input : Input) (reply : Reply) → IsAskedReply p asked input reply → reply_status reply ≢ WriteFault
    asked-fine (Ok asked) (Whole bytes) reply is = (whole-fine asked bytes reply is).1
    asked-fine (Ok asked) Unread reply is = refused-fine (IsInputRefusal Unread) reply is
    asked-fine (Ok asked) Broken reply is = refused-fine (IsInputRefusal Broken) reply is
    asked-fine (Ok asked) TooLong reply is = refused-fine (IsInputRefusal TooLong) reply is
    asked-fine (Err fault) input reply is = refused-fine (IsRefusal {A = A} (Err fault) input) reply is

    words-read : (fault : WordFault) (input : Input) (reply : Reply) → IsRefused (IsRefusal {A = A} (Err fault) input) reply → reply_status reply ≢ ReadFault
    words-read fault input (Own text status) is = absurd is
    words-read (words.Bad at kind) input (Refused refusal) is = λ e. let s = ap status_of is.1 in cc
    words-read words.NoMemory input (Refused refusal) is = absurd is

    long-read : (reply : Reply) → IsRefused (IsInputRefusal TooLong) reply → reply_status reply ≢ ReadFault
    long-read (Own text status) is = absurd is
    long-read (Refused refusal) is = λ e. let s = ap status_of is in cc

    unread-none : (reply : Reply) → ¬ IsRefused (IsInputRefusal Unread) reply
    unread-none (Own text status) is = is
    unread-none (Refused refusal) is = is

    -- only a broken input has a reply with the status of a failed source
    asked-read : (asked : Result A WordFault) (input : Input) (reply : Reply) → IsAskedReply p asked input reply → reply_status reply ≡ ReadFault → input ≡ Broken
    asked-read (Ok asked) (Whole bytes) reply is fault = absurd ((whole-fine asked bytes reply is).0 fault)
    asked-read (Ok asked) Unread reply is fault = absurd (unread-none reply is)
    asked-read (Ok asked) Broken reply is fault = refl
    asked-read (Ok asked) TooLong reply is fault = absurd (long-read reply is fault)
    asked-read (Err why) input reply is fault = absurd (words-read why input reply is fault)

    -- and each of its replies has it
    asked-broken : (asked : Result A WordFault) (reply : Reply) → IsAskedReply p asked Broken reply → reply_status reply ≡ ReadFault
    asked-broken (Ok asked) (Own text status) is = absurd is
    asked-broken (Ok asked) (Refused refusal) is = ap status_of is
    asked-broken (Err fault) (Own text status) is = absurd is
    asked-broken (Err (words.Bad at kind)) (Refused refusal) is = cc is.0
    asked-broken (Err words.NoMemory) (Refused refusal) is = absurd is

    -- the reply to an accepted text is the program's own
    whole-well : (asked : A) (bytes : List ℕ) (reply : Reply) → p.accepts asked bytes → p.replies asked bytes reply → p.ends (reply_status reply)
    whole-well asked bytes (Own text status) good is = sound.own asked bytes text status is
    whole-well asked bytes (Refused refusal) good is = absurd (sound.accepted asked bytes refusal good is)

    module _ (words : List (List ℕ)) (source source' : SourceState) (reply : Reply) (r : IsReplied p words source source' reply) where
      rose-replied : reply_status reply ≡ ReadFault → Rose source.faults source'.faults
      rose-replied fault = (subst (λ (i : Input). IsReadFrom i source source') (asked-read (p.asked words) r.input reply r.belongs fault) r.read).0

      stays-replied : StaysUnless source.faults source'.faults (reply_status reply ≡ ReadFault)
      stays-replied =
          count-stays r.input source source' (reply_status reply ≡ ReadFault) r.read
          (λ broken. asked-broken (p.asked words) reply (subst (λ (i : Input). IsAskedReply p (p.asked words) i reply) broken r.belongs))

      module _ (text : List ℕ) (known : source.left ≡ Some text) (accepted : IsAccepted p words text) (steady : ¬ Rose source.faults source'.faults) where
        -- an accepted text whose source is known is read whole
        input-well : (input : Input) → IsReadFrom input source source' → IsAskedReply p (Ok accepted.asked) input reply → p.ends (reply_status reply)
        input-well Unread read is = absurd (unread-none reply is)
        input-well Broken read is = absurd (steady read.0)
        input-well TooLong read is = let more = taken-least _ _ source source' text known read.0 in absurd (omega (arith, more, accepted.short))
        input-well (Whole bytes) read is =
            let all = subst (λ (l : Option (List ℕ)). IsAllOf bytes l source'.left) known read.1 in
            whole-well accepted.asked text reply accepted.accepted (subst (λ (t : List ℕ). p.replies accepted.asked t reply) all.0 is)

        well-replied : p.ends (reply_status reply)
        well-replied = input-well r.input r.read (subst (λ (a : Result A WordFault). IsAskedReply p a r.input reply) accepted.answered r.belongs)

      -- a call that found a reply and showed it works
      pub shown-works : (sink sink' : SinkState) (faults faults' : ℕ) (status : Status) → Shows reply sink sink' faults faults' status
          → Works p words source source' sink sink' faults faults' status
      shown-works sink sink' faults faults' status shows =
          let fine = asked-fine (p.asked words) r.input reply r.belongs in
          record {
            answered = λ some. record { reply = reply; replied = r; shown = shown-so reply fine sink sink' faults faults' status shows some };
            read_fault = λ fault. rose-replied (read-so reply fine sink sink' faults faults' status shows fault);
            write_fault = write-so reply fine sink sink' faults faults' status shows;
            source_failed = source-stays reply fine sink sink' faults faults' status source.faults source'.faults shows stays-replied;
            sink_failed = sink-stays reply fine sink sink' faults faults' status shows;
            complete = λ text known accepted steady quiet. status-so reply fine sink sink' faults faults' status p.ends shows quiet (well-replied text known accepted steady);
          }
