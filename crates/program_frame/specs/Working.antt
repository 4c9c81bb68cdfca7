-- What a call of a program does and promises: it finds a reply and shows it.
use Rattle.std.specs.Prelude.{◌≡◌, ◌≢◌, ℕ, ◌⊎◌, List, Some}
use Rattle.dcop_edge.specs.Faults.{Rose}
use Rattle.answer_io.specs.declared.status.Status.{Status}
use Rattle.answer_io.specs.declared.status.Status.TheVariants.{ReadFault, WriteFault, NoMemory}
use Rattle.answer_io.specs.Input.{SourceState}
use Rattle.answer_io.specs.Output.{SinkState}
use Rattle.answer_io.specs.Showing.{StaysUnless}
use Rattle.program_frame.specs.Program.{Program, IsReplied, IsAccepted}
use Rattle.program_frame.specs.Replies.{IsShown, IsCut}
use Rattle.program_frame.specs.declared.reply.Reply.{Reply}

-- a call on these words found a reply and showed it, or its sink failed after a prefix of it
pub record Replies {A : Type 0} (p : Program A) (words : List (List ℕ)) (source source' : SourceState) (sink sink' : SinkState) (status : Status) : Type 0 where
  pub reply : Reply
  pub replied : IsReplied p words source source' reply
  pub shown : IsShown reply sink sink' status ⊎ IsCut reply sink sink' status

-- a call of a program on these words. Its source had and has these states, and its sink these
-- states and counts of faults. Unless memory runs out, it replies. A status of a failed reading or
-- writing comes only if the source or the sink failed. If the source failed, the status is one of
-- these two, or memory ran out; if the sink failed, the status is that of a failed writing.
-- Accepted words and an accepted text, over a source and a sink that do not fail, get a text of the
-- program's own, unless memory runs out
pub record Works {A : Type 0} (p : Program A) (words : List (List ℕ)) (source source' : SourceState) (sink sink' : SinkState) (faults faults' : ℕ) (status : Status) : Type 0 where
  pub answered : status ≢ NoMemory → Replies p words source source' sink sink' status
  pub read_fault : status ≡ ReadFault → Rose source.faults source'.faults
  pub write_fault : status ≡ WriteFault → Rose faults faults'
  pub source_failed : StaysUnless source.faults source'.faults ((status ≡ ReadFault) ⊎ (status ≡ WriteFault) ⊎ (status ≡ NoMemory))
  pub sink_failed : StaysUnless faults faults' (status ≡ WriteFault)
  pub complete : (text : List ℕ) → source.left ≡ Some text → IsAccepted p words text → ¬ Rose source.faults source'.faults → ¬ Rose faults faults' → (status ≡ NoMemory) ⊎ p.ends status
