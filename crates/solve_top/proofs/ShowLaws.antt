-- What follows for a top call from an answer and from how it was shown.
use Rattle.std.proofs.Common.{◌≡◌, ◌≢◌, ℕ, ◌⊎◌, inl, inr, List, Some, refl}
use Rattle.dcop_edge.specs.Faults.{Rose}
use Rattle.solve_report.specs.declared.answer.Answer.{Answer}
use Rattle.answer_io.specs.declared.status.Status.{Status}
use Rattle.answer_io.specs.declared.status.Status.TheVariants.{Solved, Spent, No, BadWords, BadText, TooWide, ReadFault, WriteFault, NoMemory, LinkFault, LinkDiffers, TooMany}
use Rattle.answer_io.specs.Input.{SourceState}
use Rattle.answer_io.specs.Output.{SinkState}
use Rattle.answer_io.specs.Showing.{ShowsAnswer, StaysUnless}
use Rattle.answer_io.specs.Statuses.{status_of}
use Rattle.answer_io.proofs.ShowLaws as shows
use Rattle.solve_words.specs.declared.command.Format.TheVariants.{Dcop as Own}
use Rattle.solve_answers.specs.declared.task.Task.TheVariants.{File}
use Rattle.solve_answers.specs.Nodes.{AskForNodes, TellsAnswer}
use Rattle.solve_answers.specs.Answered.{Answered}
use Rattle.solve_answers.proofs.AnswerLaws.{Rose-answered, stays-answered}
use Rattle.solve_top.specs.Solving.{GoesWell, Accepts, AsksDrill, Solves}
use Rattle.solve_top.proofs.WellLaws.{well-answered, drill-well}

pub read-so : (words : List (List ℕ)) (source source' : SourceState) (answer : Answer) → Answered words source source' answer
    → (sink sink' : SinkState) (faults faults' : ℕ) (status : Status) → ShowsAnswer answer sink sink' faults faults' status → status ≡ ReadFault
    → Rose source.faults source'.faults
read-so words source source' answer answered sink sink' faults faults' status shown fault =
    Rose-answered words source source' answer answered (shows.read-so answer sink sink' faults faults' status shown fault)

pub source-stays : (words : List (List ℕ)) (source source' : SourceState) (answer : Answer) → Answered words source source' answer
    → (sink sink' : SinkState) (faults faults' : ℕ) (status : Status) → ShowsAnswer answer sink sink' faults faults' status
    → StaysUnless source.faults source'.faults ((status ≡ ReadFault) ⊎ (status ≡ WriteFault) ⊎ (status ≡ NoMemory))
source-stays words source source' answer answered sink sink' faults faults' status shown =
    shows.source-stays source.faults source'.faults answer sink sink' faults faults' status shown (stays-answered words source source' answer answered)

-- a status is that of failed links, or not
is-link : (status : Status) → (status ≡ LinkFault) ⊎ (status ≢ LinkFault)
is-link Solved = inr (λ e. cc e)
is-link Spent = inr (λ e. cc e)
is-link No = inr (λ e. cc e)
is-link BadWords = inr (λ e. cc e)
is-link BadText = inr (λ e. cc e)
is-link TooWide = inr (λ e. cc e)
is-link ReadFault = inr (λ e. cc e)
is-link WriteFault = inr (λ e. cc e)
is-link NoMemory = inr (λ e. cc e)
is-link LinkFault = inl refl
is-link LinkDiffers = inr (λ e. cc e)
is-link TooMany = inr (λ e. cc e)

-- the status of the call says about links what the answer says
module _ (words : List (List ℕ)) (untrusted : Type 0) (old new : ℕ) (answer : Answer) (tells : TellsAnswer (AskForNodes words) untrusted old new answer) where
  -- an answer says nothing about the links of a dialer that is honest and has not failed
  unfailed : ¬ Rose old new → status_of answer ≢ LinkFault
  unfailed still failed = still (tells.failed failed).2

  alike : (AskForNodes words → ¬ untrusted) → status_of answer ≢ LinkDiffers
  alike so differs = let t = tells.differs differs in so t.0 t.1

  module _ (sink sink' : SinkState) (faults faults' : ℕ) (status : Status) (shown : ShowsAnswer answer sink sink' faults faults' status) where
    pub solved-so : (source source' : SourceState) → Answered words source source' answer → status ≢ NoMemory → Solves words untrusted old new source source' sink sink' status
    solved-so source source' answered some = record {
      answer = answer;
      answered = answered;
      links = tells;
      shown = shows.shown-so answer sink sink' faults faults' status shown some;
    }

    pub link-so : status ≡ LinkFault → AskForNodes words × Rose old new
    link-so fault = let t = tells.failed (shows.told-so LinkFault (λ e. cc e) (λ e. cc e) answer sink sink' faults faults' status shown fault) in (t.0, t.2)

    pub differs-so : status ≡ LinkDiffers → AskForNodes words × untrusted
    differs-so fault = tells.differs (shows.told-so LinkDiffers (λ e. cc e) (λ e. cc e) answer sink sink' faults faults' status shown fault)

    pub dialer-stays : StaysUnless old new ((status ≡ LinkFault) ⊎ (status ≡ WriteFault) ⊎ (status ≡ NoMemory))
    dialer-stays = elim (is-link (status_of answer)) [
      | inl failed ↦ let t = tells.failed failed in inr (t.1, t.2, shows.comes-so LinkFault answer sink sink' faults faults' status shown failed)
      | inr other ↦ inl (tells.quiet other)
    ]

    pub complete-so : (source source' : SourceState) → Answered words source source' answer → (text : List ℕ) → source.left ≡ Some text → (accepts : Accepts words text)
        → ¬ Rose source.faults source'.faults → ¬ Rose faults faults' → ¬ Rose old new → (AskForNodes words → ¬ untrusted) → GoesWell status accepts.task
    complete-so source source' answered text told accepts steady quiet still so =
        shows.status-so (λ (s : Status). GoesWell s accepts.task) answer sink sink' faults faults' status shown quiet tt
        (well-answered words text source source' answer answered told accepts steady (unfailed still) (alike so))

    pub drill-so : (source source' : SourceState) → Answered words source source' answer → (asks : AsksDrill words) → ¬ Rose faults faults' → ¬ Rose old new → (AskForNodes words → ¬ untrusted)
        → GoesWell status (File Own asks.drill.task)
    drill-so source source' answered asks quiet still so =
        shows.status-so (λ (s : Status). GoesWell s (File Own asks.drill.task)) answer sink sink' faults faults' status shown quiet tt
        (drill-well words source source' answer answered asks (unfailed still) (alike so))
