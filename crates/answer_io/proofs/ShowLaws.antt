-- What follows from how an answer was shown.
use Rattle.std.proofs.Common.{◌≡◌, ◌≢◌, ℕ, ◌⊎◌, sym, subst, ◌∙◌, inl, inr}
use Rattle.dcop_edge.specs.Faults.{Rose}
use Rattle.solve_report.specs.declared.answer.Answer.{Answer}
use Rattle.answer_io.specs.declared.status.Status.{Status}
use Rattle.answer_io.specs.declared.status.Status.TheVariants.{ReadFault, WriteFault, NoMemory}
use Rattle.answer_io.specs.Output.{SinkState}
use Rattle.answer_io.specs.Showing.{IsWholeShown, IsCutShort, ShowsAnswer, StaysUnless}
use Rattle.answer_io.specs.Statuses.{status_of}
use Rattle.answer_io.proofs.StatusLaws.{told-status}

-- unless memory ran out, the answer was shown or the sink failed
pub shown-so : (answer : Answer) (sink sink' : SinkState) (faults faults' : ℕ) (status : Status) → ShowsAnswer answer sink sink' faults faults' status → status ≢ NoMemory
    → IsWholeShown answer sink sink' status ⊎ IsCutShort answer sink sink' status
shown-so answer sink sink' faults faults' status (inl none) some = absurd (some none.0)
shown-so answer sink sink' faults faults' status (inr (inl shown)) some = inl shown.0
shown-so answer sink sink' faults faults' status (inr (inr cut)) some = inr cut.0

-- a status of a failed reading is the answer's own
pub read-so : (answer : Answer) (sink sink' : SinkState) (faults faults' : ℕ) (status : Status) → ShowsAnswer answer sink sink' faults faults' status → status ≡ ReadFault
    → status_of answer ≡ ReadFault
read-so answer sink sink' faults faults' status (inl none) fault = let e = sym fault ∙ none.0 in cc
read-so answer sink sink' faults faults' status (inr (inl shown)) fault = sym shown.0.same ∙ fault
read-so answer sink sink' faults faults' status (inr (inr cut)) fault = let e = sym fault ∙ cut.0.fault in cc

-- a status of a failed writing comes from the sink
pub write-so : (answer : Answer) (sink sink' : SinkState) (faults faults' : ℕ) (status : Status) → ShowsAnswer answer sink sink' faults faults' status → status ≡ WriteFault
    → Rose faults faults'
write-so answer sink sink' faults faults' status (inl none) fault = let e = sym fault ∙ none.0 in cc
write-so answer sink sink' faults faults' status (inr (inl shown)) fault = absurd ((told-status answer).0 (sym shown.0.same ∙ fault))
write-so answer sink sink' faults faults' status (inr (inr cut)) fault = cut.2

-- if the answer's status is a failed reading, so is the call's, or it is one of the two that go
-- before it
pub source-so : (answer : Answer) (sink sink' : SinkState) (faults faults' : ℕ) (status : Status) → ShowsAnswer answer sink sink' faults faults' status
    → status_of answer ≡ ReadFault → (status ≡ ReadFault) ⊎ (status ≡ WriteFault) ⊎ (status ≡ NoMemory)
source-so answer sink sink' faults faults' status (inl none) told = inr (inr none.0)
source-so answer sink sink' faults faults' status (inr (inl shown)) told = inl (shown.0.same ∙ told)
source-so answer sink sink' faults faults' status (inr (inr cut)) told = inr (inl cut.0.fault)

-- if a count stays unless the answer's status is a failed reading, it stays unless the call's is, or
-- one of the two that go before it
pub source-stays : (old new : ℕ) (answer : Answer) (sink sink' : SinkState) (faults faults' : ℕ) (status : Status) → ShowsAnswer answer sink sink' faults faults' status
    → StaysUnless old new (status_of answer ≡ ReadFault) → StaysUnless old new ((status ≡ ReadFault) ⊎ (status ≡ WriteFault) ⊎ (status ≡ NoMemory))
source-stays old new answer sink sink' faults faults' status shown (inl same) = inl same
source-stays old new answer sink sink' faults faults' status shown (inr rose) = inr (rose.0, rose.1, source-so answer sink sink' faults faults' status shown rose.2)

-- the sink's count stays unless the status is a failed writing
pub sink-stays : (answer : Answer) (sink sink' : SinkState) (faults faults' : ℕ) (status : Status) → ShowsAnswer answer sink sink' faults faults' status
    → StaysUnless faults faults' (status ≡ WriteFault)
sink-stays answer sink sink' faults faults' status (inl none) = inl none.1
sink-stays answer sink sink' faults faults' status (inr (inl shown)) = inl shown.1
sink-stays answer sink sink' faults faults' status (inr (inr cut)) = inr (cut.1, cut.2, cut.0.fault)

-- if the sink did not fail, what holds for running out of memory and for the answer's status holds
-- for the status
pub status-so : (P : Status → Type 0) (answer : Answer) (sink sink' : SinkState) (faults faults' : ℕ) (status : Status) → ShowsAnswer answer sink sink' faults faults' status
    → ¬ Rose faults faults' → P NoMemory → P (status_of answer) → P status
status-so P answer sink sink' faults faults' status (inl none) quiet wanted well = subst P (sym none.0) wanted
status-so P answer sink sink' faults faults' status (inr (inl shown)) quiet wanted well = subst P (sym shown.0.same) well
status-so P answer sink sink' faults faults' status (inr (inr cut)) quiet wanted well = absurd (quiet cut.2)

-- a status other than running out of memory and a failed sink is the answer's
pub told-so : (told : Status) → told ≢ NoMemory → told ≢ WriteFault → (answer : Answer) (sink sink' : SinkState) (faults faults' : ℕ) (status : Status) → ShowsAnswer answer sink sink' faults faults' status → status ≡ told
    → status_of answer ≡ told
told-so told some whole answer sink sink' faults faults' status (inl none) same = absurd (some (sym same ∙ none.0))
told-so told some whole answer sink sink' faults faults' status (inr (inl shown)) same = sym shown.0.same ∙ same
told-so told some whole answer sink sink' faults faults' status (inr (inr cut)) same = absurd (whole (sym same ∙ cut.0.fault))

-- if the answer has this status, so has the call, or it has one of the two that go before it
pub comes-so : (told : Status) (answer : Answer) (sink sink' : SinkState) (faults faults' : ℕ) (status : Status) → ShowsAnswer answer sink sink' faults faults' status → status_of answer ≡ told
    → (status ≡ told) ⊎ (status ≡ WriteFault) ⊎ (status ≡ NoMemory)
comes-so told answer sink sink' faults faults' status (inl none) is = inr (inr none.0)
comes-so told answer sink sink' faults faults' status (inr (inl shown)) is = inl (shown.0.same ∙ is)
comes-so told answer sink sink' faults faults' status (inr (inr cut)) is = inr (inl cut.0.fault)
