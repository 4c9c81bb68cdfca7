-- What follows from how an answer was shown.
use Rattle.std.proofs.Common.{◌≡◌, ◌≢◌, ℕ, ◌⊎◌, inl, inr, List, Option, Result, Ok, Err, IsOk, IsErr, refl, sym, ap, ◌∙◌}
use Rattle.dcop_edge.specs.Faults.{Rose}
use Rattle.answer_io.specs.Showing.{StaysUnless}
use Rattle.serve_top.specs.Words.{words_read}
use Rattle.serve_top.specs.declared.words.ServeWords.{ServeWords}
use Rattle.serve_top.specs.declared.words.Refused.{Refused}
use Rattle.serve_top.specs.declared.answer.ServeAnswer.{ServeAnswer}
use Rattle.serve_top.specs.declared.answer.ServeAnswer.TheVariants as answers
use Rattle.serve_top.specs.Serving.{status_of, Listening, Sinking, IsServeAnswer, AnswersServe, ShowsSummary, HasAnswered}
use Rattle.serve_top.specs.declared.status.ServeStatus.{ServeStatus}
use Rattle.serve_top.specs.declared.status.ServeStatus.TheVariants.{Solved, BadWords, WriteFault, NoMemory, LinkFault}

-- no answer has the status of a failed sink or of running out of memory
not_write : (answer : ServeAnswer) → status_of answer ≡ WriteFault → ⊥
not_write (answers.Words at kind) e = cc
not_write answers.Link e = cc
not_write (answers.Summary ends looks) e = cc

pub write_so : (answer : ServeAnswer) (sink sink' : Sinking) (status : ServeStatus) → ShowsSummary answer sink sink' status → status ≡ WriteFault → Rose sink.faults sink'.faults
write_so answer sink sink' status (inl shown) e = absurd (not_write answer (sym shown.0 ∙ e))
write_so answer sink sink' status (inr cut) e = cut.3

-- while an answer was shown the sink's count stays, unless the status is a failed writing
sink_so : (answer : ServeAnswer) (sink sink' : Sinking) (status : ServeStatus) → ShowsSummary answer sink sink' status → StaysUnless sink.faults sink'.faults (status ≡ WriteFault)
sink_so answer sink sink' status (inl shown) = inl shown.3
sink_so answer sink sink' status (inr cut) = inr (cut.2, cut.3, cut.0)

-- whether memory ran out
wanted : (status : ServeStatus) → (status ≡ NoMemory) ⊎ (status ≢ NoMemory)
wanted Solved = inr (λ e. cc)
wanted BadWords = inr (λ e. cc)
wanted WriteFault = inr (λ e. cc)
wanted NoMemory = inl refl
wanted LinkFault = inr (λ e. cc)

module _ {S K : Type 0} (left : S → Option (List ℕ)) (reads : S → ℕ) (held : K → Option (List ℕ)) (writes : K → ℕ) (is_reply : List ℕ → List ℕ → Type 0) where
  refused_by : (read : Result ServeWords Refused) (before after : Listening (S × K)) (answer : ServeAnswer) → IsServeAnswer left reads held writes is_reply read before after answer → status_of answer ≡ BadWords → IsErr read
  refused_by (Err r) before after answer h e = refl
  refused_by (Ok asked) before after answers.Link h e = absurd cc
  refused_by (Ok asked) before after (answers.Summary ends looks) h e = absurd cc
  refused_by (Ok asked) before after (answers.Words at kind) h e = absurd h

  link_by : (read : Result ServeWords Refused) (before after : Listening (S × K)) (answer : ServeAnswer) → IsServeAnswer left reads held writes is_reply read before after answer → status_of answer ≡ LinkFault → Rose before.faults after.faults
  link_by (Err r) before after answers.Link h e = absurd (let f = h.0 in cc)
  link_by (Err r) before after (answers.Words at kind) h e = absurd cc
  link_by (Err r) before after (answers.Summary ends looks) h e = absurd cc
  link_by (Ok asked) before after answers.Link h e = h.1
  link_by (Ok asked) before after (answers.Words at kind) h e = absurd h
  link_by (Ok asked) before after (answers.Summary ends looks) h e = absurd cc

  stays_by : (read : Result ServeWords Refused) (before after : Listening (S × K)) (answer : ServeAnswer) → IsServeAnswer left reads held writes is_reply read before after answer → StaysUnless before.faults after.faults (status_of answer ≡ LinkFault)
  stays_by (Err r) before after answer h = inl (ap (λ (l : Listening (S × K)). l.faults) h.1)
  stays_by (Ok asked) before after answers.Link h = inr (h.0, h.1, refl)
  stays_by (Ok asked) before after (answers.Words at kind) h = absurd h
  stays_by (Ok asked) before after (answers.Summary ends looks) h = inl h.1

  solved_by : (read : Result ServeWords Refused) (before after : Listening (S × K)) (answer : ServeAnswer) → IsServeAnswer left reads held writes is_reply read before after answer → IsOk read → ¬ Rose before.faults after.faults → status_of answer ≡ Solved
  solved_by (Err r) before after answer h accepted quiet = absurd (let a = accepted in cc)
  solved_by (Ok asked) before after answers.Link h accepted quiet = absurd (quiet h.1)
  solved_by (Ok asked) before after (answers.Words at kind) h accepted quiet = absurd h
  solved_by (Ok asked) before after (answers.Summary ends looks) h accepted quiet = refl

  pub refused_so : (words : List (List ℕ)) (l l' : Listening (S × K)) (sink sink' : Sinking) (status : ServeStatus) → HasAnswered left reads held writes is_reply words l l' sink sink' status → status ≡ BadWords → IsErr (words_read words)
  refused_so words l l' sink sink' status (answer, belongs, inl shown) e = refused_by (words_read words) l l' answer belongs (sym shown.0 ∙ e)
  refused_so words l l' sink sink' status (answer, belongs, inr cut) e = absurd (let f = sym cut.0 ∙ e in cc)

  pub link_so : (words : List (List ℕ)) (l l' : Listening (S × K)) (sink sink' : Sinking) (status : ServeStatus) → HasAnswered left reads held writes is_reply words l l' sink sink' status → status ≡ LinkFault → Rose l.faults l'.faults
  link_so words l l' sink sink' status (answer, belongs, inl shown) e = link_by (words_read words) l l' answer belongs (sym shown.0 ∙ e)
  link_so words l l' sink sink' status (answer, belongs, inr cut) e = absurd (let f = sym cut.0 ∙ e in cc)

  well_so : (words : List (List ℕ)) (l l' : Listening (S × K)) (sink sink' : Sinking) (status : ServeStatus) → HasAnswered left reads held writes is_reply words l l' sink sink' status → IsOk (words_read words)
      → ¬ Rose l.faults l'.faults → ¬ Rose sink.faults sink'.faults → (status ≡ Solved) ⊎ (status ≡ NoMemory)
  well_so words l l' sink sink' status (answer, belongs, inl shown) accepted quiet still = inl (shown.0 ∙ solved_by (words_read words) l l' answer belongs accepted quiet)
  well_so words l l' sink sink' status (answer, belongs, inr cut) accepted quiet still = absurd (still cut.3)

  listener_by : (words : List (List ℕ)) (l l' : Listening (S × K)) (answer : ServeAnswer) (sink sink' : Sinking) (status : ServeStatus) → (status ≢ NoMemory → ShowsSummary answer sink sink' status)
      → StaysUnless l.faults l'.faults (status_of answer ≡ LinkFault) → (status ≡ NoMemory) ⊎ (status ≢ NoMemory) → StaysUnless l.faults l'.faults ((status ≡ LinkFault) ⊎ (status ≡ WriteFault) ⊎ (status ≡ NoMemory))
  listener_by words l l' answer sink sink' status h (inl same) memory = inl same
  listener_by words l l' answer sink sink' status h (inr rose) (inl none) = inr (rose.0, rose.1, inr (inr none))
  listener_by words l l' answer sink sink' status h (inr rose) (inr some) =
      inr (rose.0, rose.1, elim (h some) [ inl shown ↦ inl (shown.0 ∙ rose.2) | inr cut ↦ inr (inl cut.0) ])

  -- the listener's count stays, unless the answer is that it failed, or was not shown
  pub listener_failed : (words : List (List ℕ)) (l l' : Listening (S × K)) (answer : ServeAnswer) (sink sink' : Sinking) (status : ServeStatus) → AnswersServe left reads held writes is_reply words l l' answer → (status ≢ NoMemory → ShowsSummary answer sink sink' status)
      → StaysUnless l.faults l'.faults ((status ≡ LinkFault) ⊎ (status ≡ WriteFault) ⊎ (status ≡ NoMemory))
  listener_failed words l l' answer sink sink' status belongs h = listener_by words l l' answer sink sink' status h (stays_by (words_read words) l l' answer belongs) (wanted status)

  sink_by : (words : List (List ℕ)) (l l' : Listening (S × K)) (sink sink' : Sinking) (status : ServeStatus) → (status ≢ NoMemory → HasAnswered left reads held writes is_reply words l l' sink sink' status) → (status ≡ NoMemory → sink'.faults ≡ sink.faults)
      → (status ≡ NoMemory) ⊎ (status ≢ NoMemory) → StaysUnless sink.faults sink'.faults (status ≡ WriteFault)
  sink_by words l l' sink sink' status h same (inl none) = inl (same none)
  sink_by words l l' sink sink' status h same (inr some) = sink_so (h some).0 sink sink' status (h some).2

  pub sink_failed : (words : List (List ℕ)) (l l' : Listening (S × K)) (sink sink' : Sinking) (status : ServeStatus) → (status ≢ NoMemory → HasAnswered left reads held writes is_reply words l l' sink sink' status) → (status ≡ NoMemory → sink'.faults ≡ sink.faults)
      → StaysUnless sink.faults sink'.faults (status ≡ WriteFault)
  sink_failed words l l' sink sink' status h same = sink_by words l l' sink sink' status h same (wanted status)

  well_by : (words : List (List ℕ)) (l l' : Listening (S × K)) (sink sink' : Sinking) (status : ServeStatus) → (status ≢ NoMemory → HasAnswered left reads held writes is_reply words l l' sink sink' status) → IsOk (words_read words)
      → ¬ Rose l.faults l'.faults → ¬ Rose sink.faults sink'.faults → (status ≡ NoMemory) ⊎ (status ≢ NoMemory) → (status ≡ Solved) ⊎ (status ≡ NoMemory)
  well_by words l l' sink sink' status h accepted quiet still (inl none) = inr none
  well_by words l l' sink sink' status h accepted quiet still (inr some) = well_so words l l' sink sink' status (h some) accepted quiet still

  pub complete : (words : List (List ℕ)) (l l' : Listening (S × K)) (sink sink' : Sinking) (status : ServeStatus) → (status ≢ NoMemory → HasAnswered left reads held writes is_reply words l l' sink sink' status) → IsOk (words_read words)
      → ¬ Rose l.faults l'.faults → ¬ Rose sink.faults sink'.faults → (status ≡ Solved) ⊎ (status ≡ NoMemory)
  complete words l l' sink sink' status h accepted quiet still = well_by words l l' sink sink' status h accepted quiet still (wanted status)
