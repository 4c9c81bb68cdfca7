-- What follows from how a reply was shown.
use Rattle.std.proofs.Common.{◌≡◌, ◌≢◌, ℕ, ◌⊎◌, sym, subst, ◌∙◌, inl, inr}
use Rattle.dcop_edge.specs.Faults.{Rose}
use Rattle.answer_io.specs.declared.status.Status.{Status}
use Rattle.answer_io.specs.declared.status.Status.TheVariants.{ReadFault, WriteFault, NoMemory}
use Rattle.answer_io.specs.Output.{SinkState}
use Rattle.answer_io.specs.Showing.{StaysUnless}
use Rattle.program_frame.specs.Replies.{IsShown, IsCut, Shows, reply_status}
use Rattle.program_frame.specs.declared.reply.Reply.{Reply}

-- a reply was shown so, and its status is not that of a failed sink
module _ (reply : Reply) (told : reply_status reply ≢ WriteFault) (sink sink' : SinkState) (faults faults' : ℕ) (status : Status) where
  -- unless memory ran out, the reply was shown or the sink failed
  pub shown-so : Shows reply sink sink' faults faults' status → status ≢ NoMemory → IsShown reply sink sink' status ⊎ IsCut reply sink sink' status
  shown-so (inl none) some = absurd (some none.0)
  shown-so (inr (inl shown)) some = inl shown.0
  shown-so (inr (inr cut)) some = inr cut.0

  -- a status of a failed reading is the reply's own
  pub read-so : Shows reply sink sink' faults faults' status → status ≡ ReadFault → reply_status reply ≡ ReadFault
  read-so (inl none) fault = let e = sym fault ∙ none.0 in cc
  read-so (inr (inl shown)) fault = sym shown.0.same ∙ fault
  read-so (inr (inr cut)) fault = let e = sym fault ∙ cut.0.fault in cc

  -- a status of a failed writing comes from the sink
  pub write-so : Shows reply sink sink' faults faults' status → status ≡ WriteFault → Rose faults faults'
  write-so (inl none) fault = let e = sym fault ∙ none.0 in cc
  write-so (inr (inl shown)) fault = absurd (told (sym shown.0.same ∙ fault))
  write-so (inr (inr cut)) fault = cut.2

  -- if the reply's status is a failed reading, so is the call's, or it is one of the two that go
  -- before it
  source-so : Shows reply sink sink' faults faults' status → reply_status reply ≡ ReadFault → (status ≡ ReadFault) ⊎ (status ≡ WriteFault) ⊎ (status ≡ NoMemory)
  source-so (inl none) told = inr (inr none.0)
  source-so (inr (inl shown)) told = inl (shown.0.same ∙ told)
  source-so (inr (inr cut)) told = inr (inl cut.0.fault)

  -- if a count stays unless the reply's status is a failed reading, it stays unless the call's is,
  -- or one of the two that go before it
  pub source-stays : (old new : ℕ) → Shows reply sink sink' faults faults' status → StaysUnless old new (reply_status reply ≡ ReadFault)
      → StaysUnless old new ((status ≡ ReadFault) ⊎ (status ≡ WriteFault) ⊎ (status ≡ NoMemory))
  source-stays old new shown (inl same) = inl same
  source-stays old new shown (inr rose) = inr (rose.0, rose.1, source-so shown rose.2)

  -- the sink's count stays unless the status is a failed writing
  pub sink-stays : Shows reply sink sink' faults faults' status → StaysUnless faults faults' (status ≡ WriteFault)
  sink-stays (inl none) = inl none.1
  sink-stays (inr (inl shown)) = inl shown.1
  sink-stays (inr (inr cut)) = inr (cut.1, cut.2, cut.0.fault)

  -- if the sink did not fail, what holds for the reply's status holds for the status, or memory ran
  -- out
  pub status-so : (P : Status → Type 0) → Shows reply sink sink' faults faults' status → ¬ Rose faults faults' → P (reply_status reply) → (status ≡ NoMemory) ⊎ P status
  status-so P (inl none) quiet well = inl none.0
  status-so P (inr (inl shown)) quiet well = inr (subst P (sym shown.0.same) well)
  status-so P (inr (inr cut)) quiet well = absurd (quiet cut.2)
