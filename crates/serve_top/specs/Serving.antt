-- What the server's top call answers, and how it shows it.
use Rattle.std.specs.Prelude.{◌≡◌, ℕ, ◌≤◌, ◌⊎◌, Bool, true, List, length, take, Option, Result, Ok, Err}
use Rattle.dcop_edge.specs.Faults.{Rose}
use Rattle.dcop_edge.specs.Sink.{Adds}
use Rattle.serve_top.specs.Words.{words_read}
use Rattle.serve_top.specs.Text.{answer_text}
use Rattle.serve_top.specs.declared.words.ServeWords.{ServeWords}
use Rattle.serve_top.specs.declared.words.Refused.{Refused}
use Rattle.serve_top.specs.declared.answer.ServeAnswer.{ServeAnswer}
use Rattle.serve_top.specs.declared.answer.ServeAnswer.TheVariants as answers
use Rattle.serve_clients.specs.Sessions.{HaveServed}
use Rattle.serve_top.specs.declared.status.ServeStatus.{ServeStatus}
use Rattle.serve_top.specs.declared.status.ServeStatus.TheVariants.{Solved, BadWords, WriteFault, NoMemory, LinkFault}

-- the status of an answer
abbrev pub status_of : ServeAnswer → ServeStatus
status_of (answers.Words at kind) = BadWords
status_of answers.Link = LinkFault
status_of (answers.Summary ends looks) = Solved

-- the exit code of each status
abbrev pub code_of : ServeStatus → ℕ
code_of Solved = 0
code_of BadWords = 2
code_of WriteFault = 6
code_of NoMemory = 7
code_of LinkFault = 8

-- the state of a listener: its count of faults, and the connections that wait and those that were
-- given back, if they are known
pub record Listening (C : Type 0) : Type 0 where
  pub faults : ℕ
  pub waiting : Option (List C)
  pub closed : Option (List C)

-- the listener in this state
abbrev pub listening : {C : Type 0} → ℕ → Option (List C) → Option (List C) → Listening C
listening faults waiting closed = record { faults = faults; waiting = waiting; closed = closed }

-- the state of a sink: the bytes that it holds, if they are known, whether it is finished, and its
-- count of faults
pub record Sinking : Type 0 where
  pub held : Option (List ℕ)
  pub finished : Bool
  pub faults : ℕ

-- the sink in this state
abbrev pub sinking : Option (List ℕ) → Bool → ℕ → Sinking
sinking held finished faults = record { held = held; finished = finished; faults = faults }

module _ {S K : Type 0} (left : S → Option (List ℕ)) (reads : S → ℕ) (held : K → Option (List ℕ)) (writes : K → ℕ) (is_reply : List ℕ → List ℕ → Type 0) where
  -- the answer to words: their refusal; or, if they are accepted, that the listener failed, or the
  -- sessions of all clients
  abbrev pub IsServeAnswer : Result ServeWords Refused → Listening (S × K) → Listening (S × K) → ServeAnswer → Type 0
  IsServeAnswer (Err refused) before after answer = (answer ≡ answers.Words refused.at refused.kind) × (after ≡ before)
  IsServeAnswer (Ok asked) before after answers.Link = (before.faults ≤ after.faults) × Rose before.faults after.faults
  IsServeAnswer (Ok asked) before after (answers.Summary ends looks) =
      HaveServed left reads held writes is_reply asked.clients ends.items looks before.waiting after.waiting before.closed after.closed × (after.faults ≡ before.faults)
  IsServeAnswer (Ok asked) before after (answers.Words at kind) = ⊥

  -- the answer that belongs to words and to what the listener gave
  abbrev pub AnswersServe : List (List ℕ) → Listening (S × K) → Listening (S × K) → ServeAnswer → Type 0
  AnswersServe words before after answer = IsServeAnswer (words_read words) before after answer

-- the whole text of an answer was written and the sink is finished; or the sink failed after a
-- prefix of it
abbrev pub ShowsSummary : ServeAnswer → Sinking → Sinking → ServeStatus → Type 0
ShowsSummary answer before after status =
    ((status ≡ status_of answer) × Adds before.held (answer_text answer) after.held × (after.finished ≡ true) × (after.faults ≡ before.faults))
    ⊎ ((status ≡ WriteFault) × ((count : ℕ) × (count ≤ length (answer_text answer)) × Adds before.held (take count (answer_text answer)) after.held) × (before.faults ≤ after.faults) × Rose before.faults after.faults)

-- an answer that belongs to words and to what the listener gave was shown
abbrev pub HasAnswered : {S K : Type 0} → (S → Option (List ℕ)) → (S → ℕ) → (K → Option (List ℕ)) → (K → ℕ) → (List ℕ → List ℕ → Type 0) → List (List ℕ) → Listening (S × K) → Listening (S × K) → Sinking → Sinking → ServeStatus → Type 0
HasAnswered left reads held writes is_reply words listener listener' sink sink' status =
    (answer : ServeAnswer) × AnswersServe left reads held writes is_reply words listener listener' answer × ShowsSummary answer sink sink' status
