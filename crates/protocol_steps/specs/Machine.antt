-- What a machine requires and promises, over its view before and after a call.
use Rattle.std.specs.Prelude.{◌≡◌, ℕ, ◌≤◌, true, false, ◌⊎◌, List, [], ◌∷◌}
use Rattle.std.specs.List.{All, Contains}
use Rattle.protocol_steps.specs.declared.message.Message.{Message}
use Rattle.protocol_steps.specs.View.{View, private_of, started_of, ended_of, failed_of}
use Rattle.protocol_steps.specs.Step.{start_of, step_of}

-- an agent may start if it has not started, or if it has failed
abbrev pub MayStart : View → Type 0
MayStart v = (started_of v ≡ false) ⊎ (failed_of v ≡ true)

-- an agent may react if it has started and not ended, or if it has failed
abbrev pub MayReact : View → Type 0
MayReact v = ((started_of v ≡ true) × (ended_of v ≡ false)) ⊎ (failed_of v ≡ true)

-- the sender of a letter, or the receiver of a parcel, is a neighbour
abbrev pub IsToNeighbour : View → ℕ × Message → Type 0
IsToNeighbour v p = Contains (private_of v).neighbours p.0

-- the senders are at least b, and they do not descend
abbrev pub SendersFrom : ℕ → List (ℕ × Message) → Type 0
SendersFrom b [] = Unit {0}
SendersFrom b (l ∷ ls) = (b ≤ l.0) × SendersFrom l.0 ls

-- a batch: at least one letter, all from neighbours, in ascending order of the senders
pub record IsBatch (v : View) (ls : List (ℕ × Message)) : Type 0 where
  pub some : ls ≡ [] → ⊥
  pub ascend : SendersFrom 0 ls
  pub neighbours : All (IsToNeighbour v) ls

-- the agent has started: its view and what it sends are those of its start
pub record IsStart (before after : View) (sends : List (ℕ × Message)) : Type 0 where
  pub viewed : after ≡ (start_of before).view
  pub sent : sends ≡ (start_of before).sends

-- the agent has reacted to a batch: its view and what it sends are those of its step
pub record IsStep (before : View) (ls : List (ℕ × Message)) (after : View) (sends : List (ℕ × Message)) : Type 0 where
  pub viewed : after ≡ (step_of before ls).view
  pub sent : sends ≡ (step_of before ls).sends

-- the agent has failed because memory ran out
abbrev pub HasFailed : View → Type 0
HasFailed v = failed_of v ≡ true
