-- The stamp law for journals: what an agent did, given its journal and the lists of messages that it took.
use Rattle.std.specs.Prelude.{◌≡◌, ℕ, ◌≤◌, List, [], ◌∷◌, map, length, take, drop, Some, slice_get, slice_index_or}
use Rattle.std.specs.List.{flat_map}
use Rattle.protocol_steps.specs.declared.message.Message.{Message}
use Rattle.protocol_steps.specs.declared.event.Take.{Take}
use Rattle.protocol_steps.specs.declared.event.Entry.{Entry}
use Rattle.protocol_steps.specs.View.{View}
use Rattle.protocol_steps.specs.Network.{taken_from, start_state}
use Rattle.protocol_steps.specs.Stamps.{Gain, Deed, Account, account_of}
use Rattle.protocol_steps.specs.Deeds.{event_of, AreDeeds, deeds_of, after_all}
use Rattle.protocol_steps.specs.StampLaw.{TakenIsPrefix, ArePieces, all_of, Shows, EndsAt}
use Rattle.protocol_steps.specs.Rounds.{AgreeWith}

-- what a take cuts off the front of its sender's list; there is one list of stamped messages for each sender
abbrev pub cut_off : (ℕ → List (ℕ × Message)) → Take → Gain
cut_off lists t = record { from = t.from; envelopes = take t.count (lists t.from) }

-- what remains of the lists after these takes
abbrev pub left_of : (ℕ → List (ℕ × Message)) → List Take → ℕ → List (ℕ × Message)
left_of lists ts j = drop (taken_from j ts) (lists j)

-- the activations of agent i: the lists of messages that it took, cut up by the takes of its journal entries
abbrev pub deeds_from : ℕ → (ℕ → List (ℕ × Message)) → List Entry → List Deed
deeds_from i lists [] = []
deeds_from i lists (e ∷ es) = record { agent = i; stamp = e.stamp; gains = map (cut_off lists) e.takes } ∷ deeds_from i (left_of lists e.takes) es

-- the lists hold at least as many messages as the entries take
abbrev pub AreEnough : (ℕ → List (ℕ × Message)) → List Entry → Type 0
AreEnough lists es = (j : ℕ) → taken_from j (flat_map (λ e. e.takes) es) ≤ length (lists j)

-- the journal of agent i in a family of journals
abbrev pub journal_at : List (List Entry) → ℕ → List Entry
journal_at journals i = slice_index_or journals i []

-- the accounts of agents that have just started and have taken nothing
pub record AreStarts (made : List View) (now : ℕ → Account) : Type 0 where
  pub started : (i : ℕ) (v : View) → slice_get made i ≡ Some v → now i ≡ account_of v
  pub idle : (i : ℕ) → (now i).gains ≡ []

-- the start state is the network of these accounts, and on each link what was taken is the first part of what was sent
abbrev pub StartsShow : Type 0
StartsShow = (made : List View) (now : ℕ → Account) → AreStarts made now → Shows (length made) (start_state made) now × TakenIsPrefix now

-- the activations are those that the journals and the lists of taken messages give, and those of
-- each agent may follow its account
pub record AreOfJournals (n : ℕ) (now : ℕ → Account) (taken : ℕ → ℕ → List (ℕ × Message)) (journals : List (List Entry)) (ds : List Deed) : Type 0 where
  pub same : (i : ℕ) → deeds_of i ds ≡ deeds_from i (taken i) (journal_at journals i)
  pub allowed : (i : ℕ) → AreDeeds n (now i) (deeds_from i (taken i) (journal_at journals i))
  pub enough : (i : ℕ) → AreEnough (taken i) (journal_at journals i)

-- the activations are a run from the start state, and the journals agree with it
pub record IsRunOf (made : List View) (now : ℕ → Account) (journals : List (List Entry)) (ds : List Deed) : Type 0 where
  pub ends : EndsAt (length made) (start_state made) ds (after_all now ds)
  pub agrees : AgreeWith journals (map event_of ds)

-- the stamp law for journals: the activations that journals give, ordered by piece, such as a
-- round, and in each piece by stamp, are a run from the start state, and the journals agree with it
abbrev pub JournalsOrder : Type 0
JournalsOrder = (made : List View) (now : ℕ → Account) (taken : ℕ → ℕ → List (ℕ × Message)) (journals : List (List Entry)) (pieces : List (List Deed)) → AreStarts made now
    → AreOfJournals (length made) now taken journals (all_of pieces) → ArePieces now pieces → IsRunOf made now journals (all_of pieces)
