-- What a session does to answer one request.
use Rattle.std.specs.Prelude.{◌≡◌, ℕ, ◌+◌, ◌≤◌, Bool, true, false, List, [], ◌∷◌, length, take, Option, Result, Ok, Err}
use Rattle.dcop_base.specs.declared.memory.NoMemory.{NoMemory}
use Rattle.dcop_edge.specs.Faults.{Rose}
use Rattle.dcop_edge.specs.Sink.{Adds}
use Rattle.reply_cache.specs.Cache.{misses_of}
use Rattle.reply_cache.specs.Steps.{Step, Looked, Made}
use Rattle.wire_frames.specs.Frame.{framed}
use Rattle.solve_serve.specs.declared.stop.Stop.{Stop}
use Rattle.solve_serve.specs.declared.stop.Stop.TheVariants as stops

-- a number of looks, how many of them found nothing, and the number of calls of a maker
pub record Tally : Type 0 where
  pub looks : ℕ
  pub misses : ℕ
  pub calls : ℕ

-- the tally with these counts
abbrev pub tally : ℕ → ℕ → ℕ → Tally
tally looks misses calls = record { looks = looks; misses = misses; calls = calls }

-- looks were made, one for each entry of the list, which says whether it found a reply; and the
-- maker was called once for each look that found nothing
pub record Tallies (finds : List Bool) (before after : Tally) : Type 0 where
  pub looks : after.looks ≡ before.looks + length finds
  pub misses : after.misses ≡ before.misses + misses_of finds
  pub calls : after.calls ≡ before.calls + misses_of finds

-- the steps for these keys, in order: a look for each key, and if it found nothing, the reply to
-- this key is made
abbrev pub steps_for : List (List ℕ) → List Bool → List Step
steps_for (key ∷ keys) (true ∷ finds) = Looked key true ∷ steps_for keys finds
steps_for (key ∷ keys) (false ∷ finds) = Looked key false ∷ Made key ∷ steps_for keys finds
steps_for keys finds = []

-- for each of these keys, in order, a look was made, and its reply was made exactly if the look
-- found nothing. `went` holds of the list of these steps: the looks, and the making of replies. (It
-- is used for the statement that a maker took these steps.)
pub record AreLooked (went : List Step → Type 0) (keys : List (List ℕ)) (before after : Tally) : Type 0 where
  pub finds : List Bool
  pub each : length finds ≡ length keys
  pub steps : went (steps_for keys finds)
  pub tally : Tallies finds before after

-- at most one look was made
pub record IsLookedOnce (went : List Step → Type 0) (before after : Tally) : Type 0 where
  pub more : List (List ℕ)
  pub once : length more ≤ 1
  pub looked : AreLooked went more before after

-- the tally of making the reply to a key: one look, for this key; or memory ran out, before the look
-- or after it
abbrev pub IsReplied : (List Step → Type 0) → List ℕ → Result (List ℕ) NoMemory → Tally → Tally → Type 0
IsReplied went key (Ok reply) before after = AreLooked went (key ∷ []) before after
IsReplied went key (Err refused) before after = IsLookedOnce went before after

-- what a sink holds, if it is known, its count of faults, and a tally
pub record Answering : Type 0 where
  pub held : Option (List ℕ)
  pub faults : ℕ
  pub tally : Tally

-- the answering with these parts
abbrev pub answering : Option (List ℕ) → ℕ → Tally → Answering
answering held faults tally = record { held = held; faults = faults; tally = tally }

-- a request was not answered because memory ran out: nothing was written
pub record IsUnanswered (went : List Step → Type 0) (before after : Answering) : Type 0 where
  pub looked : IsLookedOnce went before.tally after.tally
  pub held : after.held ≡ before.held
  pub faults : after.faults ≡ before.faults

-- this request was answered, given which bytes are its reply: its reply's frame was written; or a
-- prefix of that frame, and the sink failed; or memory ran out
abbrev pub IsAnswered : (List ℕ → List ℕ → Type 0) → (List Step → Type 0) → List ℕ → Result (Unit {0}) Stop → Answering → Answering → Type 0
IsAnswered is_reply went request (Ok done) before after =
    (reply : List ℕ) × is_reply request reply × AreLooked went (request ∷ []) before.tally after.tally × Adds before.held (framed reply) after.held × (after.faults ≡ before.faults)
IsAnswered is_reply went request (Err stops.Write) before after =
    (reply : List ℕ) × is_reply request reply × AreLooked went (request ∷ []) before.tally after.tally
    × ((count : ℕ) × (count ≤ length (framed reply)) × Adds before.held (take count (framed reply)) after.held) × Rose before.faults after.faults
IsAnswered is_reply went request (Err stops.Memory) before after = IsUnanswered went before after
IsAnswered is_reply went request (Err stop) before after = ⊥
