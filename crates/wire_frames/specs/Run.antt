-- Whole streams: however they are cut, their frames are handed out in order.
use Rattle.std.specs.Prelude.{◌≡◌, ℕ, ◌≤◌, min, Bool, List, [], ◌∷◌, ◌++◌, length, Option, Some, None, Result, Ok, Err}
use Rattle.std.specs.List.{All}
use Rattle.dcop_base.specs.Limits.{count_limit}
use Rattle.wire_frames.specs.declared.fault.FrameFault.{FrameFault}
use Rattle.wire_frames.specs.declared.fault.FrameFault.TheVariants.{TooLong, NoMemory}
use Rattle.wire_frames.specs.Frame.{payload_limit, framed_all, EndsAt}
use Rattle.wire_frames.specs.Reader.{Reader, fresh, Takes, Feeds, Hands}

-- what a reader was asked to do and how it answered: to take a piece, or to hand out a payload
pub data Deed : Type 0 where
  fed : List ℕ → Result (Unit {0}) FrameFault → Deed
  asked : Option (List ℕ) → Deed

-- what a deed does to the reader
abbrev pub Does : Deed → Reader → Reader → Type 0
Does (fed piece answer) before after = Feeds before piece answer after
Does (asked given) before after = Hands before given after

-- these deeds, one after the other, lead from one reader to another
abbrev pub Lead : List Deed → Reader → Reader → Type 0
Lead [] before after = after ≡ before
Lead (d ∷ ds) before after = (next : Reader) × Does d before next × Lead ds next after

-- the pieces joined; without pieces whose feed ran out of memory, and without those after the first
-- one that met a length field above the limit
abbrev pub stream_of : List Deed → List ℕ
stream_of [] = []
stream_of (fed piece (Ok done) ∷ ds) = piece ++ stream_of ds
stream_of (fed piece (Err (TooLong place)) ∷ ds) = piece
stream_of (fed piece (Err NoMemory) ∷ ds) = stream_of ds
stream_of (asked given ∷ ds) = stream_of ds

-- the payloads that were handed out
abbrev pub handed : List Deed → List (List ℕ)
handed [] = []
handed (fed piece answer ∷ ds) = handed ds
handed (asked None ∷ ds) = handed ds
handed (asked (Some payload) ∷ ds) = payload ∷ handed ds

-- the stream is the frames of these payloads, each within the limit, and then this rest: a length
-- field above the limit, or less than a frame
pub record Splits (limit : ℕ) (stream : List ℕ) (payloads : List (List ℕ)) (rest : List ℕ) (stuck : Bool) : Type 0 where
  pub whole : stream ≡ framed_all payloads ++ rest
  pub within : All (λ p. length p ≤ limit) payloads
  pub ends : EndsAt limit rest stuck

-- the reader has read this stream, and has handed out these payloads of it; what follows the frames
-- of all payloads, handed out or held, is the reader's rest, and its position is the reader's
pub record HasRead (stream : List ℕ) (out : List (List ℕ)) (r : Reader) : Type 0 where
  pub splits : Splits r.limit stream (out ++ r.ready) r.rest r.stuck
  pub place : r.place ≡ min (length (framed_all (out ++ r.ready))) count_limit

-- however a stream is cut, its frames in order are the payloads handed out and those still held;
-- what is left of it is the reader's rest, and its position is the reader's
abbrev pub ReadsWhole : Type 0
ReadsWhole = (limit : ℕ) (ds : List Deed) (r : Reader) → Lead ds (fresh limit) r → HasRead (stream_of ds) (handed ds) r × (r.limit ≡ limit)

-- if a reader has read a stream and takes a piece, it has read the longer stream
abbrev pub TakesOn : Type 0
TakesOn = (stream piece : List ℕ) (out : List (List ℕ)) (before after : Reader) → HasRead stream out before → Takes before piece after → HasRead (stream ++ piece) out after

-- if a reader has read a stream and hands out a payload, it has handed out one payload more
abbrev pub HandsOn : Type 0
HandsOn = (stream payload : List ℕ) (out : List (List ℕ)) (before after : Reader) → HasRead stream out before → Hands before (Some payload) after → HasRead stream (out ++ payload ∷ []) after

-- a stream can be split in only one way: the payloads, the rest, and how it ends are the same
abbrev pub SplitsOnce : Type 0
SplitsOnce = (limit : ℕ) (stream : List ℕ) (ps qs : List (List ℕ)) (r s : List ℕ) (a b : Bool) → limit ≤ payload_limit → Splits limit stream ps r a → Splits limit stream qs s b → (ps ≡ qs) × (r ≡ s) × (a ≡ b)
