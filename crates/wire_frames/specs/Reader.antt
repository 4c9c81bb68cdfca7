-- A reader of frames: what it holds, and how its methods change it.
use Rattle.std.specs.Prelude.{◌≡◌, ℕ, ◌+◌, ◌≤◌, min, Bool, true, false, List, [], ◌∷◌, ◌++◌, length, Option, Some, None, Result, Ok, Err}
use Rattle.std.specs.List.{All}
use Rattle.dcop_base.specs.Limits.{count_limit}
use Rattle.wire_frames.specs.declared.fault.FrameFault.{FrameFault}
use Rattle.wire_frames.specs.declared.fault.FrameFault.TheVariants.{TooLong, NoMemory}
use Rattle.wire_frames.specs.Frame.{framed_all, EndsAt}

-- the limit of payloads, the payloads that are held, the bytes after their frames, the position of
-- those bytes in the stream, and whether they begin with a length field above the limit
pub record Reader : Type 0 where
  pub limit : ℕ
  pub ready : List (List ℕ)
  pub rest : List ℕ
  pub place : ℕ
  pub stuck : Bool

-- a reader that has taken nothing
abbrev pub fresh : ℕ → Reader
fresh limit = record { limit = limit; ready = []; rest = []; place = 0; stuck = false }

-- a reader takes a piece of bytes: the payloads of all frames that are now whole are added to those
-- that are ready; the bytes after these frames are its rest, and where they begin is its place,
-- which stays at `count_limit` if it is greater
pub record Takes (before : Reader) (piece : List ℕ) (after : Reader) : Type 0 where
  pub payloads : List (List ℕ)
  pub whole : before.rest ++ piece ≡ framed_all payloads ++ after.rest
  pub within : All (λ p. length p ≤ before.limit) payloads
  pub held : after.ready ≡ before.ready ++ payloads
  pub place : after.place ≡ min (before.place + length (framed_all payloads)) count_limit
  pub limit : after.limit ≡ before.limit
  pub ends : EndsAt after.limit after.rest after.stuck

-- a reader that had met a length field above the limit stays as it was; any other takes the piece
abbrev pub Stops : Bool → Reader → List ℕ → Reader → Type 0
Stops true before piece after = after ≡ before
Stops false before piece after = Takes before piece after

-- what feeding a piece does, by its answer: the piece is taken; or a length field above the limit
-- is met, now or in an earlier piece, and its position is given; or memory runs out and nothing
-- changes
abbrev pub Feeds : Reader → List ℕ → Result (Unit {0}) FrameFault → Reader → Type 0
Feeds before piece (Ok done) after = (before.stuck ≡ false) × (after.stuck ≡ false) × Takes before piece after
Feeds before piece (Err (TooLong place)) after = (place ≡ after.place) × (after.stuck ≡ true) × Stops before.stuck before piece after
Feeds before piece (Err NoMemory) after = (before.stuck ≡ false) × (after ≡ before)

-- the first payload, if there is one
abbrev pub first_of : List (List ℕ) → Option (List ℕ)
first_of [] = None
first_of (p ∷ ps) = Some p

-- the payloads after the first
abbrev pub after_first : List (List ℕ) → List (List ℕ)
after_first [] = []
after_first (p ∷ ps) = ps

-- the first payload that is held is handed out, if there is one, and nothing else changes
pub record Hands (before : Reader) (given : Option (List ℕ)) (after : Reader) : Type 0 where
  pub first : given ≡ first_of before.ready
  pub left : after ≡ record before { ready = after_first before.ready }
