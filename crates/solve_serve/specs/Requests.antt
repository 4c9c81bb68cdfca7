-- What a session reads: its requests, and why no further one came.
use Rattle.std.specs.Prelude.{◌≡◌, ◌≢◌, ℕ, ◌<◌, true, false, List, [], ◌∷◌, ◌++◌, length, Option, Some, None, Result, Ok, Err}
use Rattle.std.specs.Io.KnownBytes.{prepend_known, IsAtEnd}
use Rattle.dcop_edge.specs.Faults.{Rose}
use Rattle.wire_frames.specs.Frame.{framed_all}
use Rattle.wire_frames.specs.Reader.{Reader, Takes}
use Rattle.wire_frames.specs.Run.{HasRead}
use Rattle.solve_serve.specs.Limits.{request_limit}
use Rattle.solve_serve.specs.declared.stop.Stop.{Stop}
use Rattle.solve_serve.specs.declared.stop.Stop.TheVariants as stops

-- from a source that had `start` left, a stream was read and taken by a reader, which handed out
-- these requests
pub record IsAhead (start : Option (List ℕ)) (requests : List (List ℕ)) (r : Reader) (left : Option (List ℕ)) : Type 0 where
  pub stream : List ℕ
  pub read : start ≡ prepend_known stream left
  pub stands : HasRead stream requests r
  pub limit : r.limit ≡ request_limit

-- a reader, what a source has left, and its count of faults
pub record Reading : Type 0 where
  pub reader : Reader
  pub left : Option (List ℕ)
  pub faults : ℕ

-- the reading with this reader, these bytes left and this count of faults
abbrev pub reading : Reader → Option (List ℕ) → ℕ → Reading
reading r left faults = record { reader = r; left = left; faults = faults }

-- a reading went on, and handed out nothing
abbrev pub GoesOn : Reading → Reading → Type 0
GoesOn before after = (start : Option (List ℕ)) (requests : List (List ℕ)) → IsAhead start requests before.reader before.left → IsAhead start requests after.reader after.left

-- a reading went on, and handed out this request
abbrev pub Gives : List ℕ → Reading → Reading → Type 0
Gives request before after = (start : Option (List ℕ)) (requests : List (List ℕ)) → IsAhead start requests before.reader before.left → IsAhead start (requests ++ request ∷ []) after.reader after.left

-- a reading went on, but not all bytes that were read were taken
abbrev pub Loses : Reading → Reading → Type 0
Loses before after = (start : Option (List ℕ)) (requests : List (List ℕ)) → IsAhead start requests before.reader before.left
    → (behind : List ℕ) × (start ≡ prepend_known (framed_all requests ++ behind) after.left)

-- a reading went on until no whole frame of what was read is left
pub record RunsDry (before after : Reading) : Type 0 where
  pub on : GoesOn before after
  pub none : after.reader.ready ≡ []

-- why no request came
abbrev pub IsStopped : Stop → Reading → Reading → Type 0
IsStopped stops.Closed before after = RunsDry before after × (after.reader.stuck ≡ false) × (after.reader.rest ≡ []) × IsAtEnd after.left × (after.faults ≡ before.faults)
IsStopped stops.Cut before after = RunsDry before after × (after.reader.stuck ≡ false) × (after.reader.rest ≢ []) × IsAtEnd after.left × (after.faults ≡ before.faults)
IsStopped (stops.Long place) before after = RunsDry before after × (after.reader.stuck ≡ true) × (place ≡ after.reader.place) × (after.faults ≡ before.faults)
IsStopped stops.Read before after = RunsDry before after × (after.reader.stuck ≡ false) × Rose before.faults after.faults
IsStopped stops.Write before after = ⊥
IsStopped stops.Memory before after = Loses before after × (after.faults ≡ before.faults)

-- the next request, or why none came
abbrev pub IsNext : Result (List ℕ) Stop → Reading → Reading → Type 0
IsNext (Ok request) before after = Gives request before after × (after.faults ≡ before.faults)
IsNext (Err stop) before after = IsStopped stop before after

-- a place is given exactly if a reader is at a length field that is too long, and then it is that
-- field's place
abbrev pub IsPlace : Option ℕ → Reader → Type 0
IsPlace None r = r.stuck ≡ false
IsPlace (Some place) r = (r.stuck ≡ true) × (place ≡ r.place)

-- one more piece was read, with the place of a length field that is too long, if the reader is at
-- one
abbrev pub IsPiece : Result (Option ℕ) Stop → Reading → Reading → Type 0
IsPiece (Ok place) before after = GoesOn before after × IsPlace place after.reader × (after.faults ≡ before.faults)
IsPiece (Err stop) before after = IsStopped stop before after

-- a reader that was at no length field that is too long took a piece: if that made no frame whole
-- and brought no such field, more bytes follow the whole frames
pub record HasGrown (before after : Reader) : Type 0 where
  pub free : before.stuck ≡ false
  pub limit : after.limit ≡ before.limit
  pub more : after.ready ≡ [] → after.stuck ≡ false → length before.rest < length after.rest

-- a reader at the end of the input: no byte follows the whole frames, or some do
abbrev pub IsEnd : Reader → Stop → Type 0
IsEnd r stops.Closed = r.rest ≡ []
IsEnd r stops.Cut = r.rest ≢ []
IsEnd r stop = ⊥

-- a piece was taken, with the place of a length field that is too long, if the reader is at one; or
-- memory ran out, and nothing has changed
abbrev pub IsTaken : Reader → List ℕ → Result (Option ℕ) Stop → Reader → Type 0
IsTaken before piece (Ok place) after = Takes before piece after × IsPlace place after
IsTaken before piece (Err stops.Memory) after = after ≡ before
IsTaken before piece (Err stop) after = ⊥
