-- Frames on a stream of bytes: each is the length of a payload and the payload.
use Rattle.std.specs.Prelude.{ℕ, ◌+◌, ◌<◌, ◌≤◌, Bool, true, false, List, ◌++◌, length, take, Option, Some, None, MatchOption, IfSome, nat_lt, if◌then◌else◌}
use Rattle.std.specs.List.{flat_map}
use Rattle.std.specs.Int.{w32, to_be_bytes, from_be_bytes}

-- the greatest length of a payload in bytes, 2^24
abbrev pub payload_limit : ℕ
payload_limit = 16777216

-- the frame of a payload: its length in four bytes, big-endian, and its bytes
abbrev pub framed : List ℕ → List ℕ
framed payload = to_be_bytes w32 (length payload) ++ payload

-- the frames of payloads, one after the other
abbrev pub framed_all : List (List ℕ) → List ℕ
framed_all payloads = flat_map framed payloads

-- the length field at the front of bytes; none if there are fewer than four bytes
abbrev pub length_field : List ℕ → Option ℕ
length_field bytes = if nat_lt (length bytes) 4 then None else Some (from_be_bytes w32 (take 4 bytes))

-- less than a whole frame: fewer than four bytes; or a length field within the limit, and fewer
-- bytes after it than it says
abbrev pub IsShort : ℕ → List ℕ → Type 0
IsShort limit bytes = IfSome (length_field bytes) (λ n. (n ≤ limit) × (length bytes < 4 + n))

-- the bytes begin with a length field above the limit
abbrev pub IsTooLong : ℕ → List ℕ → Type 0
IsTooLong limit bytes = MatchOption (length_field bytes) ⊥ (λ n. limit < n)

-- how bytes end after their whole frames: with a length field above the limit if the flag is set,
-- else with less than a frame
abbrev pub EndsAt : ℕ → List ℕ → Bool → Type 0
EndsAt limit rest true = IsTooLong limit rest
EndsAt limit rest false = IsShort limit rest
