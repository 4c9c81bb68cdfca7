-- Cutting bytes into frames: what each step does.
use Rattle.std.specs.Prelude.{◌≡◌, ℕ, ◌+◌, ◌-◌, ◌≤◌, List, ◌++◌, length, drop, Option, Some, None, Result, Ok, Err}
use Rattle.std.specs.List.{All}
use Rattle.dcop_base.specs.declared.memory.NoMemory.{NoMemory}
use Rattle.wire_frames.specs.declared.cut.Front.{Front}
use Rattle.wire_frames.specs.declared.cut.Front.TheVariants.{Short, TooLong, Whole}
use Rattle.wire_frames.specs.declared.cut.End.{End}
use Rattle.wire_frames.specs.Frame.{framed, framed_all, length_field, IsShort, IsTooLong, EndsAt}

-- what is at the front of bytes: less than a frame, a length field above the limit, or a whole
-- frame with the bytes after it
abbrev pub IsFront : ℕ → List ℕ → Front → Type 0
IsFront limit bytes Short = IsShort limit bytes
IsFront limit bytes TooLong = IsTooLong limit bytes
IsFront limit bytes (Whole payload rest) = (length payload.now ≤ limit) × (bytes ≡ framed payload.now ++ rest.now)

-- the bytes are the frames of some payloads, each within the limit, and then this rest; the
-- payloads are held after those that were
pub record Holds (limit : ℕ) (bytes : List ℕ) (before : List (List ℕ)) (rest : List ℕ) (after : List (List ℕ)) : Type 0 where
  pub payloads : List (List ℕ)
  pub whole : bytes ≡ framed_all payloads ++ rest
  pub within : All (λ p. length p ≤ limit) payloads
  pub held : after ≡ before ++ payloads

-- all whole frames are held, and the end is theirs; or memory ran out after some payloads were
-- added
abbrev pub HoldsAll : ℕ → List ℕ → List (List ℕ) → Result End NoMemory → List (List ℕ) → Type 0
HoldsAll limit bytes before (Ok end) after = (end.place ≤ length bytes) × Holds limit bytes before (drop end.place bytes) after × EndsAt limit (drop end.place bytes) end.is_too_long
HoldsAll limit bytes before (Err refused) after = (payloads : List (List ℕ)) × (after ≡ before ++ payloads)

-- the rest and the piece are cut into frames and a new rest; if memory runs out, nothing changes
abbrev pub Cuts : ℕ → List ℕ → List (List ℕ) → List ℕ → Result End NoMemory → List ℕ → List (List ℕ) → Type 0
Cuts limit rest ready piece (Ok end) new_rest new_ready = Holds limit (rest ++ piece) ready new_rest new_ready × (length new_rest + end.place ≡ length rest + length piece) × EndsAt limit new_rest end.is_too_long
Cuts limit rest ready piece (Err refused) new_rest new_ready = (new_rest ≡ rest) × (new_ready ≡ ready)

-- how many bytes a frame still lacks, given its length field; 0 if there is none
abbrev pub still_to_come : List ℕ → Option ℕ → ℕ
still_to_come bytes None = 0
still_to_come bytes (Some n) = 4 + n - length bytes

-- how many bytes the first frame still lacks; 0 if its length field is not there yet
abbrev pub missing : List ℕ → ℕ
missing bytes = still_to_come bytes (length_field bytes)
