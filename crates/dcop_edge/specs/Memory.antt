-- Sources and sinks in memory: what they hold, and which of their calls fail.
use Rattle.std.specs.Prelude.{ℕ, ◌+◌, Bool, List, ◌++◌, length, Option, Some, None, ◌==◌, nat_le, if◌then◌else◌}
use Rattle.std.specs.List.{list_any}
use Rattle.dcop_edge.specs.Faults.{one_more}

-- the calls of something in memory, such as a source: which of them fail, each by its number,
-- counted from 0; how many there were so far; and how many of these failed
pub record Calls : Type 0 where
  pub fails : List ℕ
  pub came : ℕ
  pub faults : ℕ

-- no call has been made yet
abbrev pub no_calls : List ℕ → Calls
no_calls fails = record { fails = fails; came = 0; faults = 0 }

-- whether the next call fails
abbrev pub fails_next : Calls → Bool
fails_next calls = list_any (λ call. call == calls.came) calls.fails

-- the counts after one more call
abbrev pub after_call : Calls → Calls
after_call calls = record {
  fails = calls.fails;
  came = one_more calls.came;
  faults = (if fails_next calls then one_more calls.faults else calls.faults);
}

-- a source in memory that never fails: the bytes that are left, and how many bytes each of its reads gave so far
pub record SteadyState : Type 0 where
  pub left : List ℕ
  pub gave : List ℕ

-- a source in memory that fails at some calls: the bytes that are left, how many bytes each of its reads gave so far, and its calls
pub record GivingState : Type 0 where
  pub left : List ℕ
  pub gave : List ℕ
  pub calls : Calls

-- a sink in memory that fails at some calls: the bytes that it holds, if it kept all of them; whether it is finished; and its calls
pub record TakingState : Type 0 where
  pub held : Option (List ℕ)
  pub finished : Bool
  pub calls : Calls

-- a sink with room for `room` bytes
pub record RoomState : Type 0 where
  pub held : Option (List ℕ)
  pub finished : Bool
  pub room : ℕ

-- the bytes, if no further bytes were lost: they are known only if `missing` is 0
abbrev pub kept_whole : List ℕ → ℕ → Option (List ℕ)
kept_whole bytes missing = if missing == 0 then Some bytes else None

-- what a sink with this room holds after more bytes: it keeps all bytes as long as they fit, and is unknown once they do not
abbrev pub held_within : ℕ → Option (List ℕ) → List ℕ → Option (List ℕ)
held_within room None more = None
held_within room (Some text) more = if nat_le (length text + length more) room then Some (text ++ more) else None
