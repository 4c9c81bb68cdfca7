-- What a call read from its source.
use Rattle.std.specs.Prelude.{◌≡◌, ℕ, ◌+◌, ◌-◌, ◌<◌, ◌≤◌, List, [], ◌++◌, length, take, sum, All, Option, Some, None, Result, Ok, Err}
use Rattle.std.specs.Io.KnownBytes.{prepend_known}
use Rattle.dcop_edge.specs.Faults.{Rose}
use Rattle.dcop_edge.specs.declared.fault.ReadFault.{ReadFault}
use Rattle.dcop_edge.specs.declared.fault.ReadFault.TheVariants as faults
use Rattle.dcop_base.specs.Limits.{input_limit}
use Rattle.answer_io.specs.declared.reading.ReadEnd.{ReadEnd}
use Rattle.answer_io.specs.declared.reading.ReadEnd.TheVariants as ends

-- how a call read its source: not at all; the source failed; more than input_limit bytes came; or
-- these are all the bytes that came
pub data Input : Type 0 where
  Unread : Input
  Broken : Input
  TooLong : Input
  Whole : List ℕ → Input

-- the most bytes of one read, 2^16
abbrev pub read_limit : ℕ
read_limit = 65536

-- the end of a reading whose last read had this fault
abbrev pub end_of : ReadFault → ReadEnd
end_of faults.Failed = ends.Failed
end_of faults.NoMemory = ends.NoMemory

-- the state of a source: the bytes that it has left, if they are known; its count of faults; and how
-- many bytes each of its reads gave so far, in order
pub record SourceState : Type 0 where
  pub left : Option (List ℕ)
  pub faults : ℕ
  pub gave : List ℕ

-- the state of a source with these bytes left, this count of faults and these numbers of bytes that
-- its reads gave
abbrev pub source_state : Option (List ℕ) → ℕ → List ℕ → SourceState
source_state left faults gave = record { left = left; faults = faults; gave = gave }

-- if a source's bytes are known, it had exactly these left before, and has none left after; if they
-- are unknown, they stay so
abbrev pub IsAllOf : List ℕ → Option (List ℕ) → Option (List ℕ) → Type 0
IsAllOf bytes None after = after ≡ None
IsAllOf bytes (Some left) after = (bytes ≡ left) × (after ≡ Some [])

-- all of these numbers but the last
abbrev pub but_last : List ℕ → List ℕ
but_last counts = take (length counts - 1) counts

-- the reads between two states of a source gave together as many bytes as this list has. Each but
-- the last gave at least one byte, and all but the last gave together at most input_limit: reading
-- stopped with the first that took the total above it
pub record AreReadsOf (bytes : List ℕ) (before after : SourceState) : Type 0 where
  pub counts : List ℕ
  pub made : after.gave ≡ before.gave ++ counts
  pub total : sum counts ≡ length bytes
  pub some : All (λ count. 0 < count) (but_last counts)
  pub stops : sum (but_last counts) ≤ input_limit

-- at least `least` and at most `most` bytes were taken from a source. Each read but the last took at
-- least one, and reading stopped with the first read that took the total above input_limit. If the
-- source's bytes are known, these were the first of them, and the others are left
pub record Took (least most : ℕ) (before after : SourceState) : Type 0 where
  pub bytes : List ℕ
  pub front : before.left ≡ prepend_known bytes after.left
  pub many : least ≤ length bytes
  pub few : length bytes ≤ most
  pub reads : AreReadsOf bytes before after

-- what was read from a source with this state before and this state after. Of an input that is too
-- long, more than input_limit bytes were taken, and at most read_limit above that limit. The count
-- of faults rose if the source failed, and is otherwise as it was. Each read but the last took at
-- least one byte, and reading stopped with the first read that took the total above input_limit
abbrev pub IsReadFrom : Input → SourceState → SourceState → Type 0
IsReadFrom Unread before after = after ≡ before
IsReadFrom Broken before after =
    Rose before.faults after.faults × (before.faults ≤ after.faults) × Took 0 input_limit before after
IsReadFrom TooLong before after =
    Took (input_limit + 1) (input_limit + read_limit) before after × (after.faults ≡ before.faults)
IsReadFrom (Whole bytes) before after =
    (length bytes ≤ input_limit) × IsAllOf bytes before.left after.left × (after.faults ≡ before.faults)
    × AreReadsOf bytes before after

-- a reading to the end has this result; if memory ran out, no more was taken than an input may have
abbrev pub IsReading : Result (List ℕ) ReadEnd → SourceState → SourceState → Type 0
IsReading (Ok bytes) before after = IsReadFrom (Whole bytes) before after
IsReading (Err ends.Failed) before after = IsReadFrom Broken before after
IsReading (Err ends.TooLong) before after = IsReadFrom TooLong before after
IsReading (Err ends.NoMemory) before after = Took 0 input_limit before after × (after.faults ≡ before.faults)
