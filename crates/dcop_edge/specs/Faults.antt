-- Counts of faults, which say when a call may return that it failed.
use Rattle.std.specs.Prelude.{◌≡◌, ◌<◌, ◌≤◌, ◌⊎◌, ℕ, ◌+◌, min, Result, Ok, Err}
use Rattle.dcop_base.specs.Limits.{count_limit}
use Rattle.dcop_edge.specs.declared.fault.Failed.{Failed}
use Rattle.dcop_edge.specs.declared.fault.ReadFault.{ReadFault}
use Rattle.dcop_edge.specs.declared.fault.ReadFault.TheVariants as read_faults

-- a count rose in a call: it is greater than at the start, or it is at its limit, count_limit
abbrev pub Rose : ℕ → ℕ → Type 0
Rose old new = (old < new) ⊎ (new ≡ count_limit)

-- in a call that failed the count rose; in a call that succeeded it stayed the same
abbrev pub HasCause : {T : Type 0} → ℕ → ℕ → Result T Failed → Type 0
HasCause old new (Ok value) = new ≡ old
HasCause old new (Err failed) = (old ≤ new) × Rose old new

-- the same for a call that may also run out of memory, which leaves the count as it is
abbrev pub HasReadCause : {T : Type 0} → ℕ → ℕ → Result T ReadFault → Type 0
HasReadCause old new (Ok value) = new ≡ old
HasReadCause old new (Err read_faults.Failed) = (old ≤ new) × Rose old new
HasReadCause old new (Err read_faults.NoMemory) = new ≡ old

-- a count increased by one, but at most count_limit
abbrev pub one_more : ℕ → ℕ
one_more count = min (count + 1) count_limit
