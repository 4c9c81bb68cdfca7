-- What a sink holds, if the bytes written to it are known.
use Rattle.std.specs.Prelude.{◌≡◌, ◌<◌, ◌≤◌, ℕ, List, ◌++◌, length, take, Option, Some, None}

-- more bytes were written to a sink, of which it may be unknown what it holds (None): if this is
-- known afterwards, it was known before, and the new bytes come after the old ones
abbrev pub Adds : Option (List ℕ) → List ℕ → Option (List ℕ) → Type 0
Adds before more None = Unit {0}
Adds None more (Some now) = ⊥
Adds (Some text) more (Some now) = now ≡ text ++ more

-- one write took the first `count` bytes, and at least one if there are any
pub record Takes (before after : Option (List ℕ)) (bytes : List ℕ) (count : ℕ) : Type 0 where
  pub within : count ≤ length bytes
  pub some : 0 < length bytes → 0 < count
  pub added : Adds before (take count bytes) after
