-- Flags of agents.
use Rattle.std.specs.Prelude.{◌≡◌, ℕ, Bool, true, List, Some, slice_get}

-- the flag at this place is set
abbrev pub IsSet : List Bool → ℕ → Type 0
IsSet flags k = slice_get flags k ≡ Some true
