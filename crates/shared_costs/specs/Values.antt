-- Values of all variables, as a function of the variable.
use Rattle.std.specs.Prelude.{◌≡◌, ℕ, ◌<◌, List, length, slice_index}

-- each variable has a value below its size
abbrev pub AreValues : List ℕ → (ℕ → ℕ) → Type 0
AreValues sizes value = (v : ℕ) → v < length sizes → value v < slice_index sizes v

-- the first p variables have the same values
abbrev pub AgreeBelow : ℕ → (ℕ → ℕ) → (ℕ → ℕ) → Type 0
AgreeBelow p value other = (v : ℕ) → v < p → other v ≡ value v
