-- Orders of variables.
use Rattle.std.specs.Prelude.{◌≡◌, ℕ, ◌<◌, List, length, slice_index}
use Rattle.std.specs.List.{All}

-- an order of `count` variables: it has each of them exactly once
pub record IsOrder (count : ℕ) (order : List ℕ) : Type 0 where
  pub many : length order ≡ count
  pub within : All (λ v. v < count) order
  pub once : (j k : ℕ) → j < count → k < count → slice_index order j ≡ slice_index order k → j ≡ k
  pub every : (v : ℕ) → v < count → (k : ℕ) × (k < count) × (slice_index order k ≡ v)

-- the number at this place of the first list is a place of the second list, which has this place
-- there
abbrev pub LeadsBackAt : List ℕ → List ℕ → ℕ → Type 0
LeadsBackAt one other k = (slice_index one k < length other) × (slice_index other (slice_index one k) ≡ k)

-- the same holds at each place of the first list
abbrev pub LeadsBack : List ℕ → List ℕ → Type 0
LeadsBack one other = (k : ℕ) → k < length one → LeadsBackAt one other k

-- there are as many places as variables, and each list leads back from the other: these are the
-- places of the variables
pub record ArePlaces (vars places : List ℕ) : Type 0 where
  pub many : length places ≡ length vars
  pub of_vars : LeadsBack vars places
  pub of_places : LeadsBack places vars
