-- Calls with the elements of a list, in the order of the list.
use Rattle.std.specs.Prelude.{◌≡◌, ℕ, ◌+◌, ◌<◌, List, length, slice_index_or}
use Rattle.std.specs.Fork.{ChangesAt}
use denote.Ref.{MutBor}
use denote.Param.Members.{Shared}

module _ {F T : Type 0} (g : Shared F (ℕ × (MutBor T × Unit {0})) ((Unit {0}) × (MutBor T × Unit {0}))) (f : F) where
  -- f may be called with each element; their places count from `place`
  pub record AcceptsFrom (place : ℕ) (xs : List T) : Type 0 where
    pub each : (i k : ℕ) (p : MutBor T) → i ≡ place + k → k < length xs → p.now ≡ slice_index_or xs k p.now → g.pre f (i, (p, tt))

  -- each element of ys is what a call of f made of that of xs
  pub record ChangesFrom (place : ℕ) (xs ys : List T) : Type 0 where
    pub each : (i k : ℕ) (d : T) → i ≡ place + k → k < length xs → ChangesAt g f i (slice_index_or xs k d) (slice_index_or ys k d)
