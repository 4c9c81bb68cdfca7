-- The links of which an exchange drained something.
use Rattle.std.specs.Prelude.{◌≡◌, ℕ, ◌<◌, ◌≤◌, ◌⊎◌, List, [], length, Some, slice_get}
use Rattle.node_exchange.specs.Passings.{Passing}

-- a range of links outside which nothing was drained
pub record IsBusyPart (ps : List Passing) (start end : ℕ) : Type 0 where
  pub order : start ≤ end
  pub inside : end ≤ length ps
  pub outside : (k : ℕ) (p : Passing) → slice_get ps k ≡ Some p → (k < start) ⊎ (end ≤ k) → p.drained ≡ []
