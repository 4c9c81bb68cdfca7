-- The first position at which two lists of bytes differ.
use Rattle.std.specs.Prelude.{◌≡◌, ◌≢◌, ℕ, List, take, slice_get}

-- before this position the lists are the same, and at it they differ; one of them may end there
pub record IsFirstOther (went came : List ℕ) (place : ℕ) : Type 0 where
  pub same : take place came ≡ take place went
  pub differ : slice_get came place ≢ slice_get went place
