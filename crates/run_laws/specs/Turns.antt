-- The turns of a cut.
use Rattle.std.specs.Prelude.{◌≡◌, ℕ, ◌<◌, List, [], length, slice_index_or}
use Rattle.std.specs.List.{Contains}
use Rattle.dcop_base.specs.Table.{product, AreWithin}
use Rattle.dcop_base.specs.Problem.{Dcop}
use Rattle.dcop_optimum.specs.Optimum.{IsBefore}
use Rattle.pseudotree.specs.Place.{sizes_of}
use Rattle.protocol_steps.specs.Values.{choices}

-- the turns of a cut: all lists of values of its variables, in lexicographic order
abbrev pub turns_of : Dcop → List ℕ → List (List ℕ)
turns_of p cut = choices (sizes_of p cut)

-- the number of turns of a cut: the product of its variables' sizes
abbrev pub turn_count : Dcop → List ℕ → ℕ
turn_count p cut = product (sizes_of p cut)

-- all lists of values below these sizes, each once, and in lexicographic order
pub record AreInOrder (sizes : List ℕ) (turns : List (List ℕ)) : Type 0 where
  pub count : length turns ≡ product sizes
  pub within : (k : ℕ) → k < length turns → AreWithin sizes (slice_index_or turns k [])
  pub every : (values : List ℕ) → AreWithin sizes values → Contains turns values
  pub ascending : (j k : ℕ) → j < k → k < length turns → IsBefore (slice_index_or turns j []) (slice_index_or turns k [])

-- the turns of every cut are all lists of values of its variables, each once, in lexicographic order
abbrev pub TurnsAreInOrder : Type 0
TurnsAreInOrder = (p : Dcop) (cut : List ℕ) → AreInOrder (sizes_of p cut) (turns_of p cut)
