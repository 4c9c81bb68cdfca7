-- Tables whose cells are multiplied by a scale.
use Rattle.std.specs.Prelude.{◌≡◌, ℕ, ◌*◌, List, map}
use Rattle.std.specs.List.{AllZip}
use Rattle.dcop_base.specs.Table.{CostTable, IsTable}

-- a table with each cell multiplied by a scale
pub record IsScaled (scale : ℕ) (old new : CostTable) : Type 0 where
  pub scope : new.scope ≡ old.scope
  pub sizes : new.sizes ≡ old.sizes
  pub cells : new.cells ≡ map (λ c. scale * c) old.cells
  pub whole : IsTable new

-- tables with each cell multiplied by a scale
abbrev pub AreScaled : ℕ → List CostTable → List CostTable → Type 0
AreScaled scale old new = AllZip (IsScaled scale) old new
