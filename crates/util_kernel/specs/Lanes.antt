-- Lists of amounts, element by element.
use Rattle.std.specs.Prelude.{ℕ, ◌+◌, List, map, min}
use Rattle.std.specs.Simd.Lanes.{zip2}
use Rattle.dcop_base.specs.Limits.{amount_limit}

-- the sum of two amounts, or amount_limit if the sum is above it
abbrev pub plus : ℕ → ℕ → ℕ
plus a b = min (a + b) amount_limit

-- the sums of the amounts at the same place of two lists
abbrev pub sums : List ℕ → List ℕ → List ℕ
sums into from = zip2 plus into from

-- the lesser of the two amounts at each place of two lists
abbrev pub leasts : List ℕ → List ℕ → List ℕ
leasts into from = zip2 min into from

-- the amounts of a list, each increased by the same amount
abbrev pub raised : List ℕ → ℕ → List ℕ
raised into cell = map (λ n. plus n cell) into
