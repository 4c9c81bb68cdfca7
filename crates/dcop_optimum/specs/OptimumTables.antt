-- Tables of subtree optima: they make a certificate, and their sums are at most amount_limit.
use Rattle.std.specs.Prelude.{◌≡◌, ℕ, ◌<◌, ◌≤◌, List, map, length, slice_index}
use Rattle.std.specs.List.{range_with_len}
use Rattle.dcop_base.specs.Table.{product}
use Rattle.dcop_base.specs.Problem.{Dcop, cost}
use Rattle.dcop_base.specs.Whole.{IsProblem}
use Rattle.dcop_base.specs.Limits.{amount_limit}
use Rattle.pseudotree.specs.Pseudotree.{IsPseudotree, separator_of}
use Rattle.pseudotree.specs.Fault.{parents_of}
use Rattle.dcop_optimum.specs.Optimum.{IsOptimum}
use Rattle.dcop_base.specs.Values.{cell_with, cost_with}
use Rattle.dcop_optimum.specs.Subtree.{subtree_tables_of, AreValuesAbove, IsSubtreeOptimum}
use Rattle.dcop_optimum.specs.Decomposition.{AreChildOptima, best_cost_at}
use Rattle.dcop_optimum.specs.Certificate.{util_of, IsTableCertificate}

-- tables over the separators, with one cell for each choice of values: the subtree optimum at these values
pub record AreOptimumTables (p : Dcop) (paths scopes cells : List (List ℕ)) : Type 0 where
  pub scopes_are : scopes ≡ map (separator_of p paths) (range_with_len 0 (length paths))
  pub full : (i : ℕ) → i < length paths → length (util_of p scopes cells i).cells ≡ product (util_of p scopes cells i).sizes
  pub cells_are : (i : ℕ) (value : ℕ → ℕ) → i < length paths → AreValuesAbove p paths i value
      → IsSubtreeOptimum p paths i value (cell_with (util_of p scopes cells i) value)

-- such tables and optimal values make a certificate that holds, with the tree's parents
abbrev pub OptimaMakeCertificates : Type 0
OptimaMakeCertificates = (p : Dcop) (paths scopes cells : List (List ℕ)) (values : List ℕ) → IsProblem p → IsPseudotree p paths → AreOptimumTables p paths scopes cells
    → IsOptimum p (cost p values) → IsTableCertificate p (parents_of paths) scopes cells values

-- the cost of a subtree's tables is at most amount_limit, and so is the cost of a variable's own tables plus its children's subtree optima
pub record AreWithinCap (p : Dcop) (paths : List (List ℕ)) : Type 0 where
  pub subtree : (i : ℕ) (value : ℕ → ℕ) → cost_with (subtree_tables_of p paths i) value ≤ amount_limit
  pub best : (i : ℕ) (value : ℕ → ℕ) (optima : ℕ → ℕ → ℕ) (d : ℕ) → i < length p.sizes → AreValuesAbove p paths i value
      → AreChildOptima p paths i value optima → d < slice_index p.sizes i → best_cost_at p paths i value optima d ≤ amount_limit

-- in every pseudotree of every problem, the cost of a subtree's tables is at most amount_limit, and so is that of the own tables plus the children's subtree optima
abbrev pub CostsAreWithinCap : Type 0
CostsAreWithinCap = (p : Dcop) (paths : List (List ℕ)) → IsProblem p → IsPseudotree p paths → AreWithinCap p paths
