-- The shared costs of a problem: tables that the search uses instead of the problem's own.
use Rattle.std.specs.Prelude.{◌≡◌, ℕ, ◌*◌, ◌≤◌}
use Rattle.std.specs.Int.{IsPowerOfTwo}
use Rattle.std.specs.List.Sorted.{IsPermutation}
use Rattle.dcop_base.specs.Limits.{amount_limit}
use Rattle.dcop_base.specs.Faults.{greatest_sum}
use Rattle.dcop_base.specs.Problem.{Dcop}
use Rattle.dcop_base.specs.Values.{cost_with}
use Rattle.shared_costs.specs.Values.{AreValues}
use Rattle.shared_costs.specs.Tables.{AreDepths, all_tables, depths_cost, scopes_of}
use Rattle.shared_costs.specs.declared.shared.SharedCosts.{SharedCosts}

-- a scale: a power of two; the sum of the tables' greatest cells, multiplied by it, is at most the greatest amount
pub record IsScale (p : Dcop) (scale : ℕ) : Type 0 where
  pub power : IsPowerOfTwo scale
  pub some : 1 ≤ scale
  pub within : scale * greatest_sum p.tables ≤ amount_limit

-- tables by depth, one over the scope of each table of the problem; at any values of the variables their sum is the problem's cost, multiplied by the scale
pub record AreSharedCosts (p : Dcop) (s : SharedCosts) : Type 0 where
  pub scale : IsScale p s.scale
  pub depths : AreDepths p.sizes s.depths
  pub scopes : IsPermutation (scopes_of p.tables) (scopes_of (all_tables s.depths))
  pub sums : (value : ℕ → ℕ) → AreValues p.sizes value → depths_cost s.depths value ≡ s.scale * cost_with p.tables value
