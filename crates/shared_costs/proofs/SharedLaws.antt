-- Laws of shared costs.
use Rattle.std.proofs.Common.{◌≡◌, ◌≤◌, ◌*◌, ℕ, List, [], ◌∙◌, subst, arith}
use Rattle.std.specs.Int.{IsPowerOfTwo}
use Rattle.std.specs.List.Sorted.{IsPermutation}
use Rattle.std.proofs.lemmas.List.Sorted.{IsPermutation-map}
use Rattle.dcop_base.specs.Limits.{amount_limit}
use Rattle.dcop_base.specs.Table.{CostTable}
use Rattle.dcop_base.specs.Faults.{greatest_sum}
use Rattle.dcop_base.specs.Values.{cost_with}
use Rattle.shared_costs.specs.Tables.{all_tables, depths_cost, scopes_of}
use Rattle.shared_costs.specs.Shared.{AreSharedCosts}
use Rattle.shared_costs.specs.Sharing.{IsSharing}
use Rattle.shared_costs.specs.Scales.{AreScaled}
use Rattle.shared_costs.specs.Depths.{AreByDepth}
use Rattle.shared_costs.proofs.ScaleLaws.{cost-scaled, scopes-scaled}

-- scaled, shared and by their depth
pub shared-costs : (sizes : List ℕ) (tables : List CostTable) (joints : List (ℕ × ℕ)) (scaled shared : List CostTable) (scale : ℕ) (depths : List (List CostTable)) → IsPowerOfTwo scale → 1 ≤ scale → scale * greatest_sum tables ≤ amount_limit → AreScaled scale tables scaled → IsSharing sizes scaled shared → AreByDepth sizes shared [] depths → AreSharedCosts (record { sizes = sizes; tables = tables; joints = joints }) (record { scale = scale; depths = depths })
shared-costs sizes tables joints scaled shared scale depths power some within times sharing by =
    let same : (value : ℕ → ℕ) → depths_cost depths value ≡ cost_with shared value = λ value. omega (arith, by.sums value) in
    record {
      scale = record { power = power; some = some; within = within };
      depths = record { many = by.many; each = by.each; capped = λ value w. omega (arith, same value, sharing.tables.capped value w) };
      scopes = subst (λ (xs : List (List ℕ)). IsPermutation xs (scopes_of (all_tables depths))) (sharing.scopes ∙ scopes-scaled scale tables scaled times) (IsPermutation-map (λ (t : CostTable). t.scope) shared (all_tables depths) by.all);
      sums = λ value w. same value ∙ sharing.sums value w ∙ cost-scaled scale tables scaled value times;
    }
