-- Laws of sharing: a share keeps the sum at any values, and so do shares one after the other.
use Rattle.std.proofs.Common.{◌≡◌, ℕ, suc, ◌+◌, ◌-◌, ◌<◌, ◌≤◌, List, [], ◌∷◌, length, refl, sym, ap, ◌∙◌, arith}
use Rattle.std.specs.List.{sum_by}
use Rattle.std.proofs.lemmas.List.{length-map}
use Rattle.std.proofs.lemmas.List.Sums.{sum_by-cons}
use Rattle.dcop_base.specs.Table.{CostTable}
use Rattle.dcop_base.specs.Values.{cell_with, cost_with}
use Rattle.shared_costs.specs.Values.{AreValues}
use Rattle.shared_costs.specs.Tables.{AreTablesOver}
use Rattle.shared_costs.specs.Sharing.{IsSharing, IsShare, HasShared, amounts_at}
use Rattle.shared_costs.specs.Rows.{table_at}
use Rattle.shared_costs.proofs.LeastLaws.{moving-none, moving-share}

pub sharing-none : (sizes : List ℕ) (ts : List CostTable) → AreTablesOver sizes ts → IsSharing sizes ts ts
sharing-none sizes ts over = record { scopes = refl; tables = over; sums = λ value w. refl }

pub sharing-next : (sizes : List ℕ) (old mid new : List CostTable) → IsSharing sizes old mid → IsSharing sizes mid new → IsSharing sizes old new
sharing-next sizes old mid new h k = record {
  scopes = k.scopes ∙ h.scopes;
  tables = k.tables;
  sums = λ value w. k.sums value w ∙ h.sums value w;
}

-- nothing is shared
pub share-none : (sizes : List ℕ) (var : ℕ) (ts : List CostTable) → var < length sizes → AreTablesOver sizes ts → IsShare sizes var ts ts
share-none sizes var ts lt over = moving-share sizes var ts ts lt over.each (moving-none sizes var ts over)

-- the tables with their least cells sum to what they summed to with the targets
sum-kept : (sizes : List ℕ) (var : ℕ) (value : ℕ → ℕ) → AreValues sizes value → (old new : List CostTable) (taken targets : List (ℕ → ℕ)) → length new ≡ length old → length taken ≡ length old → length targets ≡ length old
    → ((k : ℕ) → k < length old → HasShared sizes var (amounts_at taken k) (amounts_at targets k) (table_at old k) (table_at new k))
    → cost_with new value + sum_by (λ (f : ℕ → ℕ). f (value var)) taken ≡ cost_with old value + sum_by (λ (f : ℕ → ℕ). f (value var)) targets
sum-kept sizes var value w [] [] [] [] en et eg each = refl
sum-kept sizes var value w [] [] [] (g ∷ gs) en et eg each = absurd (omega (arith, eg))
sum-kept sizes var value w [] [] (f ∷ fs) targets en et eg each = absurd (omega (arith, et))
sum-kept sizes var value w [] (u ∷ us) taken targets en et eg each = absurd (omega (arith, en))
sum-kept sizes var value w (t ∷ ts) [] taken targets en et eg each = absurd (omega (arith, en))
sum-kept sizes var value w (t ∷ ts) (u ∷ us) [] targets en et eg each = absurd (omega (arith, et))
sum-kept sizes var value w (t ∷ ts) (u ∷ us) (f ∷ fs) [] en et eg each = absurd (omega (arith, eg))
sum-kept sizes var value w (t ∷ ts) (u ∷ us) (f ∷ fs) (g ∷ gs) en et eg each =
    let rest = sum-kept sizes var value w ts us fs gs (omega (arith, en)) (omega (arith, et)) (omega (arith, eg)) (λ k lt. each (suc k) (omega (arith, lt))) in
    let here = each 0 (omega arith) in
    let most : f (value var) ≤ cell_with t value = here.least.most value w in
    let cells : cell_with u value ≡ cell_with t value - f (value var) + g (value var) = here.cells value w in
    let olds = sum_by-cons (λ (x : CostTable). cell_with x value) t ts in
    let news = sum_by-cons (λ (x : CostTable). cell_with x value) u us in
    let takens = sum_by-cons (λ (x : ℕ → ℕ). x (value var)) f fs in
    let given = sum_by-cons (λ (x : ℕ → ℕ). x (value var)) g gs in
    omega (arith, rest, most, cells, olds, news, takens, given)

-- a share keeps the sum at any values
pub share-keeps : (sizes : List ℕ) (var : ℕ) (old new : List CostTable) → IsShare sizes var old new → IsSharing sizes old new
share-keeps sizes var old new is = record {
  scopes = is.scopes;
  tables = is.tables;
  sums = λ value w.
      (let long : length new ≡ length old = sym (length-map new (λ (t : CostTable). t.scope)) ∙ ap (λ (vss : List (List ℕ)). length vss) is.scopes ∙ length-map old (λ (t : CostTable). t.scope) in
      let kept = sum-kept sizes var value w old new is.leasts is.targets long is.gives is.gets is.shares in
      let even = is.even value w in
      omega (arith, kept, even));
}
