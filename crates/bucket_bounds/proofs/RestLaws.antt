-- Laws of the rest behind a depth: what bounds of buckets are, and that they are exact where nothing was lost.
use Rattle.std.proofs.Common.{◌≡◌, ℕ, suc, ◌+◌, ◌*◌, ◌<◌, ◌≤◌, List, [], ◌∷◌, length, drop, slice_index, sym, ap, ◌∙◌, subst, arith}
use Rattle.std.specs.List.{All, slice_index_or}
use Rattle.std.proofs.lemmas.List.{drop_more, drop-map, length-map, get_or-drop, length-drop}
use Rattle.std.proofs.lemmas.List.Elements.{All-drop}
use Rattle.dcop_base.specs.Table.{CostTable}
use Rattle.dcop_base.specs.Problem.{Dcop}
use Rattle.dcop_optimum.specs.Optimum.{IsOptimum}
use Rattle.dcop_optimum.proofs.JoinLaws.{value_below}
use Rattle.shared_costs.specs.Values.{AreValues, AgreeBelow}
use Rattle.shared_costs.specs.Shared.{AreSharedCosts}
use Rattle.shared_costs.specs.declared.shared.SharedCosts.{SharedCosts}
use Rattle.shared_costs.specs.Tables.{depths_cost}
use Rattle.bucket_bounds.specs.Rest.{deep_cost, IsRest}
use Rattle.bucket_bounds.specs.Bounds.{bounds_at, fixed_at, bound_at, tables_in, bucket_of, AreBucketBounds}
use Rattle.bucket_bounds.specs.Exact.{IsUnparted, AreExact}
use Rattle.bucket_bounds.specs.Made.{IsBoundTable, IsBucketMade, AreMade}
use Rattle.bucket_bounds.specs.declared.bucket.Bucket.{Bucket}
use Rattle.bucket_bounds.proofs.CellLaws.{cost_agrees}
use Rattle.bucket_bounds.proofs.ChainLaws.{AreSent, sent_of_made, bounds_before, low_from, exact_from, made_drop}

abbrev no_bucket : Bucket
no_bucket = record { tables = []; came = []; sent = []; fixed = 0; groups = 0; replaced = 0 }

-- what buckets made of the tables of all depths have
module _ (sizes : List ℕ) (depths : List (List CostTable)) (buckets : List Bucket) (tables : tables_in buckets ≡ depths) (made : AreMade sizes 0 buckets) where
  from : (p : ℕ) → AreMade sizes p (drop p buckets)
  from p = made_drop sizes 0 p p buckets (omega arith) made

  behind : (p : ℕ) (value : ℕ → ℕ) → depths_cost (tables_in (drop p buckets)) value ≡ deep_cost p depths value
  behind p value = ap (λ (tss : List (List CostTable)). depths_cost tss value) (sym (drop-map (λ (b : Bucket). b.tables) p buckets) ∙ ap (λ (tss : List (List CostTable)). drop p tss) tables)

  pub low_at : (p : ℕ) (value : ℕ → ℕ) → AreValues sizes value → bound_at p buckets value ≤ deep_cost p depths value
  low_at p value are = subst (λ (n : ℕ). bound_at p buckets value ≤ n) (behind p value) (low_from sizes p (drop p buckets) value (from p) are)

  pub are_exact : All IsUnparted buckets → AreExact sizes depths buckets
  are_exact whole p value le are =
      let best = exact_from sizes p (drop p buckets) value (from p) (All-drop IsUnparted p buckets whole) are in
      let before = bounds_before sizes p (drop p buckets) (sent_of_made sizes p (drop p buckets) (from p)) in
      record {
        attained = (best.other, best.are, best.agree, sym (behind p best.other) ∙ best.least);
        lowest = λ other others agree.
            let same = cost_agrees p (bounds_at p buckets) value other (λ k d lt. (before k d lt).1) agree in
            let low = low_at p other others in
            omega (arith, same, low);
      }

-- and where there is one for each variable
module _ (sizes : List ℕ) (depths : List (List CostTable)) (buckets : List Bucket) (tables : tables_in buckets ≡ depths) (many : length depths ≡ length sizes) (made : AreMade sizes 0 buckets) where
  long : length buckets ≡ length sizes
  long = sym (length-map buckets (λ (b : Bucket). b.tables)) ∙ ap length tables ∙ many

  at : (p : ℕ) → p < length sizes → IsBucketMade sizes p (bounds_at (p + 1) buckets) (bucket_of buckets p)
  at p lt = (subst (λ (bs : List Bucket). AreMade sizes p bs) (drop_more buckets p no_bucket (omega (arith, lt, long))) (made_drop sizes 0 p p buckets (omega arith) made)).0

  pub are_bounds : AreBucketBounds sizes depths buckets
  are_bounds = record {
    many = long;
    tables = tables;
    each = λ p lt. record { came = (at p lt).came; sent = (at p lt).sent };
    low = λ p value le are. low_at sizes depths buckets tables made p value are;
  }

-- each bucket sends what it may, from some variable on
sent_each : (sizes : List ℕ) (p : ℕ) (bs : List Bucket) → ((k : ℕ) → k < length bs → All (IsBoundTable sizes (p + k)) (slice_index_or bs k no_bucket).sent) → AreSent sizes p bs
sent_each sizes p [] each = tt
sent_each sizes p (b ∷ bs) each = (
  subst (λ (n : ℕ). All (IsBoundTable sizes n) b.sent) (omega arith) (each 0 (omega arith)),
  sent_each sizes (p + 1) bs (λ k lt. subst (λ (n : ℕ). All (IsBoundTable sizes n) (slice_index_or bs k no_bucket).sent) (omega arith) (each (suc k) (omega arith))),
)

-- the bounds of a depth cost the same at values that agree before it
module _ (sizes : List ℕ) (depths : List (List CostTable)) (buckets : List Bucket) (bounds : AreBucketBounds sizes depths buckets) where
  sent_from : (p : ℕ) → AreSent sizes p (drop p buckets)
  sent_from p = sent_each sizes p (drop p buckets) (λ k lt.
      let within : p + k < length buckets = omega (arith, lt, length-drop p buckets) in
      subst (λ (b : Bucket). All (IsBoundTable sizes (p + k)) b.sent) (sym (get_or-drop p buckets k no_bucket)) (bounds.each (p + k) (omega (arith, within, bounds.many))).sent)

  pub same_bound : (p : ℕ) (value other : ℕ → ℕ) → AgreeBelow p value other → bound_at p buckets other ≡ bound_at p buckets value
  same_bound p value other agree =
      let before = bounds_before sizes p (drop p buckets) (sent_from p) in
      ap (λ (n : ℕ). fixed_at p buckets + n) (cost_agrees p (bounds_at p buckets) value other (λ k d lt. (before k d lt).1) agree)

-- what buckets send that are each made of their tables and of what came to them sums to at most the rest
pub at_most_rest : (sizes : List ℕ) (buckets : List Bucket) → AreMade sizes 0 buckets → (p : ℕ) (value : ℕ → ℕ) (least : ℕ) → IsRest sizes (tables_in buckets) p value least → bound_at p buckets value ≤ least
at_most_rest sizes buckets made p value least rest =
    let best = rest.attained in
    let other = best.0 in
    let from = made_drop sizes 0 p p buckets (omega arith) made in
    let before = bounds_before sizes p (drop p buckets) (sent_of_made sizes p (drop p buckets) from) in
    let same = cost_agrees p (bounds_at p buckets) value other (λ k d lt. (before k d lt).1) best.2 in
    let low = low_from sizes p (drop p buckets) other from best.1 in
    let behind = ap (λ (tss : List (List CostTable)). depths_cost tss other) (drop-map (λ (b : Bucket). b.tables) p buckets) in
    omega (arith, low, same, behind, best.3)

-- the bound of depth 0 is at most the scaled optimum
pub first_bound : (p : Dcop) (shared : SharedCosts) (buckets : List Bucket) → AreSharedCosts p shared → AreBucketBounds p.sizes shared.depths buckets → (value : ℕ → ℕ) (best : ℕ) → IsOptimum p best → bound_at 0 buckets value ≤ shared.scale * best
first_bound p shared buckets costs bounds value best optimum =
    let values = optimum.attained.0 in
    let other : ℕ → ℕ = λ v. slice_index values v in
    let are = value_below p values optimum.attained.1 in
    let low = bounds.low 0 other (omega arith) are in
    let sum = costs.sums other are in
    let cheap = ap (λ (n : ℕ). shared.scale * n) optimum.attained.2 in
    omega (arith, low, sum, cheap, same_bound p.sizes shared.depths buckets bounds 0 value other (λ v lt. absurd (omega (arith, lt))))
