-- Laws of scaled tables: scaled cells, and what they sum to.
use Rattle.std.proofs.Common.{◌≡◌, ℕ, zero, suc, ◌+◌, ◌*◌, ◌<◌, ◌≤◌, List, [], ◌∷◌, length, get_or, map, max, None, refl, sym, ap, ap₂, ◌∙◌, subst, pow-suc, arith}
use Rattle.std.specs.Int.{IsPowerOfTwo}
use Rattle.std.specs.List.{All, fold}
use Rattle.std.proofs.Math.Nat.{mul-le-mul_left}
use Rattle.std.proofs.lemmas.List.{get_or-map, length-map}
use Rattle.std.proofs.lemmas.List.Sums.{sum_by-cons, sum_by-le-sum_by}
use Rattle.std.proofs.lemmas.List.Elements.{All-head, All-tail, All-cons, All-nil}
use Rattle.dcop_base.specs.Limits.{amount_limit}
use Rattle.dcop_base.specs.Table.{CostTable, IsTable, cell_place, greatest, table_fault}
use Rattle.dcop_base.specs.Values.{cell_with, cost_with}
use Rattle.dcop_base.specs.Faults.{greatest_sum}
use Rattle.dcop_base.specs.Whole.{IsTableOf}
use Rattle.dcop_base.proofs.TableLaws.{parts-of}
use Rattle.cost_table.proofs.SliceLaws.{faultless}
use Rattle.shared_costs.specs.Tables.{IsTableOver, AreTablesOver}
use Rattle.shared_costs.specs.Scales.{IsScaled, AreScaled}

fold-max-start : (a : ℕ) (xs : List ℕ) → a ≤ fold max a xs
fold-max-start a [] = omega arith
fold-max-start a (x ∷ xs) = let rest = fold-max-start (max a x) xs in omega arith

fold-max-at : (a : ℕ) (xs : List ℕ) (k : ℕ) → get_or xs k 0 ≤ fold max a xs
fold-max-at a [] k = omega arith
fold-max-at a (x ∷ xs) zero = let rest = fold-max-start (max a x) xs in omega arith
fold-max-at a (x ∷ xs) (suc k) = fold-max-at (max a x) xs k

-- no cell, and no cost, is above the greatest
pub cell-scaled : (scale : ℕ) (cells : List ℕ) (k : ℕ) → scale * greatest cells ≤ amount_limit → scale * get_or cells k 0 ≤ amount_limit
cell-scaled scale cells k h = let most = mul-le-mul_left scale (fold-max-at 0 cells k) in omega arith

pub cost-most : (ts : List CostTable) (value : ℕ → ℕ) → cost_with ts value ≤ greatest_sum ts
cost-most ts value = sum_by-le-sum_by (λ t. cell_with t value) (λ t. greatest t.cells) ts (λ t. fold-max-at 0 t.cells (cell_place t.sizes (map value t.scope)))

-- a scaled table is whole
pub scaled-whole : (t : CostTable) (scale : ℕ) (cells : List ℕ) → IsTable t → scale * greatest t.cells ≤ amount_limit → cells ≡ map (λ c. scale * c) t.cells → table_fault t.scope t.sizes cells ≡ None
scaled-whole t scale cells e h ec =
    let parts = parts-of t.scope t.sizes t.cells e in
    let long : length cells ≡ length t.cells = ap length ec ∙ length-map t.cells (λ c. scale * c) in
    faultless t.scope t.sizes cells (record {
      apart = parts.apart;
      sized = parts.sized;
      positive = parts.positive;
      full = long ∙ parts.full;
      small = λ k d lt. (let inside : k < length t.cells = omega (arith, long, lt) in
          let here = ap (λ (xs : List ℕ). get_or xs k d) ec ∙ get_or-map (λ c. scale * c) t.cells k 0 d inside in
          omega (arith, here, cell-scaled scale t.cells k h));
    })

-- the cell of a scaled table, and what scaled tables sum to
scaled-at : (scale : ℕ) (cells : List ℕ) (k : ℕ) → get_or (map (λ c. scale * c) cells) k 0 ≡ scale * get_or cells k 0
scaled-at scale [] k = omega arith
scaled-at scale (x ∷ xs) zero = refl
scaled-at scale (x ∷ xs) (suc k) = scaled-at scale xs k

pub cell-with_scaled : (scale : ℕ) (old new : CostTable) (value : ℕ → ℕ) → IsScaled scale old new → cell_with new value ≡ scale * cell_with old value
cell-with_scaled scale old new value h =
    ap₂ (λ (ss scope : List ℕ). get_or new.cells (cell_place ss (map value scope)) 0) h.sizes h.scope
    ∙ ap (λ (xs : List ℕ). get_or xs (cell_place old.sizes (map value old.scope)) 0) h.cells ∙ scaled-at scale old.cells (cell_place old.sizes (map value old.scope))

times-sum : (k a b : ℕ) → k * a + k * b ≡ k * (a + b)
times-sum k a b = grind arith

pub cost-scaled : (scale : ℕ) (old new : List CostTable) (value : ℕ → ℕ) → AreScaled scale old new → cost_with new value ≡ scale * cost_with old value
cost-scaled scale [] [] value h = omega arith
cost-scaled scale [] (t ∷ ts) value h = absurd h
cost-scaled scale (s ∷ ss) [] value h = absurd h
cost-scaled scale (s ∷ ss) (t ∷ ts) value h =
    sum_by-cons (λ t. cell_with t value) t ts ∙ ap₂ (λ (m n : ℕ). m + n) (cell-with_scaled scale s t value h.0) (cost-scaled scale ss ts value h.1)
    ∙ times-sum scale (cell_with s value) (cost_with ss value) ∙ ap (λ (n : ℕ). scale * n) (sym (sum_by-cons (λ t. cell_with t value) s ss))

pub scopes-scaled : (scale : ℕ) (old new : List CostTable) → AreScaled scale old new → map (λ (t : CostTable). t.scope) new ≡ map (λ (t : CostTable). t.scope) old
scopes-scaled scale [] [] h = refl
scopes-scaled scale [] (t ∷ ts) h = absurd h
scopes-scaled scale (s ∷ ss) [] h = absurd h
scopes-scaled scale (s ∷ ss) (t ∷ ts) h = ap₂ (λ (x : List ℕ) (xs : List (List ℕ)). x ∷ xs) h.0.scope (scopes-scaled scale ss ts h.1)

over-scaled : (sizes : List ℕ) (scale : ℕ) (old new : List CostTable) → All (IsTableOf sizes) old → AreScaled scale old new → All (IsTableOver sizes) new
over-scaled sizes scale [] [] all h = All-nil (IsTableOver sizes)
over-scaled sizes scale [] (t ∷ ts) all h = absurd h
over-scaled sizes scale (s ∷ ss) [] all h = absurd h
over-scaled sizes scale (s ∷ ss) (t ∷ ts) all h =
    let of = All-head (IsTableOf sizes) s ss all in
    All-cons (IsTableOver sizes) t ts (record {
      whole = h.0.whole;
      within = subst (λ (xs : List ℕ). All (λ v. v < length sizes) xs) (sym h.0.scope) of.within;
      sized = h.0.sizes ∙ of.sized ∙ ap (λ (xs : List ℕ). map (λ v. get_or sizes v 0) xs) (sym h.0.scope);
    }) (over-scaled sizes scale ss ts (All-tail (IsTableOf sizes) s ss all) h.1)

pub tables-scaled : (sizes : List ℕ) (scale : ℕ) (old new : List CostTable) → All (IsTableOf sizes) old → scale * greatest_sum old ≤ amount_limit → AreScaled scale old new → AreTablesOver sizes new
tables-scaled sizes scale old new all h scaled = record {
  each = over-scaled sizes scale old new all scaled;
  capped = λ value w. (let most = mul-le-mul_left scale (cost-most old value) in omega (arith, cost-scaled scale old new value scaled, most, h));
}

-- a table of scaled parts
pub scaled-parts : (t u : CostTable) (scale : ℕ) (scope sizes from cells : List ℕ) → u ≡ t → IsTable u → scope ≡ u.scope → sizes ≡ u.sizes → from ≡ u.cells → cells ≡ map (λ c. scale * c) from → scale * greatest t.cells ≤ amount_limit → IsScaled scale t (record { scope = scope; sizes = sizes; cells = cells })
scaled-parts t u scale scope sizes from cells eu whole es ez ef ec h =
    let table : IsTable t = subst (λ (t : CostTable). IsTable t) eu whole in
    let same-scope : scope ≡ t.scope = es ∙ ap (λ (t : CostTable). t.scope) eu in
    let same-sizes : sizes ≡ t.sizes = ez ∙ ap (λ (t : CostTable). t.sizes) eu in
    let same-cells : cells ≡ map (λ c. scale * c) t.cells = ec ∙ ap (λ (xs : List ℕ). map (λ c. scale * c) xs) (ef ∙ ap (λ (t : CostTable). t.cells) eu) in
    record {
      scope = same-scope;
      sizes = same-sizes;
      cells = same-cells;
      whole = subst (λ (xs : List ℕ). table_fault xs sizes cells ≡ None) (sym same-scope) (subst (λ (xs : List ℕ). table_fault t.scope xs cells ≡ None) (sym same-sizes) (scaled-whole t scale cells table h same-cells));
    }

-- twice a power of two is one
pub twice-power : (n m : ℕ) → m ≡ n * 2 → IsPowerOfTwo n → IsPowerOfTwo m
twice-power n m e power = (suc power.0, e ∙ ap (λ (k : ℕ). k * 2) power.1 ∙ sym (pow-suc 2 power.0))
