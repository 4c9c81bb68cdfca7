-- Cells at values that agree on the variables that a table names.
use Rattle.std.proofs.Common.{◌≡◌, ℕ, ◌+◌, ◌<◌, eqb, false, List, [], ◌∷◌, map, get_or, refl, sym, ap, ap₂, ◌∙◌, subst, arith}
use Rattle.std.specs.List.{All}
use Rattle.std.proofs.lemmas.Bool.{cases_eq, cond-true, cond-false, eq-eqb, ne_eqb, true≢false}
use Rattle.std.proofs.lemmas.List.Elements.{All-head, All-tail}
use Rattle.std.proofs.lemmas.List.Sums.{sum_by-cons}
use Rattle.dcop_base.specs.Table.{CostTable, AreWithin, has, cell_place}
use Rattle.dcop_base.specs.Values.{cell_with, cost_with, with_own}
use Rattle.dcop_base.proofs.TableLaws.{none-passes}
use Rattle.shared_costs.specs.Values.{AreValues, AgreeBelow}
use Rattle.std.proofs.Common.{inl, inr, slice_index}

-- the values are within the table's sizes
abbrev pub IsWithin : (ℕ → ℕ) → CostTable → Type 0
IsWithin value t = AreWithin t.sizes (map value t.scope)

map_same : (P : ℕ → Type 0) (f g : ℕ → ℕ) (vs : List ℕ) → ((v : ℕ) → P v → f v ≡ g v) → All P vs → map f vs ≡ map g vs
map_same P f g [] same all = refl
map_same P f g (v ∷ vs) same all =
    ap₂ (λ (x : ℕ) (xs : List ℕ). x ∷ xs) (same v (All-head P v vs all)) (map_same P f g vs same (All-tail P v vs all))

-- a table over earlier variables has one cell where these agree
pub cell_agrees : (p : ℕ) (t : CostTable) (value other : ℕ → ℕ) → All (λ v. v < p) t.scope → AgreeBelow p value other → cell_with t other ≡ cell_with t value
cell_agrees p t value other below agree =
    ap (λ (vs : List ℕ). get_or t.cells (cell_place t.sizes vs) 0) (map_same (λ v. v < p) other value t.scope agree below)

pub cost_agrees : (p : ℕ) (ts : List CostTable) (value other : ℕ → ℕ) → All (λ t. All (λ v. v < p) t.scope) ts → AgreeBelow p value other → cost_with ts other ≡ cost_with ts value
cost_agrees p [] value other below agree = refl
cost_agrees p (t ∷ ts) value other below agree =
    let one = cell_agrees p t value other (All-head (λ (t : CostTable). All (λ v. v < p) t.scope) t ts below) agree in
    let rest = cost_agrees p ts value other (All-tail (λ (t : CostTable). All (λ v. v < p) t.scope) t ts below) agree in
    omega (arith, one, rest, sum_by-cons (λ (t : CostTable). cell_with t other) t ts, sum_by-cons (λ (t : CostTable). cell_with t value) t ts)

-- values of which one was changed
pub own_here : (p a : ℕ) (value : ℕ → ℕ) → with_own p a value p ≡ a
own_here p a value = cond-true (eqb p p) a (value p) (eq-eqb p p refl)

pub own_agrees : (p a : ℕ) (value : ℕ → ℕ) → AgreeBelow p value (with_own p a value)
own_agrees p a value v lt = cond-false (eqb v p) a (value v) (ne_eqb v p (λ e. omega (arith, lt, e)))

pub own_values : (sizes : List ℕ) (p a : ℕ) (value : ℕ → ℕ) → AreValues sizes value → a < slice_index sizes p → AreValues sizes (with_own p a value)
own_values sizes p a value are lt v within = elim (cases_eq v p) [
  | inl e ↦ subst (λ (u : ℕ). with_own p a value u < slice_index sizes u) (sym e) (subst (λ (x : ℕ). x < slice_index sizes p) (sym (own_here p a value)) lt)
  | inr n ↦ subst (λ (x : ℕ). x < slice_index sizes v) (sym (cond-false (eqb v p) a (value v) (ne_eqb v p n))) (are v within)
]

-- what agrees with values of which p was changed agrees with them before p
pub agrees_before : (p a : ℕ) (value other : ℕ → ℕ) → AgreeBelow (p + 1) (with_own p a value) other → AgreeBelow p value other
agrees_before p a value other agree v lt = agree v (omega (arith, lt)) ∙ own_agrees p a value v lt

-- variables up to p of which none is p are before p
pub below_without : (p : ℕ) (vs : List ℕ) → All (λ v. v < p + 1) vs → has vs p ≡ false → All (λ v. v < p) vs
below_without p vs below none k d lt =
    let high = below k d lt in
    let other : eqb (get_or vs k d) p ≡ false = none-passes (λ v. eqb v p) vs none k d lt in
    elim (cases_eq (get_or vs k d) p) [
      | inl e ↦ absurd (true≢false (sym (eq-eqb (get_or vs k d) p e) ∙ other))
      | inr n ↦ omega (arith, high, n)
    ]
