-- Laws of tables by their depth: none, and one table more.
use Rattle.std.proofs.Common.{◌≡◌, ◌≢◌, ℕ, zero, suc, ◌+◌, ◌<◌, ◌≤◌, true, List, [], ◌∷◌, ◌++◌, length, get_or, set, take, map, refl, sym, ap, ap₂, ◌∙◌, subst, inl, inr, length-set, get_or-set_same, get_or-set_other, arith}
use Rattle.std.specs.List.{All}
use Rattle.std.specs.List.Sorted.{IsPermutation}
use Rattle.std.proofs.lemmas.List.{append-nil, append_assoc, get_or_past, length_push, get_or_push, take_at, length-map, get_or-map}
use Rattle.std.proofs.lemmas.List.Sums.{sum_by-cons, sum_by-set, sum_by_push}
use Rattle.std.proofs.lemmas.List.Elements.{All-push, All-nil, All-head, All-tail, All-take}
use Rattle.std.proofs.lemmas.List.Sorted.{IsPermutation-refl, IsPermutation-sym, IsPermutation-trans, IsPermutation-middle, IsPermutation-append_right}
use Rattle.std.proofs.lemmas.Bool.{cases_lt}
use Rattle.dcop_base.specs.Table.{CostTable, has}
use Rattle.dcop_base.specs.Faults.{cell_count}
use Rattle.dcop_base.specs.Whole.{IsTableOf}
use Rattle.dcop_base.proofs.TableLaws.{parts-of}
use Rattle.cost_table.specs.Cells.{place_in}
use Rattle.cost_table.proofs.PlaceLaws.{place_in-lt}
use Rattle.cost_table.proofs.ProblemCutLaws.{at-place}
use Rattle.cost_table.proofs.RunLaws.{product-some}
use Rattle.dcop_base.specs.Values.{cell_with, cost_with}
use Rattle.shared_costs.specs.Tables.{IsTableOver, IsOfDepth, all_tables, depths_cost}
use Rattle.shared_costs.specs.Depths.{AreByDepth}

empty-at : (depths : List (List CostTable)) (p : ℕ) → All (λ ts. ts ≡ []) depths → get_or depths p [] ≡ []
empty-at depths p none = elim (cases_lt p (length depths)) [
  | inl lt ↦ none p [] lt
  | inr past ↦ get_or_past depths p [] past
]

empty-sum : (depths : List (List CostTable)) (value : ℕ → ℕ) → All (λ ts. ts ≡ []) depths → depths_cost depths value ≡ 0
empty-sum [] value none = refl
empty-sum (ts ∷ rest) value none =
    sum_by-cons (λ ts. cost_with ts value) ts rest ∙ ap₂ (λ (m n : ℕ). m + n) (ap (λ (ts : List CostTable). cost_with ts value) (All-head (λ ts. ts ≡ []) ts rest none)) (empty-sum rest value (All-tail (λ ts. ts ≡ []) ts rest none))

empty-all : (depths : List (List CostTable)) → All (λ ts. ts ≡ []) depths → all_tables depths ≡ []
empty-all [] none = refl
empty-all (ts ∷ rest) none =
    ap₂ (λ (xs ys : List CostTable). xs ++ ys) (All-head (λ ts. ts ≡ []) ts rest none) (empty-all rest (All-tail (λ ts. ts ≡ []) ts rest none))

-- a table more in the list of one depth is one more among all
all-push : (depths : List (List CostTable)) (p : ℕ) (t : CostTable) → p < length depths → IsPermutation (t ∷ all_tables depths) (all_tables (set depths p (get_or depths p [] ++ (t ∷ []))))
all-push [] p t lt = absurd (omega (arith, lt))
all-push (ts ∷ rest) zero t lt =
    subst (λ (us : List CostTable). IsPermutation (t ∷ (ts ++ all_tables rest)) us) (sym (append_assoc ts (t ∷ []) (all_tables rest)))
    (IsPermutation-sym (ts ++ (t ∷ all_tables rest)) (t ∷ (ts ++ all_tables rest)) (IsPermutation-middle ts t (all_tables rest)))
all-push (ts ∷ rest) (suc p) t lt =
    let new : List CostTable = all_tables (set rest p (get_or rest p [] ++ (t ∷ []))) in
    IsPermutation-trans (t ∷ (ts ++ all_tables rest)) (ts ++ (t ∷ all_tables rest)) (ts ++ new)
    (IsPermutation-sym (ts ++ (t ∷ all_tables rest)) (t ∷ (ts ++ all_tables rest)) (IsPermutation-middle ts t (all_tables rest)))
    (IsPermutation-append_right ts (t ∷ all_tables rest) new (all-push rest p t (omega (arith, lt))))

pub depths-none : (sizes : List ℕ) (tables : List CostTable) (depths : List (List CostTable)) → length depths ≡ length sizes → All (λ ts. ts ≡ []) depths → AreByDepth sizes tables tables depths
depths-none sizes tables depths e none = record {
  many = e;
  each = λ p lt. subst (λ (ts : List CostTable). All (λ t. IsTableOver sizes t × IsOfDepth p t) ts) (sym (empty-at depths p none)) (All-nil (λ t. IsTableOver sizes t × IsOfDepth p t));
  all = subst (λ (us : List CostTable). IsPermutation tables us) (sym (ap (λ (us : List CostTable). tables ++ us) (empty-all depths none) ∙ append-nil tables)) (IsPermutation-refl tables);
  sums = λ value. omega (arith, empty-sum depths value none);
}

pub depths-push : (sizes : List ℕ) (tables left rest : List CostTable) (depths : List (List CostTable)) (p : ℕ) (t : CostTable) (list : List CostTable) → p < length sizes → IsTableOver sizes t → IsOfDepth p t → left ≡ rest ++ (t ∷ []) → list ≡ get_or depths p [] ++ (t ∷ []) → AreByDepth sizes tables left depths → AreByDepth sizes tables rest (set depths p list)
depths-push sizes tables left rest depths p t list lt over of el e h =
    let inside : p < length depths = omega (arith, lt, h.many) in
    record {
      many = length-set depths p list ∙ h.many;
      each = λ q hq. elim (cases_lt q p) [
        | inl less ↦ (let ne : q ≢ p = omega arith in subst (λ (ts : List CostTable). All (λ t. IsTableOver sizes t × IsOfDepth q t) ts) (sym (get_or-set_other depths p q list [] ne)) (h.each q hq))
        | inr more ↦ elim (cases_lt p q) [
          | inl less ↦ (let ne : q ≢ p = omega arith in subst (λ (ts : List CostTable). All (λ t. IsTableOver sizes t × IsOfDepth q t) ts) (sym (get_or-set_other depths p q list [] ne)) (h.each q hq))
          | inr most ↦ (let same : p ≡ q = omega arith in
              subst (λ (n : ℕ). All (λ t. IsTableOver sizes t × IsOfDepth n t) (get_or (set depths p list) n [])) same
              (subst (λ (ts : List CostTable). All (λ t. IsTableOver sizes t × IsOfDepth p t) ts) (sym (get_or-set_same depths p list [] inside ∙ e))
              (All-push (λ t. IsTableOver sizes t × IsOfDepth p t) (get_or depths p []) t (h.each p lt) (over, of))))
        ]
      ];
      all =
          (let old : List CostTable = all_tables depths in
          let new : List CostTable = all_tables (set depths p list) in
          let before = subst (λ (us : List CostTable). IsPermutation tables us) (ap (λ (us : List CostTable). us ++ old) el ∙ append_assoc rest (t ∷ []) old) h.all in
          let more = subst (λ (us : List CostTable). IsPermutation (t ∷ old) (all_tables (set depths p us))) (sym e) (all-push depths p t inside) in
          IsPermutation-trans tables (rest ++ (t ∷ old)) (rest ++ new) before (IsPermutation-append_right rest (t ∷ old) new more));
      sums = λ value.
          (let f : List CostTable → ℕ = λ ts. cost_with ts value in
          let g : CostTable → ℕ = λ t. cell_with t value in
          omega (arith, h.sums value, sum_by-set f depths p list [] inside, ap f e, ap f el, sum_by_push g (get_or depths p []) t, sum_by_push g rest t));
    }

-- the last of some tables, and the others
pub last-holds : (P : CostTable → Type 0) (xs ys : List CostTable) (t : CostTable) → xs ≡ ys ++ (t ∷ []) → All P xs → P t
last-holds P xs ys t e all =
    let none : CostTable = record { scope = []; sizes = []; cells = [] } in
    let long : length xs ≡ length ys + 1 = ap (λ (ts : List CostTable). length ts) e ∙ length_push ys t in
    let at : get_or xs (length ys) none ≡ t = ap (λ (ts : List CostTable). get_or ts (length ys) none) e ∙ get_or_push ys t none (length ys) refl in
    subst P at (all (length ys) none (omega arith))

pub others-hold : (P : CostTable → Type 0) (xs ys : List CostTable) (t : CostTable) → xs ≡ ys ++ (t ∷ []) → All P xs → All P ys
others-hold P xs ys t e all =
    let front : take (length ys) xs ≡ ys = ap (λ (ts : List CostTable). take (length ys) ts) e ∙ take_at ys (t ∷ []) (length ys) refl in
    subst (λ (ts : List CostTable). All P ts) front (All-take P (length ys) xs all)

-- a variable of a scope is one of the problem's
pub var-below : (n : ℕ) (scope : List ℕ) (var : ℕ) → has scope var ≡ true → All (λ v. v < n) scope → var < n
var-below n scope var stands all =
    let lt = place_in-lt scope var stands in
    omega (arith, at-place scope var lt, all (place_in scope var) 0 lt)

-- tables with the scopes of others
pub scopes-some : (ts us : List CostTable) → map (λ (t : CostTable). t.scope) ts ≡ map (λ (t : CostTable). t.scope) us → All (λ (t : CostTable). 1 ≤ length t.scope) us → All (λ (t : CostTable). 1 ≤ length t.scope) ts
scopes-some ts us e all = λ k d lt.
    (let f : CostTable → List ℕ = λ t. t.scope in
    let long : length ts ≡ length us = sym (length-map ts f) ∙ ap (λ (xs : List (List ℕ)). length xs) e ∙ length-map us f in
    let inside : k < length us = omega (arith, long, lt) in
    let same : f (get_or ts k d) ≡ f (get_or us k d) = sym (get_or-map f ts k d [] lt) ∙ ap (λ (xs : List (List ℕ)). get_or xs k []) e ∙ get_or-map f us k d [] inside in
    omega (arith, all k d inside, ap (λ (xs : List ℕ). length xs) same))

-- as many tables as cells, at most
pub few-tables : (sizes : List ℕ) (ts : List CostTable) → All (IsTableOf sizes) ts → length ts ≤ cell_count ts
few-tables sizes [] all = omega arith
few-tables sizes (t ∷ ts) all =
    let of = All-head (IsTableOf sizes) t ts all in
    let parts = parts-of t.scope t.sizes t.cells of.whole in
    omega (arith, few-tables sizes ts (All-tail (IsTableOf sizes) t ts all), product-some t.sizes parts.positive, parts.full, sum_by-cons (λ (t : CostTable). length t.cells) t ts)
