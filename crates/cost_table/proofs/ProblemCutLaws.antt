-- Laws of slices of problems: values of a scope, costs, and the limits that every problem keeps.
use Rattle.std.proofs.Common.{◌≡◌, ℕ, zero, suc, ◌+◌, ◌<◌, ◌≤◌, Bool, false, ◌&&◌, ◌||◌, eqb, max, List, [], ◌∷◌, length, get_or, set, map, refl, sym, ap, ap₂, ◌∙◌, subst, subst₂, inl, inr, one-add, length-set, get_or-set_same, get_or-set_other, arith}
use Rattle.std.proofs.Math.Path.{fun_ext}
use Rattle.std.specs.List.{All, AllZip, Contains, fold, sum_by}
use Rattle.std.proofs.lemmas.List.{length-map, get_or-map, get_or_past}
use Rattle.std.proofs.lemmas.List.Sums.{sum_by-cons}
use Rattle.std.proofs.lemmas.List.Elements.{All-head, All-tail, All-cons, All-nil, All-set}
use Rattle.std.proofs.lemmas.Bool.{cases_Bool, cases_lt, eqb-true, eqb-false, or_parts}
use Rattle.dcop_base.specs.Table.{CostTable, IsTable, has, has_repeat, AreWithin, values_at, cell_at, greatest}
use Rattle.dcop_base.specs.Problem.{Dcop}
use Rattle.dcop_base.specs.Faults.{cell_count, greatest_sum}
use Rattle.dcop_base.specs.Graph.{share_table, AreConnected, AreJoints}
use Rattle.dcop_base.specs.Whole.{IsTableOf, IsProblem}
use Rattle.dcop_base.specs.Limits.{size_limit, cost_limit}
use Rattle.dcop_base.proofs.TableLaws.{parts-of}
use Rattle.dcop_base.proofs.FaultLaws.{greatest-le}
use Rattle.dcop_base.proofs.ProblemLaws.{entries-of, values-fit}
use Rattle.cost_table.specs.Cells.{cell_of, place_in}
use Rattle.cost_table.specs.Runs.{AreFewer}
use Rattle.cost_table.specs.Slices.{put_in, ones_at, places_in, IsCut, IsCutOf, IsSliceOf, KeepsCosts, FitInTurn}
use Rattle.cost_table.proofs.CutLaws.{within-put_in}

-- lists keep their lengths, and sizes their limits
pub length-put_in : (ps vs xs : List ℕ) → length (put_in ps vs xs) ≡ length xs
length-put_in [] vs xs = refl
length-put_in (p ∷ ps) [] xs = refl
length-put_in (p ∷ ps) (v ∷ vs) xs = length-set (put_in ps vs xs) p v ∙ length-put_in ps vs xs

pub length-ones_at : (ps ss : List ℕ) → length (ones_at ps ss) ≡ length ss
length-ones_at [] ss = refl
length-ones_at (p ∷ ps) ss = length-ones_at ps (set ss p 1) ∙ length-set ss p 1

pub All-ones_at : (P : ℕ → Type 0) (ps ss : List ℕ) → P 1 → All P ss → All P (ones_at ps ss)
All-ones_at P [] ss one all = all
All-ones_at P (p ∷ ps) ss one all = All-ones_at P ps (set ss p 1) one (All-set P ss p 1 one all)

-- the place of a variable behind another one, and what stands there
place-next : (x c : ℕ) (xs : List ℕ) → eqb x c ≡ false → place_in (x ∷ xs) c ≡ suc (place_in xs c)
place-next x c xs f = rw f (one-add (place_in xs c))

pub at-place : (scope : List ℕ) (c : ℕ) → place_in scope c < length scope → get_or scope (place_in scope c) 0 ≡ c
at-place [] c lt = absurd (omega (arith, lt))
at-place (x ∷ xs) c lt = elim (cases_Bool (eqb x c)) [
  | inl t ↦ rw t (eqb-true x c t)
  | inr f ↦ (let lt2 = rw f at lt in let inside : place_in xs c < length xs = omega (arith, lt2) in ap (λ (n : ℕ). get_or (x ∷ xs) n 0) (place-next x c xs f) ∙ at-place xs c inside)
]

-- the values of a scope after the value of one variable was set
pub values_at-other : (scope xs : List ℕ) (c v : ℕ) → has scope c ≡ false → values_at scope (set xs c v) ≡ values_at scope xs
values_at-other [] xs c v e = refl
values_at-other (x ∷ rest) xs c v e =
    let both = or_parts (eqb x c) (has rest c) e in
    ap₂ (λ (y : ℕ) (ys : List ℕ). y ∷ ys) (get_or-set_other xs c x v 0 (eqb-false x c both.0)) (values_at-other rest xs c v both.1)

pub values_at-set : (scope xs : List ℕ) (c v : ℕ) → has_repeat scope ≡ false → All (λ x. x < length xs) scope → values_at scope (set xs c v) ≡ set (values_at scope xs) (place_in scope c) v
values_at-set [] xs c v apart all = refl
values_at-set (x ∷ rest) xs c v apart all =
    let both = or_parts (has rest x) (has_repeat rest) apart in
    elim (cases_Bool (eqb x c)) [
      | inl t ↦ (let same : x ≡ c = eqb-true x c t in
          let inside : c < length xs = rw (← same) (All-head (λ x. x < length xs) x rest all) in
          let absent : has rest c ≡ false = rw (← same) both.0 in
          let head : get_or (set xs c v) x 0 ≡ v = ap (λ (n : ℕ). get_or (set xs c v) n 0) same ∙ get_or-set_same xs c v 0 inside in
          rw t (ap₂ (λ (y : ℕ) (ys : List ℕ). y ∷ ys) head (values_at-other rest xs c v absent)))
      | inr f ↦ ap₂ (λ (y : ℕ) (ys : List ℕ). y ∷ ys) (get_or-set_other xs c x v 0 (eqb-false x c f)) (values_at-set rest xs c v both.1 (All-tail (λ x. x < length xs) x rest all))
          ∙ sym (ap (λ (n : ℕ). set (values_at (x ∷ rest) xs) n v) (place-next x c rest f))
    ]

-- the same for all cut variables: of values, and of sizes
below-same : (n m : ℕ) (scope : List ℕ) → m ≡ n → All (λ x. x < n) scope → All (λ x. x < m) scope
below-same n m scope e all = λ k d lt. omega (arith, e, all k d lt)

pub values_at-put_in : (scope cut vs xs : List ℕ) → has_repeat scope ≡ false → All (λ x. x < length xs) scope → values_at scope (put_in cut vs xs) ≡ put_in (places_in scope cut) vs (values_at scope xs)
values_at-put_in scope [] vs xs apart all = refl
values_at-put_in scope (c ∷ cs) [] xs apart all = refl
values_at-put_in scope (c ∷ cs) (v ∷ vs) xs apart all =
    values_at-set scope (put_in cs vs xs) c v apart (below-same (length xs) (length (put_in cs vs xs)) scope (length-put_in cs vs xs) all)
    ∙ ap (λ (ys : List ℕ). set ys (place_in scope c) v) (values_at-put_in scope cs vs xs apart all)

pub values_at-ones_at : (scope cut ss : List ℕ) → has_repeat scope ≡ false → All (λ x. x < length ss) scope → values_at scope (ones_at cut ss) ≡ ones_at (places_in scope cut) (values_at scope ss)
values_at-ones_at scope [] ss apart all = refl
values_at-ones_at scope (c ∷ cs) ss apart all =
    values_at-ones_at scope cs (set ss c 1) apart (below-same (length ss) (length (set ss c 1)) scope (length-set ss c 1) all)
    ∙ ap (λ (ys : List ℕ). ones_at (places_in scope cs) ys) (values_at-set scope ss c 1 apart all)

-- one value each, below the size of its variable: of the problem's variables, and of a scope's
pub cut-inside : (ss cut vs : List ℕ) → AreWithin (values_at cut ss) vs → All (λ v. v < length ss) cut
cut-inside ss [] vs w = All-nil (λ v. v < length ss)
cut-inside ss (c ∷ cs) [] w = absurd w
cut-inside ss (c ∷ cs) (v ∷ vs) w = All-cons (λ v. v < length ss) c cs (elim (cases_lt c (length ss)) [
  | inl lt ↦ lt
  | inr past ↦ absurd (omega (arith, w.0, get_or_past ss c 0 past))
]) (cut-inside ss cs vs w.1)

pub fits-of : (ss cut vs : List ℕ) → has_repeat cut ≡ false → AreWithin (values_at cut ss) vs → FitInTurn ss cut vs
fits-of ss [] [] apart w = tt
fits-of ss [] (v ∷ vs) apart w = absurd w
fits-of ss (c ∷ cs) [] apart w = absurd w
fits-of ss (c ∷ cs) (v ∷ vs) apart w =
    let both = or_parts (has cs c) (has_repeat cs) apart in
    (λ _. w.0, fits-of (set ss c 1) cs vs both.1 (subst (λ (xs : List ℕ). AreWithin xs vs) (sym (values_at-other cs ss c 1 both.0)) w.1))

pub fits-scope : (scope ss cut vs : List ℕ) → has_repeat scope ≡ false → All (λ x. x < length ss) scope → FitInTurn ss cut vs → FitInTurn (values_at scope ss) (places_in scope cut) vs
fits-scope scope ss [] [] apart all fit = tt
fits-scope scope ss [] (v ∷ vs) apart all fit = absurd fit
fits-scope scope ss (c ∷ cs) [] apart all fit = absurd fit
fits-scope scope ss (c ∷ cs) (v ∷ vs) apart all fit =
    let rest = fits-scope scope (set ss c 1) cs vs apart (below-same (length ss) (length (set ss c 1)) scope (length-set ss c 1) all) fit.1 in (
      λ lt. (let p = place_in scope c in
          let inside : p < length scope = omega (arith, lt, length-map scope (λ x. get_or ss x 0)) in
          let here = at-place scope c inside in
          let low : c < length ss = omega (arith, here, all p 0 inside) in
          let size : get_or (values_at scope ss) p 0 ≡ get_or ss c 0 = get_or-map (λ x. get_or ss x 0) scope p 0 0 inside ∙ ap (λ (n : ℕ). get_or ss n 0) here in
          omega (arith, size, fit.0 low)),
      subst (λ (xs : List ℕ). FitInTurn xs (places_in scope cs) vs) (values_at-set scope ss c 1 apart all) rest,
    )

-- a cut table is one of the slice's
pub cut-of : (sizes cut vs : List ℕ) (t s : CostTable) → IsTableOf sizes t → IsCut t cut vs s → IsTable s → AreFewer t.cells s.cells → IsCutOf sizes cut vs t s
cut-of sizes cut vs t s of h whole fewer =
    let apart = (parts-of t.scope t.sizes t.cells of.whole).apart in
    let same : s.sizes ≡ values_at s.scope (ones_at cut sizes) =
    h.same_sizes ∙ ap (λ (ss : List ℕ). ones_at (places_in t.scope cut) ss) of.sized ∙ sym (values_at-ones_at t.scope cut sizes apart of.within)
    ∙ ap (λ (scope : List ℕ). values_at scope (ones_at cut sizes)) (sym h.same_scope) in
    record {
      cut_at = h;
      table = record {
        whole = whole;
        some = rw h.same_scope of.some;
        few = rw h.same_scope of.few;
        within = rw h.same_scope (below-same (length sizes) (length (ones_at cut sizes)) t.scope (length-ones_at cut sizes) of.within);
        sized = same;
        cheap = fewer.within cost_limit of.cheap;
      };
      fewer = fewer;
    }

-- what an assignment of the slice has of a cut table
pub cell-cut : (sizes cut vs others : List ℕ) (t s : CostTable) → IsTableOf sizes t → IsCutOf sizes cut vs t s → AreWithin (ones_at cut sizes) others → cell_at s others ≡ cell_at t (put_in cut vs others)
cell-cut sizes cut vs others t s of h w =
    let own = h.cut_at in
    let apart = (parts-of t.scope t.sizes t.cells of.whole).apart in
    let fit = values-fit (ones_at cut sizes) others s h.table w in
    let fit2 : AreWithin (ones_at (places_in t.scope cut) t.sizes) (values_at t.scope others) = subst₂ (λ (ss scope : List ℕ). AreWithin ss (values_at scope others)) own.same_sizes own.same_scope fit in
    let entries : All (λ x. x < length others) t.scope = rw (← own.same_scope) (entries-of (ones_at cut sizes) others s h.table w) in
    ap (λ (scope : List ℕ). cell_of s (values_at scope others)) own.same_scope ∙ own.cells (values_at t.scope others) fit2
    ∙ ap (λ (xs : List ℕ). cell_of t xs) (sym (values_at-put_in t.scope cut vs others apart entries))

pub costs-cut : (sizes cut vs others : List ℕ) (ts ss : List CostTable) → All (IsTableOf sizes) ts → AllZip (IsCutOf sizes cut vs) ts ss → AreWithin (ones_at cut sizes) others → sum_by (λ s. cell_at s others) ss ≡ sum_by (λ t. cell_at t (put_in cut vs others)) ts
costs-cut sizes cut vs others [] [] all h w = refl
costs-cut sizes cut vs others [] (s ∷ ss) all h w = absurd h
costs-cut sizes cut vs others (t ∷ ts) [] all h w = absurd h
costs-cut sizes cut vs others (t ∷ ts) (s ∷ ss) all h w =
    sum_by-cons (λ s. cell_at s others) s ss
    ∙ ap₂ (λ (m n : ℕ). m + n) (cell-cut sizes cut vs others t s (All-head (IsTableOf sizes) t ts all) h.0 w) (costs-cut sizes cut vs others ts ss (All-tail (IsTableOf sizes) t ts all) h.1 w)
    ∙ sym (sum_by-cons (λ t. cell_at t (put_in cut vs others)) t ts)

-- the cells of all tables together, and their greatest
fold-max-start : (a : ℕ) (xs : List ℕ) → a ≤ fold max a xs
fold-max-start a [] = omega arith
fold-max-start a (x ∷ xs) = let rest = fold-max-start (max a x) xs in omega arith

fold-max-at : (a : ℕ) (xs : List ℕ) (k d : ℕ) → k < length xs → get_or xs k d ≤ fold max a xs
fold-max-at a [] k d lt = absurd (omega (arith, lt))
fold-max-at a (x ∷ xs) zero d lt = let rest = fold-max-start (max a x) xs in omega arith
fold-max-at a (x ∷ xs) (suc k) d lt = fold-max-at (max a x) xs k d (omega (arith, lt))

pub greatest-fewer : (cells kept : List ℕ) → AreFewer cells kept → greatest kept ≤ greatest cells
greatest-fewer cells kept h = greatest-le (greatest cells) kept (h.within (greatest cells) (λ k d lt. fold-max-at 0 cells k d lt))

pub totals-cut : (sizes cut vs : List ℕ) (ts ss : List CostTable) → AllZip (IsCutOf sizes cut vs) ts ss → (cell_count ss ≤ cell_count ts) × (greatest_sum ss ≤ greatest_sum ts)
totals-cut sizes cut vs [] [] h = (omega arith, omega arith)
totals-cut sizes cut vs [] (s ∷ ss) h = absurd h
totals-cut sizes cut vs (t ∷ ts) [] h = absurd h
totals-cut sizes cut vs (t ∷ ts) (s ∷ ss) h =
    let rest = totals-cut sizes cut vs ts ss h.1 in (
      omega (arith, rest.0, h.0.fewer.count, sum_by-cons (λ (t : CostTable). length t.cells) t ts, sum_by-cons (λ (t : CostTable). length t.cells) s ss),
      omega (arith, rest.1, greatest-fewer t.cells s.cells h.0.fewer, sum_by-cons (λ (t : CostTable). greatest t.cells) t ts, sum_by-cons (λ (t : CostTable). greatest t.cells) s ss),
    )

-- the graph of tables is the same, and so are its joints
pub share-cut : (sizes cut vs : List ℕ) (ts ss : List CostTable) → AllZip (IsCutOf sizes cut vs) ts ss → (u v : ℕ) → share_table ss u v ≡ share_table ts u v
share-cut sizes cut vs [] [] h u v = refl
share-cut sizes cut vs [] (s ∷ ss) h u v = absurd h
share-cut sizes cut vs (t ∷ ts) [] h u v = absurd h
share-cut sizes cut vs (t ∷ ts) (s ∷ ss) h u v =
    ap₂ (λ (a b : Bool). a || b) (ap (λ (scope : List ℕ). has scope u && has scope v) h.0.cut_at.same_scope) (share-cut sizes cut vs ts ss h.1 u v)

pub joints-same : (n : ℕ) (ts ss : List CostTable) (joints : List (ℕ × ℕ)) → ((u v : ℕ) → share_table ss u v ≡ share_table ts u v) → AreJoints n ts joints → AreJoints n ss joints
joints-same n ts ss joints same h =
    let e : share_table ts ≡ share_table ss = fun_ext (λ u. fun_ext (λ v. sym (same u v))) in
    record {
      from_zero = h.from_zero;
      ascending = h.ascending;
      within = h.within;
      first = subst (λ (edge : ℕ → ℕ → Bool). All (λ j. (u : ℕ) → u < j.1 → ¬ AreConnected edge u j.1) joints) e h.first;
      every = subst (λ (edge : ℕ → ℕ → Bool). (v : ℕ) → v < n → (f : ℕ) × (Contains (0 ∷ map (λ j. j.1) joints) f) × (AreConnected edge f v)) e h.every;
    }

-- the slice is a problem
pub slice-whole : (p : Dcop) (cut vs : List ℕ) (ss : List CostTable) → IsProblem p → AllZip (IsCutOf p.sizes cut vs) p.tables ss → IsProblem (record { sizes = ones_at cut p.sizes; tables = ss; joints = p.joints })
slice-whole p cut vs ss h cuts =
    let long = length-ones_at cut p.sizes in
    let totals = totals-cut p.sizes cut vs p.tables ss cuts in
    let same = joints-same (length p.sizes) p.tables ss p.joints (share-cut p.sizes cut vs p.tables ss cuts) h.joints in
    record {
      some = omega (arith, long, h.some);
      few = omega (arith, long, h.few);
      sizes = All-ones_at (λ s. (1 ≤ s) × (s ≤ size_limit)) cut p.sizes (omega arith, omega arith) h.sizes;
      tables = all-cut p.sizes cut vs p.tables ss cuts;
      cells = omega (arith, totals.0, h.cells);
      sums = omega (arith, totals.1, h.sums);
      joints = subst (λ (n : ℕ). AreJoints n ss p.joints) (sym long) same;
    }
  where
    all-cut : (sizes cut vs : List ℕ) (ts ss : List CostTable) → AllZip (IsCutOf sizes cut vs) ts ss → All (IsTableOf (ones_at cut sizes)) ss
    all-cut sizes cut vs [] [] h = All-nil (IsTableOf (ones_at cut sizes))
    all-cut sizes cut vs [] (s ∷ ss) h = absurd h
    all-cut sizes cut vs (t ∷ ts) [] h = absurd h
    all-cut sizes cut vs (t ∷ ts) (s ∷ ss) h = All-cons (IsTableOf (ones_at cut sizes)) s ss h.0.table (all-cut sizes cut vs ts ss h.1)

pub slice-is : (p : Dcop) (cut vs : List ℕ) (ss : List CostTable) → AllZip (IsCutOf p.sizes cut vs) p.tables ss → IsSliceOf p cut vs (record { sizes = ones_at cut p.sizes; tables = ss; joints = p.joints })
slice-is p cut vs ss cuts = record { sizes = refl; tables = cut-tables p.tables ss cuts; joints = refl }
  where
    cut-tables : (ts rest : List CostTable) → AllZip (IsCutOf p.sizes cut vs) ts rest → AllZip (λ t s. IsCut t cut vs s) ts rest
    cut-tables [] [] h = tt
    cut-tables [] (s ∷ rest) h = absurd h
    cut-tables (t ∷ ts) [] h = absurd h
    cut-tables (t ∷ ts) (s ∷ rest) h = (h.0.cut_at, cut-tables ts rest h.1)

pub slice-costs : (p : Dcop) (cut vs : List ℕ) (ss : List CostTable) → IsProblem p → FitInTurn p.sizes cut vs → AllZip (IsCutOf p.sizes cut vs) p.tables ss → KeepsCosts p cut vs (record { sizes = ones_at cut p.sizes; tables = ss; joints = p.joints })
slice-costs p cut vs ss h fit cuts = record {
  assignment = λ others w. within-put_in p.sizes cut vs others fit w;
  same_cost = λ others w. costs-cut p.sizes cut vs others p.tables ss h.tables cuts w;
}
