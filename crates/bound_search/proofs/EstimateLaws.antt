-- Laws of estimates.
use Rattle.std.proofs.Common.{◌≡◌, ℕ, zero, suc, ◌+◌, ◌-◌, ◌<◌, ◌≤◌, Bool, true, not, eqb, List, [], ◌∷◌, ◌++◌, map, length, get_or, take, drop, refl, sym, ap, ap₂, subst, ◌∙◌, inl, inr, arith}
use Rattle.std.specs.List.{All, filter, sum_by}
use Rattle.std.proofs.lemmas.Bool.{cases_Bool, cond-true, cond-false, eqb-true, eqb-false, eq-eqb}
use Rattle.std.proofs.lemmas.List.{drop_more, drop_all, take_all, length-map}
use Rattle.std.proofs.lemmas.List.Elements.{All-head, All-tail, All-append, All-filter, filter_passes}
use Rattle.std.proofs.lemmas.List.Filters.{sum_by-filter_both}
use Rattle.std.proofs.lemmas.List.Folds.{list_any_at}
use Rattle.std.proofs.lemmas.List.Sums.{sum_by-append, sum_by-drop_more, sum_by_more, sum_by-take-drop}
use Rattle.dcop_base.specs.Table.{CostTable, has, AreWithin, cell_place}
use Rattle.dcop_base.specs.Limits.{amount_limit}
use Rattle.dcop_base.specs.Values.{cell_with, cost_with, with_own}
use Rattle.dcop_optimum.proofs.SumLaws.{sum_same}
use Rattle.shared_costs.specs.Values.{AreValues, AgreeBelow}
use Rattle.shared_costs.specs.Tables.{IsTableOver, IsOfDepth, depths_cost}
use Rattle.bucket_bounds.specs.Bounds.{bounds_from, bounds_at, fixed_at, bound_at, tables_in, bucket_of}
use Rattle.bucket_bounds.specs.Exact.{AreExact}
use Rattle.bucket_bounds.specs.declared.bucket.Bucket.{Bucket}
use Rattle.bound_search.specs.Estimate.{estimate}
use Rattle.bound_search.specs.Grounds.{AreGrounds, scaled_cost}

-- tables that name only variables below a place
abbrev pub AreBelow : ℕ → List CostTable → Type 0
AreBelow p ts = All (λ t. All (λ v. v < p) t.scope) ts

-- the values of a scope are within its sizes
pub fits : (sizes : List ℕ) (t : CostTable) (f : ℕ → ℕ) → IsTableOver sizes t → AreValues sizes f → AreWithin t.sizes (map f t.scope)
fits sizes t f over all = subst (λ (ss : List ℕ). AreWithin ss (map f t.scope)) (sym over.sized) (each t.scope over.within)
  where
    each : (scope : List ℕ) → All (λ v. v < length sizes) scope → AreWithin (map (λ v. get_or sizes v 0) scope) (map f scope)
    each [] h = tt
    each (v ∷ vs) h = (all v (All-head (λ v. v < length sizes) v vs h), each vs (All-tail (λ v. v < length sizes) v vs h))

-- a table that names only variables below a place costs the same where these have the same values
values_agree : (p : ℕ) (f g : ℕ → ℕ) (scope : List ℕ) → All (λ v. v < p) scope → AgreeBelow p f g → map f scope ≡ map g scope
values_agree p f g [] h agree = refl
values_agree p f g (v ∷ vs) h agree = ap₂ (λ (x : ℕ) (xs : List ℕ). x ∷ xs) (sym (agree v (All-head (λ v. v < p) v vs h))) (values_agree p f g vs (All-tail (λ v. v < p) v vs h) agree)

cell_agrees : (p : ℕ) (f g : ℕ → ℕ) (t : CostTable) → All (λ v. v < p) t.scope → AgreeBelow p f g → cell_with t f ≡ cell_with t g
cell_agrees p f g t h agree = ap (λ (xs : List ℕ). get_or t.cells (cell_place t.sizes xs) 0) (values_agree p f g t.scope h agree)

pub costs_agree : (p : ℕ) (f g : ℕ → ℕ) (ts : List CostTable) → AreBelow p ts → AgreeBelow p f g → cost_with ts f ≡ cost_with ts g
costs_agree p f g ts h agree = sum_same (λ t. cell_with t f) (λ t. cell_with t g) ts (λ k d lt. cell_agrees p f g (get_or ts k d) (h k d lt) agree)

-- with one value more they agree further
pub own_agrees : (p a : ℕ) (f g : ℕ → ℕ) → AgreeBelow p f g → g p ≡ a → AgreeBelow (p + 1) (with_own p a f) g
own_agrees p a f g agree e v lt = elim (cases_Bool (eqb v p)) [
  | inl own ↦ ap g (eqb-true v p own) ∙ e ∙ sym (cond-true (eqb v p) a (f v) own)
  | inr other ↦ (let ne = eqb-false v p other in let below : v < p = grind arith in agree v below ∙ sym (cond-false (eqb v p) a (f v) other))
]

pub own_before : (p a : ℕ) (f : ℕ → ℕ) → AgreeBelow p f (with_own p a f)
own_before p a f v lt = elim (cases_Bool (eqb v p)) [
  | inl own ↦ absurd (let same = eqb-true v p own in omega arith)
  | inr other ↦ cond-false (eqb v p) a (f v) other
]

pub own_is : (p a : ℕ) (f : ℕ → ℕ) → with_own p a f p ≡ a
own_is p a f = cond-true (eqb p p) a (f p) (eq-eqb p p refl)

-- the tables by depth, parted at a depth
pub depths_parted : (p : ℕ) (depths : List (List CostTable)) (f : ℕ → ℕ) → depths_cost (take p depths) f + depths_cost (drop p depths) f ≡ depths_cost depths f
depths_parted p depths f = sum_by-take-drop (λ ts. cost_with ts f) depths p

pub depths_deeper : (p : ℕ) (depths : List (List CostTable)) (f : ℕ → ℕ) → p < length depths → depths_cost (take (p + 1) depths) f ≡ depths_cost (take p depths) f + cost_with (get_or depths p []) f
depths_deeper p depths f lt = sum_by_more (λ ts. cost_with ts f) depths p [] lt

pub depths_left : (p : ℕ) (depths : List (List CostTable)) (f : ℕ → ℕ) → p < length depths → depths_cost (drop p depths) f ≡ cost_with (get_or depths p []) f + depths_cost (drop (p + 1) depths) f
depths_left p depths f lt = sum_by-drop_more (λ ts. cost_with ts f) depths p [] lt

depths_agree : (p : ℕ) (depths : List (List CostTable)) (f g : ℕ → ℕ) → p ≤ length depths → ((q : ℕ) → q < p → AreBelow p (get_or depths q [])) → AgreeBelow p f g → (k : ℕ) → k ≤ p → depths_cost (take k depths) f ≡ depths_cost (take k depths) g
depths_agree p depths f g long h agree zero le = refl
depths_agree p depths f g long h agree (suc k) le =
    let lt : k < p = omega (arith, le) in
    let inside : k < length depths = omega (arith, lt, long) in
    let one : suc k ≡ k + 1 = omega arith in
    let rest = depths_agree p depths f g long h agree k (omega (arith, le)) in
    subst (λ (n : ℕ). depths_cost (take n depths) f ≡ depths_cost (take n depths) g) (sym one)
    (depths_deeper k depths f inside ∙ ap₂ (λ (a : ℕ) (b : ℕ). a + b) rest (costs_agree p f g (get_or depths k []) (h k lt) agree) ∙ sym (depths_deeper k depths g inside))

-- the tables of a bucket
get_or_mapped : (buckets : List Bucket) (p : ℕ) → get_or (tables_in buckets) p [] ≡ (bucket_of buckets p).tables
get_or_mapped [] p = refl
get_or_mapped (b ∷ bs) zero = refl
get_or_mapped (b ∷ bs) (suc p) = get_or_mapped bs p

-- what the grounds of a search say of one depth
module _ (sizes : List ℕ) (scale : ℕ) (buckets : List Bucket) (grounds : AreGrounds sizes scale buckets) where
  pub tables-long : length (tables_in buckets) ≡ length sizes
  tables-long = grounds.depths.many

  pub buckets-long : length buckets ≡ length sizes
  buckets-long = sym (length-map buckets (λ (b : Bucket). b.tables)) ∙ tables-long

  -- the tables of a depth
  pub depth_tables : (p : ℕ) → p < length sizes → All (λ t. IsTableOver sizes t × IsOfDepth p t) (get_or (tables_in buckets) p [])
  depth_tables p lt = grounds.depths.each p lt

  lower_tables : (p q : ℕ) → p ≤ length sizes → q < p → AreBelow p (get_or (tables_in buckets) q [])
  lower_tables p q le lt k d inside j e h = let last = (depth_tables q (omega (arith, le, lt)) k d inside).1.last j e h in omega (arith, last, lt)

  -- the bounds of a depth, from those of the next one
  bounds_next : (p : ℕ) → p < length sizes → bounds_at p buckets ≡ filter (λ t. not (has t.scope p)) (bounds_at (p + 1) buckets) ++ (bucket_of buckets p).sent
  bounds_next p lt = ap (λ (bs : List Bucket). bounds_from p bs) (drop_more buckets p _ (omega (arith, lt, buckets-long)))

  fixed_next : (p : ℕ) → p < length sizes → fixed_at p buckets ≡ (bucket_of buckets p).fixed + fixed_at (p + 1) buckets
  fixed_next p lt = sum_by-drop_more (λ (b : Bucket). b.fixed) buckets p _ (omega (arith, lt, buckets-long))

  -- bounds that do not name a variable are tables over those before it
  kept_bounds : (p : ℕ) (ts : List CostTable) → All (λ t. IsTableOver sizes t × All (λ v. v < p + 1) t.scope) ts → All (λ t. IsTableOver sizes t × All (λ v. v < p) t.scope) (filter (λ t. not (has t.scope p)) ts)
  kept_bounds p ts all k x h =
      let q : CostTable → Bool = λ t. not (has t.scope p) in
      let kept = All-filter q (λ t. IsTableOver sizes t × All (λ v. v < p + 1) t.scope) ts all k x h in
      (kept.0, λ j y i. other (get_or (filter q ts) k x).scope (filter_passes q ts k x h) kept.1 j y i)
    where
      other : (scope : List ℕ) → not (has scope p) ≡ true → All (λ v. v < p + 1) scope → All (λ v. v < p) scope
      other scope none below j y i = elim (cases_Bool (eqb (get_or scope j y) p)) [
        | inl same ↦ absurd (let stands = list_any_at (λ v. eqb v p) scope j y i same in cc)
        | inr ne ↦ (let differ = eqb-false (get_or scope j y) p ne in let lt = below j y i in grind arith)
      ]

  -- bounds are tables over earlier variables
  bounds_over : (d p : ℕ) → p + d ≡ length sizes → All (λ t. IsTableOver sizes t × All (λ v. v < p) t.scope) (bounds_at p buckets)
  bounds_over zero p e =
      let none = drop_all p buckets (omega (arith, e, buckets-long)) in
      subst (λ (bs : List Bucket). All (λ t. IsTableOver sizes t × All (λ v. v < p) t.scope) (bounds_from p bs)) (sym none) (λ k d lt. absurd (omega (arith, lt)))
  bounds_over (suc d) p e =
      let lt : p < length sizes = omega (arith, e) in
      let later = bounds_over d (p + 1) (omega (arith, e)) in
      subst (λ (ts : List CostTable). All (λ t. IsTableOver sizes t × All (λ v. v < p) t.scope) ts) (sym (bounds_next p lt))
      (All-append (λ t. IsTableOver sizes t × All (λ v. v < p) t.scope) (filter (λ t. not (has t.scope p)) (bounds_at (p + 1) buckets)) (bucket_of buckets p).sent (kept_bounds p (bounds_at (p + 1) buckets) later) (grounds.bounds.each p lt).sent)

  pub bounds_tables : (p : ℕ) → p ≤ length sizes → All (λ t. IsTableOver sizes t × All (λ v. v < p) t.scope) (bounds_at p buckets)
  bounds_tables p le = bounds_over (length sizes - p) p (omega (arith, le))

  -- an estimate depends on the values of earlier variables alone
  pub estimate_agrees : (p : ℕ) (f g : ℕ → ℕ) → p ≤ length sizes → AgreeBelow p f g → estimate p buckets f ≡ estimate p buckets g
  estimate_agrees p f g le agree =
      let long : p ≤ length (tables_in buckets) = omega (arith, le, tables-long) in
      ap₂ (λ (a : ℕ) (b : ℕ). a + (fixed_at p buckets + b))
      (depths_agree p (tables_in buckets) f g long (λ q lt. lower_tables p q le lt) agree p (omega arith))
      (costs_agree p f g (bounds_at p buckets) (λ k d lt. (bounds_tables p le k d lt).1) agree)

  -- an estimate is at most each cost behind it
  pub estimate_low : (p : ℕ) (f : ℕ → ℕ) → p ≤ length sizes → AreValues sizes f → estimate p buckets f ≤ scaled_cost buckets f
  estimate_low p f le all =
      let low = grounds.bounds.low p f le all in
      let parts = depths_parted p (tables_in buckets) f in
      omega (arith, low, parts)

  pub estimate_within : (p : ℕ) (f : ℕ → ℕ) → p ≤ length sizes → AreValues sizes f → estimate p buckets f ≤ amount_limit
  estimate_within p f le all =
      let low = estimate_low p f le all in
      let most = grounds.depths.capped f all in
      omega (arith, low, most)

  -- behind all variables it is the cost
  pub estimate_all : (f : ℕ → ℕ) → estimate (length sizes) buckets f ≡ scaled_cost buckets f
  estimate_all f =
      let whole : take (length sizes) (tables_in buckets) ≡ tables_in buckets = take_all (length sizes) (tables_in buckets) (omega (arith, tables-long)) in
      let none : drop (length sizes) buckets ≡ [] = drop_all (length sizes) buckets (omega (arith, buckets-long)) in
      let front : depths_cost (take (length sizes) (tables_in buckets)) f ≡ depths_cost (tables_in buckets) f = ap (λ (ds : List (List CostTable)). depths_cost ds f) whole in
      let back : bound_at (length sizes) buckets f ≡ 0 = ap (λ (bs : List Bucket). sum_by (λ (b : Bucket). b.fixed) bs + cost_with (bounds_from (length sizes) bs) f) none in
      omega (arith, front, back)

  -- the tables of a bucket are those of its depth
  pub bucket_tables : (p : ℕ) (bucket : Bucket) → bucket ≡ bucket_of buckets p → get_or (tables_in buckets) p [] ≡ bucket.tables
  bucket_tables p bucket is = get_or_mapped buckets p ∙ ap (λ (b : Bucket). b.tables) (sym is)

  -- what a bucket sends is part of the estimate
  pub sent_within : (p : ℕ) (f : ℕ → ℕ) (bucket : Bucket) → p < length sizes → bucket ≡ bucket_of buckets p → bucket.fixed + cost_with bucket.sent f ≤ estimate p buckets f
  sent_within p f bucket lt is =
      let kept = filter (λ t. not (has t.scope p)) (bounds_at (p + 1) buckets) in
      let at : cost_with (bounds_at p buckets) f ≡ cost_with kept f + cost_with bucket.sent f =
      ap (λ (ts : List CostTable). cost_with ts f) (bounds_next p lt) ∙ sum_by-append (λ t. cell_with t f) kept (bucket_of buckets p).sent
      ∙ ap (λ (b : Bucket). cost_with kept f + cost_with b.sent f) (sym is) in
      let fixed : fixed_at p buckets ≡ bucket.fixed + fixed_at (p + 1) buckets = fixed_next p lt ∙ ap (λ (b : Bucket). b.fixed + fixed_at (p + 1) buckets) (sym is) in
      omega (arith, at, fixed)

  -- from a depth to the next one
  pub estimate_next : (p a : ℕ) (f : ℕ → ℕ) (bucket : Bucket) → p < length sizes → bucket ≡ bucket_of buckets p
      → estimate (p + 1) buckets (with_own p a f) + (bucket.fixed + cost_with bucket.sent f) ≡ estimate p buckets f + cost_with bucket.tables (with_own p a f) + cost_with bucket.came (with_own p a f)
  estimate_next p a f bucket lt is =
      let g : ℕ → ℕ = with_own p a f in
      let agree = own_before p a f in
      let le : p ≤ length sizes = omega (arith, lt) in
      let q : CostTable → Bool = λ t. has t.scope p in
      let tables : get_or (tables_in buckets) p [] ≡ bucket.tables = bucket_tables p bucket is in
      let deeper = depths_deeper p (tables_in buckets) g (omega (arith, lt, tables-long)) in
      let own : cost_with (get_or (tables_in buckets) p []) g ≡ cost_with bucket.tables g = ap (λ (ts : List CostTable). cost_with ts g) tables in
      let before = depths_agree p (tables_in buckets) f g (omega (arith, lt, tables-long)) (λ q lt. lower_tables p q le lt) agree p (omega arith) in
      let both : cost_with (filter q (bounds_at (p + 1) buckets)) g + cost_with (filter (λ t. not (has t.scope p)) (bounds_at (p + 1) buckets)) g ≡ cost_with (bounds_at (p + 1) buckets) g = sum_by-filter_both q (λ t. not (q t)) (λ t. refl) (λ t. cell_with t g) (bounds_at (p + 1) buckets) in
      let came : cost_with bucket.came g ≡ cost_with (filter q (bounds_at (p + 1) buckets)) g = ap (λ (b : Bucket). cost_with b.came g) is ∙ ap (λ (ts : List CostTable). cost_with ts g) (grounds.bounds.each p lt).came in
      let at : cost_with (bounds_at p buckets) f ≡ cost_with (filter (λ t. not (has t.scope p)) (bounds_at (p + 1) buckets)) f + cost_with bucket.sent f =
      ap (λ (ts : List CostTable). cost_with ts f) (bounds_next p lt) ∙ sum_by-append (λ t. cell_with t f) (filter (λ t. not (has t.scope p)) (bounds_at (p + 1) buckets)) (bucket_of buckets p).sent
      ∙ ap (λ (b : Bucket). cost_with (filter (λ t. not (has t.scope p)) (bounds_at (p + 1) buckets)) f + cost_with b.sent f) (sym is) in
      let same : cost_with (filter (λ t. not (has t.scope p)) (bounds_at (p + 1) buckets)) f ≡ cost_with (filter (λ t. not (has t.scope p)) (bounds_at (p + 1) buckets)) g =
      costs_agree p f g _ (λ k d h. (kept_bounds p (bounds_at (p + 1) buckets) (bounds_tables (p + 1) (omega (arith, lt))) k d h).1) agree in
      let fixed : fixed_at p buckets ≡ bucket.fixed + fixed_at (p + 1) buckets = fixed_next p lt ∙ ap (λ (b : Bucket). b.fixed + fixed_at (p + 1) buckets) (sym is) in
      omega (arith, deeper, own, before, both, came, at, same, fixed)

  -- where bounds lose nothing, some value of the next variable costs no more
  pub record HasLeast (p : ℕ) (f : ℕ → ℕ) : Type 0 where
    pub value : ℕ
    pub below : value < get_or sizes p 0
    pub least : estimate (p + 1) buckets (with_own p value f) ≤ estimate p buckets f

  pub least_next : (p : ℕ) (f : ℕ → ℕ) → p < length sizes → AreValues sizes f → AreExact sizes (tables_in buckets) buckets → HasLeast p f
  least_next p f lt all exact =
      let rest = exact p f (omega (arith, lt)) all in
      let other = rest.attained.0 in
      let within = rest.attained.1 in
      let agree = rest.attained.2 in
      let is = rest.attained.3 in
      let low = grounds.bounds.low (p + 1) other (omega (arith, lt)) within in
      let left = depths_left p (tables_in buckets) other (omega (arith, lt, tables-long)) in
      let deeper = depths_deeper p (tables_in buckets) other (omega (arith, lt, tables-long)) in
      let before = depths_agree p (tables_in buckets) f other (omega (arith, lt, tables-long)) (λ q h. lower_tables p q (omega (arith, lt)) h) agree p (omega arith) in
      let same = estimate_agrees (p + 1) (with_own p (other p) f) other (omega (arith, lt)) (own_agrees p (other p) f other agree refl) in
      record {
        value = other p;
        below = within p lt;
        least = omega (arith, low, left, deeper, before, same, is);
      }

  -- the estimates of the values of the next variable are at most the costs behind them
  pub estimate_behind : (p : ℕ) (f other : ℕ → ℕ) → p < length sizes → AreValues sizes other → AgreeBelow p f other → estimate (p + 1) buckets (with_own p (other p) f) ≤ scaled_cost buckets other
  estimate_behind p f other lt all agree =
      let same = estimate_agrees (p + 1) (with_own p (other p) f) other (omega (arith, lt)) (own_agrees p (other p) f other agree refl) in
      let low = estimate_low (p + 1) other (omega (arith, lt)) all in
      omega (arith, same, low)

  -- values, with one more value
  pub own_values : (p a : ℕ) (f : ℕ → ℕ) → AreValues sizes f → a < get_or sizes p 0 → AreValues sizes (with_own p a f)
  own_values p a f all lt v h = elim (cases_Bool (eqb v p)) [
    | inl own ↦ (let same = eqb-true v p own in let is = cond-true (eqb v p) a (f v) own in let at = ap (λ (n : ℕ). get_or sizes n 0) same in omega (arith, same, is, at, lt))
    | inr other ↦ (let is = cond-false (eqb v p) a (f v) other in let below = all v h in omega (arith, is, below))
  ]
