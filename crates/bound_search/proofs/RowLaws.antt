-- What a row of estimates needs: tables have cells where the values are within the sizes.
use Rattle.std.proofs.Common.{◌≡◌, ◌≢◌, ℕ, zero, suc, ◌+◌, ◌<◌, ◌≤◌, List, [], ◌∷◌, length, get_or, set, drop, sym, ap, subst, ◌∙◌, arith}
use Rattle.std.specs.List.{All, sum}
use Rattle.std.proofs.lemmas.List.{get_or_default, get_or-set_other}
use Rattle.std.proofs.lemmas.List.Elements.{All-filter, AllZip-get_or, length_all_zip}
use Rattle.std.proofs.lemmas.List.Sums.{sum_by-drop_more}
use Rattle.dcop_base.specs.Limits.{amount_limit}
use Rattle.dcop_base.specs.Table.{CostTable, AreWithin, has}
use Rattle.dcop_base.specs.Values.{cost_with, with_own}
use Rattle.shared_costs.specs.Values.{AreValues, AgreeBelow}
use Rattle.shared_costs.specs.Tables.{IsTableOver}
use Rattle.bucket_bounds.specs.Bounds.{bounds_at, bucket_of, tables_in}
use Rattle.bucket_bounds.specs.declared.bucket.Bucket.{Bucket}
use Rattle.bound_search.specs.Estimate.{estimate}
use Rattle.bound_search.specs.Grounds.{AreGrounds, HasCell, HasRow}
use Rattle.bound_search.proofs.EstimateLaws.{fits, own_values, buckets-long, depth_tables, bounds_tables, bucket_tables, own_agrees, own_before, own_is, estimate_agrees, sent_within, estimate_next, estimate_within}

-- values in a list are values of all variables
pub values_of : (sizes values : List ℕ) → AreWithin sizes values → AreValues sizes (λ v. get_or values v 0)
values_of sizes values within v lt = AllZip-get_or (λ s v. v < s) sizes values v 0 0 within lt

pub has_cell : (sizes values : List ℕ) (t : CostTable) → AreWithin sizes values → IsTableOver sizes t → HasCell values t
has_cell sizes values t within over =
    let long = length_all_zip (λ s v. v < s) sizes values within in
    record {
      entries = λ k d lt. (let below = over.within k d lt in omega (arith, below, long));
      within = fits sizes t (λ v. get_or values v 0) over (values_of sizes values within);
    }

-- what a row of a depth needs of the bucket there
pub record HasRows (values : List ℕ) (var count : ℕ) (f : ℕ) (new : ℕ → ℕ) (bucket : Bucket) : Type 0 where
  pub sent : All (HasCell values) bucket.sent
  pub tables : All (HasRow values var count) bucket.tables
  pub came : All (HasRow values var count) bucket.came
  pub few : f ≤ amount_limit
  pub less : bucket.fixed + cost_with bucket.sent (λ v. get_or values v 0) ≤ f
  pub each : (d : ℕ) → d < count → (new d ≤ amount_limit) × (new d + (bucket.fixed + cost_with bucket.sent (λ v. get_or values v 0)) ≡ f + cost_with bucket.tables (with_own var d (λ v. get_or values v 0)) + cost_with bucket.came (with_own var d (λ v. get_or values v 0)))

module _ (sizes : List ℕ) (scale : ℕ) (buckets : List Bucket) (grounds : AreGrounds sizes scale buckets) where
  has_row : (values : List ℕ) (p count : ℕ) (t : CostTable) → AreWithin sizes values → count ≡ get_or sizes p 0 → IsTableOver sizes t → HasRow values p count t
  has_row values p count t within long over =
      let same = length_all_zip (λ s v. v < s) sizes values within in
      record {
        entries = λ k d lt. (let below = over.within k d lt in omega (arith, below, same));
        each = λ d lt. fits sizes t (with_own p d (λ v. get_or values v 0)) over (own_values sizes scale buckets grounds p d (λ v. get_or values v 0) (values_of sizes values within) (omega (arith, lt, long)));
      }

  pub has_rows : (values : List ℕ) (p count f : ℕ) (bucket read : Bucket) → AreWithin sizes values → p < length sizes → count ≡ get_or sizes p 0 → f ≡ estimate p buckets (λ v. get_or values v 0) → bucket ≡ get_or buckets p read → HasRows values p count f (λ d. estimate (p + 1) buckets (with_own p d (λ v. get_or values v 0))) bucket
  has_rows values p count f bucket read within lt long is stands =
      let value : ℕ → ℕ = λ v. get_or values v 0 in
      let all = values_of sizes values within in
      let at : bucket ≡ bucket_of buckets p = stands ∙ get_or_default buckets p _ _ (let many = buckets-long sizes scale buckets grounds in omega (arith, lt, many)) in
      let bucket_is = grounds.bounds.each p lt in
      let few : f ≤ amount_limit = (let most = estimate_within sizes scale buckets grounds p value (omega (arith, lt)) all in omega (arith, most, is)) in
      let tables_are = bucket_tables sizes scale buckets grounds p bucket at in
      let own = depth_tables sizes scale buckets grounds p lt in
      let later = bounds_tables sizes scale buckets grounds (p + 1) (omega (arith, lt)) in
      let came : All (λ t. IsTableOver sizes t × All (λ v. v < p + 1) t.scope) bucket.came =
      subst (λ (ts : List CostTable). All (λ t. IsTableOver sizes t × All (λ v. v < p + 1) t.scope) ts) (sym (ap (λ (b : Bucket). b.came) at ∙ bucket_is.came))
      (All-filter (λ t. has t.scope p) (λ t. IsTableOver sizes t × All (λ v. v < p + 1) t.scope) (bounds_at (p + 1) buckets) later) in
      record {
        sent = subst (λ (b : Bucket). All (HasCell values) b.sent) (sym at) (λ k d h. has_cell sizes values (get_or (bucket_of buckets p).sent k d) within (bucket_is.sent k d h).0);
        tables = subst (λ (ts : List CostTable). All (HasRow values p count) ts) tables_are (λ k d h. has_row values p count (get_or (get_or (tables_in buckets) p []) k d) within long (own k d h).0);
        came = λ k d h. has_row values p count (get_or bucket.came k d) within long (came k d h).0;
        few = few;
        less = (let sent = sent_within sizes scale buckets grounds p value bucket lt at in omega (arith, sent, is));
        each = λ d h. (
          estimate_within sizes scale buckets grounds (p + 1) (with_own p d value) (omega (arith, lt)) (own_values sizes scale buckets grounds p d value all (omega (arith, h, long))),
          (let next = estimate_next sizes scale buckets grounds p d value bucket lt at in omega (arith, next, is)),
        );
      }

-- values of which one was set
pub within_set : (sizes values : List ℕ) (p a : ℕ) → AreWithin sizes values → a < get_or sizes p 0 → AreWithin sizes (set values p a)
within_set [] [] p a within lt = tt
within_set [] (v ∷ vs) p a within lt = absurd within
within_set (s ∷ ss) [] p a within lt = absurd within
within_set (s ∷ ss) (v ∷ vs) zero a within lt = (lt, within.1)
within_set (s ∷ ss) (v ∷ vs) (suc p) a within lt = (within.0, within_set ss vs p a within.1 lt)

pub agree_set : (values : List ℕ) (p a : ℕ) → AgreeBelow p (λ v. get_or values v 0) (λ v. get_or (set values p a) v 0)
agree_set values p a v lt = let ne : v ≢ p = omega (arith, lt) in get_or-set_other values p v a 0 ne

pub agree_more : (p : ℕ) (f g h : ℕ → ℕ) → AgreeBelow p f g → AgreeBelow p g h → AgreeBelow p f h
agree_more p f g h first next v lt = next v lt ∙ first v lt

pub agree_less : (p : ℕ) (f g h : ℕ → ℕ) → AgreeBelow p f g → AgreeBelow (p + 1) g h → AgreeBelow p f h
agree_less p f g h first next v lt = next v (omega (arith, lt)) ∙ first v lt

-- the estimates of a row, whatever value its variable has
pub row_agrees : (sizes : List ℕ) (scale : ℕ) (buckets : List Bucket) → AreGrounds sizes scale buckets → (values : List ℕ) (p a b : ℕ) → p < length sizes
    → estimate (p + 1) buckets (with_own p a (λ v. get_or (set values p b) v 0)) ≡ estimate (p + 1) buckets (with_own p a (λ v. get_or values v 0))
row_agrees sizes scale buckets grounds values p a b lt =
    let f : ℕ → ℕ = λ v. get_or (set values p b) v 0 in
    let g : ℕ → ℕ = λ v. get_or values v 0 in
    let same : AgreeBelow p f g = λ v h. sym (agree_set values p b v h) in
    estimate_agrees sizes scale buckets grounds (p + 1) (with_own p a f) (with_own p a g) (omega (arith, lt))
    (own_agrees p a f (with_own p a g) (agree_more p f g (with_own p a g) same (own_before p a g)) (own_is p a g))

-- the sizes that are left
pub sum_left : (sizes : List ℕ) (p : ℕ) → p < length sizes → sum (drop p sizes) ≡ get_or sizes p 0 + sum (drop (p + 1) sizes)
sum_left sizes p lt = sum_by-drop_more (λ x. x) sizes p 0 lt
