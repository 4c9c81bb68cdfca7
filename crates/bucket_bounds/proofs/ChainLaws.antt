-- Laws of buckets that are made one before the other: what they send sums to at most their tables.
use Rattle.std.proofs.Common.{◌≡◌, ℕ, zero, suc, ◌+◌, ◌<◌, ◌≤◌, Bool, true, false, not, List, [], ◌∷◌, drop, get_or, refl, ap, subst, arith}
use Rattle.std.specs.List.{All, sum_by, filter}
use Rattle.std.proofs.lemmas.List.Elements.{All-nil, All-head, All-tail, All-append, All-filter, filter_passes}
use Rattle.std.proofs.lemmas.List.Filters.{sum_by-filter_both}
use Rattle.std.proofs.lemmas.List.Sums.{sum_by-cons, sum_by-append}
use Rattle.dcop_base.specs.Table.{CostTable, has}
use Rattle.dcop_base.specs.Values.{cell_with, cost_with, with_own}
use Rattle.shared_costs.specs.Values.{AreValues, AgreeBelow}
use Rattle.shared_costs.specs.Tables.{depths_cost}
use Rattle.bucket_bounds.specs.Bounds.{bounds_from, tables_in}
use Rattle.bucket_bounds.specs.Exact.{IsUnparted}
use Rattle.bucket_bounds.specs.Made.{IsItem, IsBoundTable, AreMade}
use Rattle.bucket_bounds.specs.declared.bucket.Bucket.{Bucket}
use Rattle.bucket_bounds.proofs.CellLaws.{cost_agrees, own_agrees, own_values, agrees_before, below_without}

-- what these buckets send that is no table
abbrev pub fixed_in : List Bucket → ℕ
fixed_in buckets = sum_by (λ bucket. bucket.fixed) buckets

-- each bucket sends tables over the variables before its own
abbrev pub AreSent : List ℕ → ℕ → List Bucket → Type 0
AreSent sizes p [] = Unit {0}
AreSent sizes p (bucket ∷ later) = All (IsBoundTable sizes p) bucket.sent × AreSent sizes (p + 1) later

pub sent_of_made : (sizes : List ℕ) (p : ℕ) (bs : List Bucket) → AreMade sizes p bs → AreSent sizes p bs
sent_of_made sizes p [] made = tt
sent_of_made sizes p (b ∷ bs) made = (made.0.sent, sent_of_made sizes (p + 1) bs made.1)

-- a bound that does not name p and is of depth p + 1 is of depth p
bound_before : (sizes : List ℕ) (p : ℕ) (t : CostTable) → IsBoundTable sizes (p + 1) t → not (has t.scope p) ≡ true → IsBoundTable sizes p t
bound_before sizes p t is test = (is.0, below_without p t.scope is.1 (un_not (has t.scope p) test))
  where
    un_not : (b : Bool) → not b ≡ true → b ≡ false
    un_not Bool.true e = absurd (cc)
    un_not Bool.false e = refl

pub stayed_before : (sizes : List ℕ) (p : ℕ) (ts : List CostTable) → All (IsBoundTable sizes (p + 1)) ts → All (IsBoundTable sizes p) (filter (λ t. not (has t.scope p)) ts)
stayed_before sizes p ts all k d lt =
    let q : CostTable → Bool = λ t. not (has t.scope p) in
    bound_before sizes p (get_or (filter q ts) k d) (All-filter q (IsBoundTable sizes (p + 1)) ts all k d lt) (filter_passes q ts k d lt)

-- the bounds of depth p are tables over the variables before p
pub bounds_before : (sizes : List ℕ) (p : ℕ) (bs : List Bucket) → AreSent sizes p bs → All (IsBoundTable sizes p) (bounds_from p bs)
bounds_before sizes p [] sent = All-nil (IsBoundTable sizes p)
bounds_before sizes p (b ∷ bs) sent =
    All-append (IsBoundTable sizes p) (filter (λ t. not (has t.scope p)) (bounds_from (p + 1) bs)) b.sent
    (stayed_before sizes p (bounds_from (p + 1) bs) (bounds_before sizes (p + 1) bs sent.1)) sent.0

-- bounds come to the bucket of p, or stay
parted : (p : ℕ) (ts : List CostTable) (value : ℕ → ℕ) → cost_with (filter (λ t. has t.scope p) ts) value + cost_with (filter (λ t. not (has t.scope p)) ts) value ≡ cost_with ts value
parted p ts value = sum_by-filter_both (λ (t : CostTable). has t.scope p) (λ (t : CostTable). not (has t.scope p)) (λ t. refl) (λ (t : CostTable). cell_with t value) ts

-- what these buckets send sums to at most their tables
pub low_from : (sizes : List ℕ) (p : ℕ) (bs : List Bucket) (value : ℕ → ℕ) → AreMade sizes p bs → AreValues sizes value → fixed_in bs + cost_with (bounds_from p bs) value ≤ depths_cost (tables_in bs) value
low_from sizes p [] value made are = omega arith
low_from sizes p (b ∷ bs) value made are =
    let rest = low_from sizes (p + 1) bs value made.1 are in
    let stayed = filter (λ t. not (has t.scope p)) (bounds_from (p + 1) bs) in
    let came = ap (λ (ts : List CostTable). cost_with ts value) made.0.came in
    omega (
      arith,
      rest,
      made.0.low value are,
      came,
      parted p (bounds_from (p + 1) bs) value,
      sum_by-append (λ (t : CostTable). cell_with t value) stayed b.sent,
      sum_by-cons (λ (b : Bucket). b.fixed) b bs,
      sum_by-cons (λ (ts : List CostTable). cost_with ts value) b.tables (tables_in bs),
    )

-- values of the variables from p on at which the tables sum to just what is sent
pub record AreLeastValues (sizes : List ℕ) (p : ℕ) (value : ℕ → ℕ) (cost : (ℕ → ℕ) → ℕ) (sent : ℕ) : Type 0 where
  pub other : ℕ → ℕ
  pub are : AreValues sizes other
  pub agree : AgreeBelow p value other
  pub least : cost other ≡ sent

below_next : (sizes : List ℕ) (p : ℕ) (ts : List CostTable) → All (IsItem sizes p) ts → All (λ t. All (λ v. v < p + 1) t.scope) ts
below_next sizes p ts all k d lt j e within = let low = (all k d lt).1.last j e within in omega (arith, low)

pub exact_from : (sizes : List ℕ) (p : ℕ) (bs : List Bucket) (value : ℕ → ℕ) → AreMade sizes p bs → All IsUnparted bs → AreValues sizes value
    → AreLeastValues sizes p value (depths_cost (tables_in bs)) (fixed_in bs + cost_with (bounds_from p bs) value)
exact_from sizes p [] value made whole are = record { other = value; are = are; agree = λ v lt. refl; least = omega arith }
exact_from sizes p (b ∷ bs) value made whole are =
    let best = made.0.exact (All-head IsUnparted b bs whole) value are in
    let at : ℕ → ℕ = with_own p best.0 value in
    let rest = exact_from sizes (p + 1) bs at made.1 (All-tail IsUnparted b bs whole) (own_values sizes p best.0 value are best.1) in
    let later = bounds_from (p + 1) bs in
    let stayed = filter (λ t. not (has t.scope p)) later in
    let early = stayed_before sizes p later (bounds_before sizes (p + 1) bs (sent_of_made sizes (p + 1) bs made.1)) in
    let kept = cost_agrees p stayed value at (λ k d lt. (early k d lt).1) (own_agrees p best.0 value) in
    let own = cost_agrees (p + 1) b.tables at rest.other (below_next sizes p b.tables made.0.tables) rest.agree in
    let came = ap (λ (ts : List CostTable). cost_with ts at) made.0.came in
    record {
      other = rest.other;
      are = rest.are;
      agree = agrees_before p best.0 value rest.other rest.agree;
      least = omega (
        arith,
        rest.least,
        best.2,
        kept,
        own,
        came,
        parted p later at,
        sum_by-append (λ (t : CostTable). cell_with t value) stayed b.sent,
        sum_by-cons (λ (b : Bucket). b.fixed) b bs,
        sum_by-cons (λ (ts : List CostTable). cost_with ts rest.other) b.tables (tables_in bs),
      );
    }

-- the buckets from a later variable on
pub made_drop : (sizes : List ℕ) (q k p : ℕ) (bs : List Bucket) → q + k ≡ p → AreMade sizes q bs → AreMade sizes p (drop k bs)
made_drop sizes q zero p bs e made = subst (λ (n : ℕ). AreMade sizes n bs) (omega (arith, e)) made
made_drop sizes q (suc k) p [] e made = tt
made_drop sizes q (suc k) p (b ∷ bs) e made = made_drop sizes (q + 1) k p bs (omega (arith, e)) made.1
