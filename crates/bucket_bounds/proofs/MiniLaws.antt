-- Laws of mini-buckets: what one sends costs at most what its tables and what came to it cost, and as much at some value of its variable where nothing was parted and nothing replaced.
use Rattle.std.proofs.Common.{◌≡◌, ℕ, true, ◌+◌, ◌-◌, ◌<◌, ◌≤◌, min, Bool, List, [], ◌∷◌, ◌++◌, map, length, drop, get_or, slice_index, refl, sym, ap, subst, ◌∙◌, arith}
use Rattle.std.specs.List.{All, AllZip, filter, flat_map, list_any}
use Rattle.std.proofs.lemmas.Bool.{or_left}
use Rattle.std.proofs.lemmas.List.{length-map}
use Rattle.std.proofs.lemmas.List.Elements.{All-nil, All-cons, All-head, All-tail, All-append, All-filter, filter_passes}
use Rattle.std.proofs.lemmas.List.Sorted.{All-permutation, sum_by-IsPermutation}
use Rattle.std.proofs.lemmas.List.Sums.{sum_by-append, sum_by-cons}
use Rattle.dcop_base.specs.Limits.{count_limit}
use Rattle.dcop_base.specs.Table.{CostTable, IsTable, has}
use Rattle.dcop_base.specs.Faults.{cell_count}
use Rattle.dcop_base.specs.Values.{cell_with, cost_with, with_own}
use Rattle.shared_costs.specs.Values.{AreValues}
use Rattle.shared_costs.specs.Tables.{IsTableOver}
use Rattle.shared_costs.specs.Sharing.{IsShare}
use Rattle.shared_costs.proofs.ShareLaws.{share-keeps}
use Rattle.bucket_bounds.specs.Bounds.{bounds_from, kept_cells}
use Rattle.bucket_bounds.specs.Exact.{IsUnparted}
use Rattle.bucket_bounds.specs.Kept.{least_cost}
use Rattle.bucket_bounds.specs.Made.{IsItem, IsBoundTable, IsBucketMade, AreMade}
use Rattle.bucket_bounds.specs.MiniBuckets.{IsMiniBucket, AreMiniBuckets}
use Rattle.bucket_bounds.specs.Parting.{IsReplacedDuly, LiesAmong}
use Rattle.bucket_bounds.specs.Parts.{IsJoinOf, AreGroupsJoined}
use Rattle.bucket_bounds.specs.Union.{cells_over}
use Rattle.bucket_bounds.specs.declared.bucket.Bucket.{Bucket}
use Rattle.bucket_bounds.proofs.CellLaws.{IsWithin, own_values}
use Rattle.bucket_bounds.proofs.ChainLaws.{sent_of_made, bounds_before}
use Rattle.bucket_bounds.proofs.GroupLaws.{all_had, named_of, scope_named, scope_sizes}
use Rattle.bucket_bounds.proofs.KeptLaws.{all_both, none_in, leasts_low, closed_cost}
use Rattle.bucket_bounds.proofs.PartingLaws.{projections_few}
use Rattle.bucket_bounds.proofs.ProjectLaws.{table_within, projections_bound, projections_low, projections_at}

-- what holds of all tables of groups holds of those of each
all_flat : (P : CostTable → Type 0) (groups : List (List CostTable)) → All P (flat_map (λ group. group) groups) → All (λ group. All P group) groups
all_flat P [] all = All-nil (λ group. All P group)
all_flat P (g ∷ gs) all =
    let both = all_both P g (flat_map (λ group. group) gs) all in
    All-cons (λ (group : List CostTable). All P group) g gs both.0 (all_flat P gs both.1)

-- what holds of the variables of a group's tables holds of those of its joined table
join_all : (sizes : List ℕ) (P : ℕ → Type 0) (group : List CostTable) (t : CostTable) → IsJoinOf sizes group t → All (λ t. All P t.scope) group → All P t.scope
join_all sizes P group t join all = all_had P t.scope (λ u h. named_of P group u all (sym (join.scope.both u) ∙ h))

join_item : (sizes : List ℕ) (p : ℕ) (group : List CostTable) (t : CostTable) → IsJoinOf sizes group t → All (IsItem sizes p) group → IsItem sizes p t
join_item sizes p [] t join items = absurd (let some = join.some in omega (arith, some))
join_item sizes p (g ∷ gs) t join items =
    let named_p : CostTable → Bool = λ t. has t.scope p in
    let first = All-head (IsItem sizes p) g gs items in (
      join.table,
      record {
        names = join.scope.both p ∙ or_left (named_p g) (list_any named_p gs) first.1.names;
        last = join_all sizes (λ v. v ≤ p) (g ∷ gs) t join (λ k d lt. (items k d lt).1.last);
      },
    )

-- joined tables of groups
module _ (sizes : List ℕ) where
  pub joined_over : (groups : List (List CostTable)) (ts : List CostTable) → AllZip (IsJoinOf sizes) groups ts → All (IsTableOver sizes) ts
  joined_over [] [] joins = All-nil (IsTableOver sizes)
  joined_over [] (t ∷ ts) joins = absurd joins
  joined_over (g ∷ gs) [] joins = absurd joins
  joined_over (g ∷ gs) (t ∷ ts) joins = All-cons (IsTableOver sizes) t ts joins.0.table (joined_over gs ts joins.1)

  pub joined_cost : (groups : List (List CostTable)) (ts : List CostTable) (value : ℕ → ℕ) → AllZip (IsJoinOf sizes) groups ts → AreValues sizes value → cost_with ts value ≡ cost_with (flat_map (λ group. group) groups) value
  joined_cost [] [] value joins are = refl
  joined_cost [] (t ∷ ts) value joins are = absurd joins
  joined_cost (g ∷ gs) [] value joins are = absurd joins
  joined_cost (g ∷ gs) (t ∷ ts) value joins are =
      let cell : CostTable → ℕ = λ t. cell_with t value in
      let one = joins.0.cells value are in
      let rest = joined_cost gs ts value joins.1 are in
      omega (arith, one, rest, sum_by-cons cell t ts, sum_by-append cell g (flat_map (λ group. group) gs))

  joined_items : (p : ℕ) (groups : List (List CostTable)) (ts : List CostTable) → AllZip (IsJoinOf sizes) groups ts → All (λ group. All (IsItem sizes p) group) groups → All (IsItem sizes p) ts
  joined_items p [] [] joins all = All-nil (IsItem sizes p)
  joined_items p [] (t ∷ ts) joins all = absurd joins
  joined_items p (g ∷ gs) [] joins all = absurd joins
  joined_items p (g ∷ gs) (t ∷ ts) joins all =
      let Each : List CostTable → Type 0 = λ group. All (IsItem sizes p) group in
      All-cons (IsItem sizes p) t ts (join_item sizes p g t joins.0 (All-head Each g gs all)) (joined_items p gs ts joins.1 (All-tail Each g gs all))

  joined_named : (vars : List ℕ) (groups : List (List CostTable)) (ts : List CostTable) → AllZip (IsJoinOf sizes) groups ts → All (λ group. All (LiesAmong vars) group) groups → All (LiesAmong vars) ts
  joined_named vars [] [] joins all = All-nil (LiesAmong vars)
  joined_named vars [] (t ∷ ts) joins all = absurd joins
  joined_named vars (g ∷ gs) [] joins all = absurd joins
  joined_named vars (g ∷ gs) (t ∷ ts) joins all =
      let Each : List CostTable → Type 0 = λ group. All (LiesAmong vars) group in
      All-cons (LiesAmong vars) t ts (join_all sizes (λ v. has vars v ≡ true) g t joins.0 (All-head Each g gs all)) (joined_named vars gs ts joins.1 (All-tail Each g gs all))

-- what holds of scopes holds of the same scopes
scopes_same : (P : List ℕ → Type 0) (old new : List CostTable) → map (λ (t : CostTable). t.scope) new ≡ map (λ (t : CostTable). t.scope) old → All (λ t. P t.scope) old → All (λ t. P t.scope) new
scopes_same P old [] same all = All-nil (λ t. P t.scope)
scopes_same P [] (t ∷ ts) same all = absurd (cc)
scopes_same P (u ∷ us) (t ∷ ts) same all =
    let first : t.scope ≡ u.scope = ap (λ (vss : List (List ℕ)). get_or vss 0 []) same in
    let rest : map (λ (t : CostTable). t.scope) ts ≡ map (λ (t : CostTable). t.scope) us = ap (λ (vss : List (List ℕ)). drop 1 vss) same in
    All-cons (λ (t : CostTable). P t.scope) t ts (subst P (sym first) (All-head (λ (t : CostTable). P t.scope) u us all)) (scopes_same P us ts rest (All-tail (λ (t : CostTable). P t.scope) u us all))

pub share_long : (sizes : List ℕ) (p : ℕ) (old new : List CostTable) → IsShare sizes p old new → length new ≡ length old
share_long sizes p old new is = sym (length-map new (λ (t : CostTable). t.scope)) ∙ ap (λ (vss : List (List ℕ)). length vss) is.scopes ∙ length-map old (λ (t : CostTable). t.scope)

-- parts of tables of the bucket of a variable
module _ (sizes : List ℕ) (limit own : ℕ) (items parts : List CostTable) (is : AreGroupsJoined sizes limit own items parts) where
  grouped : (P : CostTable → Type 0) → All P items → All (λ group. All P group) is.groups
  grouped P all = all_flat P is.groups (All-permutation P items (flat_map (λ group. group) is.groups) is.parted all)

  pub parts_items : (p : ℕ) → All (IsItem sizes p) items → All (IsItem sizes p) parts
  parts_items p all =
      let joined = joined_items sizes p is.groups is.joined is.joins (grouped (IsItem sizes p) all) in
      let names = scopes_same (λ vs. has vs p ≡ true) is.joined parts is.shared.scopes (λ k d lt. (joined k d lt).1.names) in
      let last = scopes_same (λ vs. All (λ v. v ≤ p) vs) is.joined parts is.shared.scopes (λ k d lt. (joined k d lt).1.last) in
      λ k d lt. (is.shared.tables.each k d lt, record { names = names k d lt; last = last k d lt })

  parts_named : (vars : List ℕ) → All (LiesAmong vars) items → All (LiesAmong vars) parts
  parts_named vars all =
      scopes_same (λ vs. All (λ v. has vars v ≡ true) vs) is.joined parts is.shared.scopes (joined_named sizes vars is.groups is.joined is.joins (grouped (LiesAmong vars) all))

  parts_cost : (value : ℕ → ℕ) → AreValues sizes value → cost_with parts value ≡ cost_with items value
  parts_cost value are =
      (share-keeps sizes own is.joined parts is.shared).sums value are ∙ joined_cost sizes is.groups is.joined value is.joins are
      ∙ sum_by-IsPermutation (λ (t : CostTable). cell_with t value) items (flat_map (λ group. group) is.groups) is.parted

-- a mini-bucket to which tables of its variable came
module _ (sizes : List ℕ) (limit p room : ℕ) (bucket : Bucket) (is : IsMiniBucket sizes limit p room bucket) (came : All (IsItem sizes p) bucket.came) where
  abbrev items : List CostTable
  items = bucket.tables ++ bucket.came

  items_are : All (IsItem sizes p) items
  items_are = All-append (IsItem sizes p) bucket.tables bucket.came is.tables came

  parts_are : All (IsItem sizes p) is.parts
  parts_are = parts_items sizes limit p items is.parts is.parted p items_are

  cost_is : (value : ℕ → ℕ) → AreValues sizes value → cost_with is.parts value ≡ cost_with bucket.tables value + cost_with bucket.came value
  cost_is value are = parts_cost sizes limit p items is.parts is.parted value are ∙ sum_by-append (λ (t : CostTable). cell_with t value) bucket.tables bucket.came

  abbrev projections : List CostTable
  projections = is.sent.projections

  abbrev closed : List CostTable
  closed = is.sent.kept.closed

  abbrev large : List CostTable
  large = is.sent.kept.large

  projections_are : All (IsBoundTable sizes p) projections
  projections_are = projections_bound sizes p is.parts projections parts_are is.sent.each

  -- what holds of all projections holds of those without variables, of the large ones and of those that are sent
  each_of : (P : CostTable → Type 0) → All P projections → All P closed × All P large × All P bucket.sent
  each_of P all =
      let outer = all_both P (closed ++ large) bucket.sent (All-permutation P projections (closed ++ large ++ bucket.sent) is.sent.kept.each all) in
      let inner = all_both P closed large outer.0 in
      (inner.0, inner.1, outer.1)

  projections_cost : (value : ℕ → ℕ) → cost_with projections value ≡ (cost_with closed value + cost_with large value) + cost_with bucket.sent value
  projections_cost value =
      let cell : CostTable → ℕ = λ t. cell_with t value in
      let order = sum_by-IsPermutation cell projections (closed ++ large ++ bucket.sent) is.sent.kept.each in
      let outer = sum_by-append cell (closed ++ large) bucket.sent in
      let inner = sum_by-append cell closed large in
      omega (arith, order, outer, inner)

  whole : All IsTable projections
  whole k d lt = (projections_are k d lt).0.whole

  within : (value : ℕ → ℕ) → AreValues sizes value → All (IsWithin value) projections
  within value are k d lt = table_within sizes value (get_or projections k d) are (projections_are k d lt).0

  mini_low : (value : ℕ → ℕ) → AreValues sizes value → bucket.fixed + cost_with bucket.sent value ≤ cost_with bucket.tables value + cost_with bucket.came value
  mini_low value are =
      let tables = each_of IsTable whole in
      let inside = each_of (IsWithin value) (within value are) in
      let low = projections_low sizes p is.parts projections value parts_are is.sent.each are in
      let first = leasts_low closed value tables.0 inside.0 in
      let second = leasts_low large value tables.1 inside.1 in
      let fixed : bucket.fixed ≡ min (least_cost closed + least_cost large) count_limit = is.sent.kept.sum in
      omega (arith, low, first, second, fixed, projections_cost value, cost_is value are)

  mini_exact : IsUnparted bucket → (value : ℕ → ℕ) → AreValues sizes value → (a : ℕ) × (a < slice_index sizes p) × (cost_with bucket.tables (with_own p a value) + cost_with bucket.came (with_own p a value) ≡ bucket.fixed + cost_with bucket.sent value)
  mini_exact unparted value are =
      let one = unparted.whole in
      let groups = is.groups in
      let best = projections_at sizes p is.parts projections value is.within (omega (arith, one, groups)) parts_are is.sent.each are in
      let own = own_values sizes p best.0 value are best.1 in
      let small = is.parted.shared.tables.capped (with_own p best.0 value) own in
      let none : large ≡ [] = none_in large (sym is.sent.kept.many ∙ unparted.kept) in
      let cost = ap (λ (ts : List CostTable). cost_with ts value) none in
      let least = ap (λ (ts : List CostTable). least_cost ts) none in
      let only = closed_cost closed value (each_of IsTable whole).0 is.sent.kept.plain in
      let fixed = is.sent.kept.sum in
      let sent = projections_cost value in
      let parts = cost_is (with_own p best.0 value) own in
      (best.0, best.1, omega (arith, best.2, small, cost, least, only, fixed, sent, parts))

  mini_made : (bounds : List CostTable) → bucket.came ≡ filter (λ t. has t.scope p) bounds → IsBucketMade sizes p bounds bucket
  mini_made bounds e = record { tables = is.tables; came = e; sent = (each_of (IsBoundTable sizes p) projections_are).2; low = mini_low; exact = mini_exact }

  -- a bound that was replaced was one for which there was not room
  pub mini_replaced : (left : ℕ) → cell_count bucket.sent + left ≡ room → IsReplacedDuly sizes left p bucket
  mini_replaced left e some others scope =
      let positive = All-tail (λ v. 1 ≤ slice_index sizes v) p others (scope_sizes sizes items (p ∷ others) (λ k d lt. (items_are k d lt).0) scope) in
      let named = parts_named sizes limit p items is.parts is.parted (p ∷ others) (scope_named items (p ∷ others) scope) in
      let few = (each_of (λ t. length t.cells ≤ cells_over sizes others) (projections_few sizes p others is.parts projections parts_are is.sent.each named positive)).1 in
      let many : bucket.replaced ≡ length large = is.sent.kept.many in
      let none : CostTable = record { scope = []; sizes = []; cells = [] } in
      let first : 0 < length large = omega (arith, some, many) in
      let full = is.sent.kept.full 0 none first in
      let low = few 0 none first in
      omega (arith, full, low, e)

-- the bounds that come to the bucket of p
pub come_items : (sizes : List ℕ) (p : ℕ) (bounds : List CostTable) → All (IsBoundTable sizes (p + 1)) bounds → All (IsItem sizes p) (filter (λ t. has t.scope p) bounds)
come_items sizes p bounds all k d lt =
    let q : CostTable → Bool = λ t. has t.scope p in
    let bound = All-filter q (IsBoundTable sizes (p + 1)) bounds all k d lt in
    (bound.0, record { names = filter_passes q bounds k d lt; last = λ j e within. (let low = bound.1 j e within in omega (arith, low)) })

-- mini-buckets are made of their tables and of what came to them
pub minis_made : (sizes : List ℕ) (limit cells p : ℕ) (bs : List Bucket) → AreMiniBuckets sizes limit cells p bs → AreMade sizes p bs
minis_made sizes limit cells p [] minis = tt
minis_made sizes limit cells p (b ∷ bs) minis =
    let rest = minis_made sizes limit cells (p + 1) bs minis.2 in
    let bounds = bounds_from (p + 1) bs in
    let came = subst (λ (ts : List CostTable). All (IsItem sizes p) ts) (sym minis.0) (come_items sizes p bounds (bounds_before sizes (p + 1) bs (sent_of_made sizes (p + 1) bs rest))) in
    (mini_made sizes limit p (cells - (kept_cells bs + (p + 1))) b minis.1 came bounds minis.0, rest)
