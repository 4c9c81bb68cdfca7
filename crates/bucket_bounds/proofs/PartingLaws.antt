-- Laws of parting: a group that has no room for a scope shows that all together are too wide.
use Rattle.std.proofs.Common.{◌≡◌, ℕ, ◌+◌, ◌*◌, ◌<◌, ◌≤◌, ◌||◌, min, Bool, true, false, cond, eqb, List, [], ◌∷◌, ◌++◌, map, length, set, take, get_or, slice_index, refl, sym, ap, subst, ◌∙◌, inl, inr, mul-le-mul_left, arith}
use Rattle.std.specs.List.{All, AllZip}
use Rattle.std.specs.List.Sorted.{IsPermutation}
use Rattle.std.proofs.lemmas.Bool.{cases_Bool, cond-true, cond-false, eqb-true, ne_eqb, or_cases, or_from, or_parts, or_left, or_right, true≢false}
use Rattle.std.proofs.lemmas.List.{take_more, length-append, length-set}
use Rattle.std.proofs.lemmas.List.Elements.{All-nil, All-cons, All-head, All-tail, All-append, All-set}
use Rattle.std.proofs.lemmas.List.Sorted.{All-permutation}
use Rattle.dcop_base.specs.Limits.{count_limit}
use Rattle.dcop_base.specs.Table.{CostTable, product, has, has_repeat}
use Rattle.dcop_base.proofs.TableLaws.{none-passes, parts-of}
use Rattle.dcop_base.proofs.JointLaws.{eqb-swap}
use Rattle.cost_table.specs.Cells.{place_in}
use Rattle.cost_table.proofs.SliceLaws.{All-remove}
use Rattle.util_project.specs.Projection.{IsProjection}
use Rattle.shared_costs.specs.Tables.{IsTableOver}
use Rattle.bucket_bounds.specs.Union.{cells_over, times_more}
use Rattle.bucket_bounds.specs.Groups.{IsGroup, IsGroupOf, AddsTo}
use Rattle.bucket_bounds.specs.Parting.{AreTooWide, AreReplacedDuly, LiesAmong, IsTooWideFor, ArePartedDuly}
use Rattle.bucket_bounds.specs.Made.{IsItem}
use Rattle.bucket_bounds.specs.declared.bucket.Bucket.{Bucket}
use Rattle.bucket_bounds.specs.declared.group.Group.{Group}
use Rattle.bucket_bounds.proofs.GroupLaws.{union_all, scope_named, scope_sizes}
use Rattle.bucket_bounds.proofs.KeptLaws.{all_end}
use Rattle.bucket_bounds.proofs.ProjectLaws.{projection_bound}

-- a list without the first of its items that is this
abbrev without : List ℕ → ℕ → List ℕ
without [] x = []
without (y ∷ ys) x = cond (eqb y x) ys (y ∷ without ys x)

without_here : (ys : List ℕ) (x y : ℕ) → eqb y x ≡ true → without (y ∷ ys) x ≡ ys
without_here ys x y e = cond-true (eqb y x) ys (y ∷ without ys x) e

without_later : (ys : List ℕ) (x y : ℕ) → eqb y x ≡ false → without (y ∷ ys) x ≡ y ∷ without ys x
without_later ys x y e = cond-false (eqb y x) ys (y ∷ without ys x) e

turned : (a b c : ℕ) → a * (b * c) ≡ b * (a * c)
turned a b c = grind arith

product-without : (f : ℕ → ℕ) (ys : List ℕ) (x : ℕ) → has ys x ≡ true → product (map f ys) ≡ f x * product (map f (without ys x))
product-without f [] x h = absurd (true≢false (sym h))
product-without f (y ∷ ys) x h = elim (cases_Bool (eqb y x)) [
  | inl e ↦
      ap (λ (u : ℕ). f u * product (map f ys)) (eqb-true y x e)
      ∙ ap (λ (us : List ℕ). f x * product (map f us)) (sym (without_here ys x y e))
  | inr n ↦
      ap (λ (m : ℕ). f y * m) (product-without f ys x (later (eqb y x) (has ys x) n h)) ∙ turned (f y) (f x) (product (map f (without ys x)))
      ∙ ap (λ (us : List ℕ). f x * product (map f us)) (sym (without_later ys x y n))
]
  where
    later : (a b : Bool) → a ≡ false → (a || b) ≡ true → b ≡ true
    later a b n h = ap (λ (c : Bool). c || b) (sym n) ∙ h

all-without : (P : ℕ → Type 0) (ys : List ℕ) (x : ℕ) → All P ys → All P (without ys x)
all-without P [] x all = All-nil P
all-without P (y ∷ ys) x all = elim (cases_Bool (eqb y x)) [
  | inl e ↦ subst (λ (us : List ℕ). All P us) (sym (without_here ys x y e)) (All-tail P y ys all)
  | inr n ↦ subst (λ (us : List ℕ). All P us) (sym (without_later ys x y n)) (All-cons P y (without ys x) (All-head P y ys all) (all-without P ys x (All-tail P y ys all)))
]

has-without : (ys : List ℕ) (x u : ℕ) → has ys u ≡ true → eqb u x ≡ false → has (without ys x) u ≡ true
has-without [] x u h other = absurd (true≢false (sym h))
has-without (y ∷ ys) x u h other = elim (or_cases (eqb y u) (has ys u) h) [
  | inl here ↦
      let differs : eqb y x ≡ false = ap (λ (w : ℕ). eqb w x) (eqb-true y u here) ∙ other in
      subst (λ (us : List ℕ). has us u ≡ true) (sym (without_later ys x y differs)) (or_left (eqb y u) (has (without ys x) u) here)
  | inr late ↦ elim (cases_Bool (eqb y x)) [
    | inl e ↦ subst (λ (us : List ℕ). has us u ≡ true) (sym (without_here ys x y e)) late
    | inr n ↦ subst (λ (us : List ℕ). has us u ≡ true) (sym (without_later ys x y n)) (or_right (eqb y u) (has (without ys x) u) (has-without ys x u late other))
  ]
]

-- a product over variables that stand, each once, among others is at most the product over these
product-positive : (f : ℕ → ℕ) (ys : List ℕ) → All (λ v. 1 ≤ f v) ys → 1 ≤ product (map f ys)
product-positive f [] all = omega arith
product-positive f (y ∷ ys) all =
    let one = All-head (λ v. 1 ≤ f v) y ys all in
    let rest = product-positive f ys (All-tail (λ v. 1 ≤ f v) y ys all) in
    both (f y) (product (map f ys)) one rest
  where
    both : (a b : ℕ) → 1 ≤ a → 1 ≤ b → 1 ≤ a * b
    both a b one rest = let grown = mul-le-mul_left a rest in omega (arith, grown, one)

pub product-among : (f : ℕ → ℕ) (xs ys : List ℕ) → has_repeat xs ≡ false → All (λ v. has ys v ≡ true) xs → All (λ v. 1 ≤ f v) ys → product (map f xs) ≤ product (map f ys)
product-among f [] ys apart among positive = product-positive f ys positive
product-among f (x ∷ xs) ys apart among positive =
    let parts = or_parts (has xs x) (has_repeat xs) apart in
    let here = All-head (λ v. has ys v ≡ true) x xs among in
    let others = All-tail (λ v. has ys v ≡ true) x xs among in
    let rest = product-among f xs (without ys x) parts.1 (λ k d lt. has-without ys x (get_or xs k d) (others k d lt) (none-passes (λ v. eqb v x) xs parts.0 k d lt)) (all-without (λ v. 1 ≤ f v) ys x positive) in
    subst (λ (n : ℕ). f x * product (map f xs) ≤ n) (sym (product-without f ys x here)) (mul-le-mul_left (f x) rest)

-- variables of a scope of which this is none
times_same : (sizes old vs : List ℕ) (x : ℕ) → has vs x ≡ false → times_more sizes (x ∷ old) vs ≡ times_more sizes old vs
times_same sizes old [] x none = refl
times_same sizes old (v ∷ vs) x none =
    let parts = or_parts (eqb v x) (has vs x) none in
    let same : has (x ∷ old) v ≡ has old v = ap (λ (b : Bool). b || has old v) (eqb-swap x v ∙ parts.0) in
    ap (λ (b : Bool). cond b 1 (get_or sizes v 0) * times_more sizes (x ∷ old) vs) same ∙ ap (λ (n : ℕ). cond (has old v) 1 (get_or sizes v 0) * n) (times_same sizes old vs x parts.1)

regrouped : (a b c : ℕ) → (b * a) * c ≡ a * (b * c)
regrouped a b c = grind arith

-- a table over some of these variables, once it is over those of a scope too, has at most as many cells as one over all of these
more-among : (sizes vars old scope : List ℕ) → has_repeat old ≡ false → has_repeat scope ≡ false → All (λ v. has vars v ≡ true) old → All (λ v. has vars v ≡ true) scope → All (λ v. 1 ≤ slice_index sizes v) vars
    → cells_over sizes old * times_more sizes old scope ≤ cells_over sizes vars
more-among sizes vars old [] apart once olds scopes positive =
    let low = product-among (λ v. slice_index sizes v) old vars apart olds positive in
    omega (arith, low)
more-among sizes vars old (v ∷ vs) apart once olds scopes positive =
    let parts = or_parts (has vs v) (has_repeat vs) once in
    let here = All-head (λ v. has vars v ≡ true) v vs scopes in
    let others = All-tail (λ v. has vars v ≡ true) v vs scopes in
    let own = cells_over sizes old in
    let size : ℕ = slice_index sizes v in
    let rest = times_more sizes old vs in
    elim (cases_Bool (has old v)) [
      | inl e ↦
          let low = more-among sizes vars old vs apart parts.1 olds others positive in
          let one : own * (1 * rest) ≡ own * rest = ap (λ (n : ℕ). own * n) (omega arith) in
          subst (λ (b : Bool). own * (cond b 1 size * rest) ≤ cells_over sizes vars) (sym e) (omega (arith, low, one))
      | inr n ↦
          let low = more-among sizes vars (v ∷ old) vs (or_from (has old v) (has_repeat old) n apart) parts.1 (All-cons (λ v. has vars v ≡ true) v old here olds) others positive in
          let same : (size * own) * times_more sizes (v ∷ old) vs ≡ own * (size * rest) = ap (λ (m : ℕ). (size * own) * m) (times_same sizes old vs v parts.0) ∙ regrouped own size rest in
          subst (λ (b : Bool). own * (cond b 1 size * rest) ≤ cells_over sizes vars) (sym n) (subst (λ (m : ℕ). m ≤ cells_over sizes vars) same low)
    ]

-- one more group into which a scope does not fit
pub full_more : (sizes scope : List ℕ) (limit k cells : ℕ) (groups : List Group) (g : Group) → k < length groups → g ≡ get_or groups k g → cells ≡ min (g.cells * times_more sizes g.vars scope) count_limit → limit < cells → All (IsTooWideFor sizes scope limit) (take k groups)
    → All (IsTooWideFor sizes scope limit) (take (k + 1) groups)
full_more sizes scope limit k cells groups g lt is count high before =
    subst (λ (gs : List Group). All (IsTooWideFor sizes scope limit) gs) (sym (take_more groups k g lt ∙ ap (λ (u : Group). take k groups ++ u ∷ []) (sym is)))
    (All-append (IsTooWideFor sizes scope limit) (take k groups) (g ∷ []) before (All-cons (IsTooWideFor sizes scope limit) g [] (omega (arith, count, high)) (All-nil (IsTooWideFor sizes scope limit))))

-- no groups yet
pub duly_none : (sizes : List ℕ) (limit : ℕ) → ArePartedDuly sizes limit [] []
duly_none sizes limit = record { named = λ vars all. All-nil (λ g. All (λ v. has vars v ≡ true) g.vars); wide = λ two. absurd (omega (arith, two)) }

-- one table more
module _ (sizes : List ℕ) (limit : ℕ) (ts : List CostTable) (k : ℕ) (t : CostTable) (groups news : List Group) (lt : k < length ts) (is : t ≡ get_or ts k t) (over : IsTableOver sizes t) (before : ArePartedDuly sizes limit (take k ts) groups) where
  both_of : (P : CostTable → Type 0) → All P (take (k + 1) ts) → All P (take k ts) × P t
  both_of P all = all_end P (take k ts) t (subst (λ (us : List CostTable). All P us) (take_more ts k t lt ∙ ap (λ (u : CostTable). take k ts ++ u ∷ []) (sym is)) all)

  pub duly_opened : (g : Group) → All (IsGroup sizes limit) groups → All (IsTooWideFor sizes t.scope limit) groups → IsGroupOf t g → news ≡ groups ++ g ∷ [] → ArePartedDuly sizes limit (take (k + 1) ts) news
  duly_opened g each full opens e = record {
    named = λ vars all.
        let Names : Group → Type 0 = λ g. All (λ v. has vars v ≡ true) g.vars in
        let parts = both_of (LiesAmong vars) all in
        subst (λ (gs : List Group). All Names gs) (sym e) (All-append Names groups (g ∷ []) (before.named vars parts.0)
        (All-cons Names g [] (union_all (λ v. has vars v ≡ true) [] t.scope g.vars opens.vars (All-nil (λ v. has vars v ≡ true)) parts.1) (All-nil Names)));
    wide = λ two vars room.
        let some : 0 < length groups = let count = ap (λ (gs : List Group). length gs) e ∙ length-append groups (g ∷ []) in omega (arith, two, count) in
        let first : Group = get_or groups 0 g in
        let parts = both_of (LiesAmong vars) room.named in
        let group = each 0 g some in
        let high = subst (λ (n : ℕ). limit < n * times_more sizes first.vars t.scope) group.cells (full 0 g some) in
        let low = more-among sizes vars first.vars t.scope group.vars.apart (parts-of t.scope t.sizes t.cells over.whole).apart (before.named vars parts.0 0 g some) parts.1 room.positive in
        omega (arith, high, low);
  }

  pub duly_widened : (place : ℕ) (old new : Group) → place < length groups → old ≡ get_or groups place old → AddsTo sizes old t new → news ≡ set groups place new → ArePartedDuly sizes limit (take (k + 1) ts) news
  duly_widened place old new inside found adds e = record {
    named = λ vars all.
        let Names : Group → Type 0 = λ g. All (λ v. has vars v ≡ true) g.vars in
        let parts = both_of (LiesAmong vars) all in
        let early = before.named vars parts.0 in
        subst (λ (gs : List Group). All Names gs) (sym e)
        (All-set Names groups place new (union_all (λ v. has vars v ≡ true) old.vars t.scope new.vars adds.vars (subst Names (sym found) (early place old inside)) parts.1) early);
    wide = λ two vars room.
        let count : length news ≡ length groups = ap (λ (gs : List Group). length gs) e ∙ length-set groups place new in
        before.wide (omega (arith, two, count)) vars (record { positive = room.positive; named = (both_of (LiesAmong vars) room.named).0 });
  }

-- tables that were parted, in some order, into two groups or more
pub parted_wide : (sizes : List ℕ) (limit : ℕ) (ts items : List CostTable) (groups : List Group) → IsPermutation ts items → All (IsTableOver sizes) ts → ArePartedDuly sizes limit items groups → 2 ≤ length groups → AreTooWide sizes limit ts
parted_wide sizes limit ts items groups order over duly two vars is =
    duly.wide two vars (record { positive = scope_sizes sizes ts vars over is; named = All-permutation (LiesAmong vars) ts items order (scope_named ts vars is) })

-- a projection by p of a table among p and others has at most as many cells as a table over these
projection_few : (sizes : List ℕ) (p : ℕ) (others : List ℕ) (t less : CostTable) → IsItem sizes p t → IsProjection t p less → LiesAmong (p ∷ others) t → All (λ v. 1 ≤ slice_index sizes v) others → length less.cells ≤ cells_over sizes others
projection_few sizes p others t less item is named positive =
    let bound = projection_bound sizes p t less item is in
    let parts = parts-of less.scope less.sizes less.cells bound.0.whole in
    let all : All (λ v. has (p ∷ others) v ≡ true) less.scope = subst (λ (vs : List ℕ). All (λ v. has (p ∷ others) v ≡ true) vs) (sym is.same_scope) (All-remove (λ v. has (p ∷ others) v ≡ true) t.scope (place_in t.scope p) named) in
    let among : All (λ v. has others v ≡ true) less.scope = λ k d lt.
    ap (λ (b : Bool). b || has others (get_or less.scope k d)) (sym (ne_eqb p (get_or less.scope k d) (λ e. (let below = bound.1 k d lt in omega (arith, below, e))))) ∙ all k d lt in
    let low = product-among (λ v. slice_index sizes v) less.scope others parts.apart among positive in
    let count : length less.cells ≡ cells_over sizes less.scope = parts.full ∙ ap product bound.0.sized in
    omega (arith, low, count)

pub projections_few : (sizes : List ℕ) (p : ℕ) (others : List ℕ) (ts ls : List CostTable) → All (IsItem sizes p) ts → AllZip (λ t l. IsProjection t p l) ts ls → All (LiesAmong (p ∷ others)) ts → All (λ v. 1 ≤ slice_index sizes v) others
    → All (λ t. length t.cells ≤ cells_over sizes others) ls
projections_few sizes p others [] [] items are named positive = All-nil (λ t. length t.cells ≤ cells_over sizes others)
projections_few sizes p others [] (l ∷ ls) items are named positive = absurd are
projections_few sizes p others (t ∷ ts) [] items are named positive = absurd are
projections_few sizes p others (t ∷ ts) (l ∷ ls) items are named positive =
    All-cons (λ (t : CostTable). length t.cells ≤ cells_over sizes others) l ls
    (projection_few sizes p others t l (All-head (IsItem sizes p) t ts items) are.0 (All-head (LiesAmong (p ∷ others)) t ts named) positive)
    (projections_few sizes p others ts ls (All-tail (IsItem sizes p) t ts items) are.1 (All-tail (LiesAmong (p ∷ others)) t ts named) positive)

-- less room
pub less_room : (sizes : List ℕ) (more less p : ℕ) (bs : List Bucket) → less ≤ more → AreReplacedDuly sizes more p bs → AreReplacedDuly sizes less p bs
less_room sizes more less p [] le are = tt
less_room sizes more less p (b ∷ bs) le are = ((λ some others scope. (let full = are.0 some others scope in omega (arith, full, le))), less_room sizes more less (p + 1) bs le are.1)
