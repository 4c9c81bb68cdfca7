-- Laws of groups: one that is opened, and one to which a table is added.
use Rattle.std.proofs.Common.{◌≡◌, ℕ, zero, suc, ◌+◌, ◌*◌, ◌<◌, ◌≤◌, ◌||◌, Bool, true, false, eqb, List, [], ◌∷◌, ◌++◌, map, length, set, take, drop, get_or, slice_index, append_assoc, refl, sym, ap, subst, ◌∙◌, inl, inr, arith}
use Rattle.std.specs.List.{All, list_any}
use Rattle.std.specs.List.Sorted.{IsPermutation}
use Rattle.std.proofs.Math.Bool.{or-false}
use Rattle.std.proofs.lemmas.Bool.{or_cases, or_left, or_right, eqb-true, eq-eqb, true≢false}
use Rattle.std.proofs.lemmas.List.{take_more, take_all, drop_all, length-set, length-append, append-nil}
use Rattle.std.proofs.lemmas.List.Concat.{flat_map-append}
use Rattle.std.proofs.lemmas.List.Elements.{All-nil, All-cons, All-head, All-tail, All-append, All-set}
use Rattle.std.proofs.lemmas.List.Folds.{list_any-append}
use Rattle.std.proofs.lemmas.List.Sorted.{IsPermutation-refl, IsPermutation-trans, IsPermutation-append_left, IsPermutation-append_right, IsPermutation-to_front}
use Rattle.dcop_base.specs.Limits.{joined_limit}
use Rattle.dcop_base.specs.Table.{CostTable, has, has_repeat, product}
use Rattle.dcop_base.proofs.TableLaws.{parts-of}
use Rattle.shared_costs.specs.Tables.{IsTableOver}
use Rattle.bucket_bounds.specs.Union.{cells_over, times_more, IsUnion}
use Rattle.bucket_bounds.specs.Groups.{IsGroup, IsGroupOf, AddsTo, FitsLimit, AreGroups, tables_of}
use Rattle.bucket_bounds.specs.Parting.{IsScopeOf, LiesAmong}
use Rattle.bucket_bounds.specs.declared.group.Group.{Group}

-- what holds of each number that stands in a list, and what of all of them
pub all_had : (P : ℕ → Type 0) (xs : List ℕ) → ((u : ℕ) → has xs u ≡ true → P u) → All P xs
all_had P [] each = All-nil P
all_had P (x ∷ xs) each = All-cons P x xs (each x (or_left (eqb x x) (has xs x) (eq-eqb x x refl))) (all_had P xs (λ u h. each u (or_right (eqb x u) (has xs u) h)))

pub had_of : (P : ℕ → Type 0) (xs : List ℕ) (u : ℕ) → All P xs → has xs u ≡ true → P u
had_of P [] u all h = absurd (true≢false (sym h))
had_of P (x ∷ xs) u all h = elim (or_cases (eqb x u) (has xs u) h) [
  | inl here ↦ subst P (eqb-true x u here) (All-head P x xs all)
  | inr later ↦ had_of P xs u (All-tail P x xs all) later
]

-- what holds of the variables of both lists holds of their union
pub union_all : (P : ℕ → Type 0) (old scope new : List ℕ) → IsUnion old scope new → All P old → All P scope → All P new
union_all P old scope new is olds scopes = all_had P new (λ u h. elim (or_cases (has old u) (has scope u) (sym (is.both u) ∙ h)) [
  | inl early ↦ had_of P old u olds early
  | inr late ↦ had_of P scope u scopes late
])

-- the sizes of a table's variables
sizes_positive : (f : ℕ → ℕ) (vs : List ℕ) → All (λ s. 1 ≤ s) (map f vs) → All (λ v. 1 ≤ f v) vs
sizes_positive f [] all = All-nil (λ v. 1 ≤ f v)
sizes_positive f (v ∷ vs) all =
    All-cons (λ v. 1 ≤ f v) v vs (All-head (λ s. 1 ≤ s) (f v) (map f vs) all) (sizes_positive f vs (All-tail (λ s. 1 ≤ s) (f v) (map f vs) all))

pub scope_positive : (sizes : List ℕ) (t : CostTable) → IsTableOver sizes t → All (λ v. 1 ≤ slice_index sizes v) t.scope
scope_positive sizes t is =
    sizes_positive (λ v. slice_index sizes v) t.scope (subst (λ (ss : List ℕ). All (λ s. 1 ≤ s) ss) is.sized (parts-of t.scope t.sizes t.cells is.whole).positive)

times_none : (sizes vs : List ℕ) → times_more sizes [] vs ≡ cells_over sizes vs
times_none sizes [] = refl
times_none sizes (v ∷ vs) = ap (λ (n : ℕ). slice_index sizes v * n) (times_none sizes vs)

-- what holds of the variables that tables name
pub named_all : (P : ℕ → Type 0) (ts : List CostTable) → ((u : ℕ) → list_any (λ t. has t.scope u) ts ≡ true → P u) → All (λ t. All P t.scope) ts
named_all P [] each = All-nil (λ t. All P t.scope)
named_all P (t ∷ ts) each = All-cons (λ (t : CostTable). All P t.scope) t ts
    (all_had P t.scope (λ u h. each u (or_left (has t.scope u) (list_any (λ (t : CostTable). has t.scope u) ts) h)))
    (named_all P ts (λ u h. each u (or_right (has t.scope u) (list_any (λ (t : CostTable). has t.scope u) ts) h)))

pub named_of : (P : ℕ → Type 0) (ts : List CostTable) (u : ℕ) → All (λ t. All P t.scope) ts → list_any (λ t. has t.scope u) ts ≡ true → P u
named_of P [] u all h = absurd (true≢false (sym h))
named_of P (t ∷ ts) u all h = elim (or_cases (has t.scope u) (list_any (λ (t : CostTable). has t.scope u) ts) h) [
  | inl here ↦ had_of P t.scope u (All-head (λ (t : CostTable). All P t.scope) t ts all) here
  | inr later ↦ named_of P ts u (All-tail (λ (t : CostTable). All P t.scope) t ts all) later
]

-- the variables that tables name
pub scope_named : (ts : List CostTable) (vars : List ℕ) → IsScopeOf ts vars → All (LiesAmong vars) ts
scope_named ts vars is = named_all (λ v. has vars v ≡ true) ts (λ u h. is.both u ∙ h)

pub scope_sizes : (sizes : List ℕ) (ts : List CostTable) (vars : List ℕ) → All (IsTableOver sizes) ts → IsScopeOf ts vars → All (λ v. 1 ≤ slice_index sizes v) vars
scope_sizes sizes ts vars over is =
    all_had (λ v. 1 ≤ slice_index sizes v) vars (λ u h. named_of (λ v. 1 ≤ slice_index sizes v) ts u (λ k d lt. scope_positive sizes (get_or ts k d) (over k d lt)) (sym (is.both u) ∙ h))

pub scope_within : (sizes : List ℕ) (ts : List CostTable) (vars : List ℕ) → All (IsTableOver sizes) ts → IsScopeOf ts vars → All (λ v. v < length sizes) vars
scope_within sizes ts vars over is =
    all_had (λ v. v < length sizes) vars (λ u h. named_of (λ v. v < length sizes) ts u (λ k d lt. (over k d lt).within) (sym (is.both u) ∙ h))

-- the scope of one table, and of one more
pub scope_one : (t : CostTable) (vars : List ℕ) → has_repeat vars ≡ false → ((u : ℕ) → has vars u ≡ has t.scope u) → IsScopeOf (t ∷ []) vars
scope_one t vars apart same = record { apart = apart; both = λ u. same u ∙ sym (or-false (has t.scope u)) }

scope_more : (ts : List CostTable) (t : CostTable) (old new : List ℕ) → IsScopeOf ts old → IsUnion old t.scope new → IsScopeOf (ts ++ t ∷ []) new
scope_more ts t old new is union = record {
  apart = union.apart is.apart;
  both = λ u.
      let names : CostTable → Bool = λ t. has t.scope u in
      union.both u ∙ ap (λ (b : Bool). b || has t.scope u) (is.both u) ∙ ap (λ (b : Bool). list_any names ts || b) (sym (or-false (has t.scope u))) ∙ sym (list_any-append names ts (t ∷ []));
}

-- a group of one table
module _ (sizes : List ℕ) (t : CostTable) (g : Group) (is : IsTableOver sizes t) (opens : IsGroupOf t g) where
  one_group : (limit : ℕ) → IsGroup sizes limit g
  one_group limit =
      let one : length g.tables.items ≡ 1 = ap (λ (ts : List CostTable). length ts) opens.tables in
      record {
        some = omega (arith, one);
        tables = subst (λ (ts : List CostTable). All (IsTableOver sizes) ts) (sym opens.tables) (All-cons (IsTableOver sizes) t [] is (All-nil (IsTableOver sizes)));
        vars = subst (λ (ts : List CostTable). IsScopeOf ts g.vars) (sym opens.tables) (scope_one t g.vars (opens.vars.apart refl) (λ u. opens.vars.both u));
        cells =
            let full = (parts-of t.scope t.sizes t.cells is.whole).full ∙ ap product is.sized in
            let more = opens.vars.cells sizes in
            let none = times_none sizes t.scope in
            omega (arith, opens.cells, full, more, none);
        few = inl one;
      }

-- a group with one table more
module _ (sizes : List ℕ) (t : CostTable) (old new : Group) (is : IsTableOver sizes t) (adds : AddsTo sizes old t new) where
  more_group : (limit : ℕ) → IsGroup sizes limit old → FitsLimit sizes t.scope limit old → limit ≤ joined_limit → IsGroup sizes limit new
  more_group limit group fits small =
      let count : new.cells ≡ old.cells * times_more sizes old.vars t.scope = omega (arith, adds.cells, fits, small) in
      let long = ap (λ (ts : List CostTable). length ts) adds.tables ∙ length-append old.tables.items (t ∷ []) in
      record {
        some = omega (arith, long);
        tables = subst (λ (ts : List CostTable). All (IsTableOver sizes) ts) (sym adds.tables) (All-append (IsTableOver sizes) old.tables.items (t ∷ []) group.tables (All-cons (IsTableOver sizes) t [] is (All-nil (IsTableOver sizes))));
        vars = subst (λ (ts : List CostTable). IsScopeOf ts new.vars) (sym adds.tables) (scope_more old.tables.items t old.vars new.vars group.vars adds.vars);
        cells = count ∙ ap (λ (n : ℕ). n * times_more sizes old.vars t.scope) group.cells ∙ sym (adds.vars.cells sizes);
        few = inr (omega (arith, count, fits));
      }

-- a group within a limit is within a greater one
pub wider_groups : (sizes : List ℕ) (less more : ℕ) (groups : List Group) → less ≤ more → All (IsGroup sizes less) groups → All (IsGroup sizes more) groups
wider_groups sizes less more groups le all k d lt =
    let g = all k d lt in
    record {
      some = g.some;
      tables = g.tables;
      vars = g.vars;
      cells = g.cells;
      few = elim g.few [ inl one ↦ inl one | inr small ↦ inr (omega (arith, small, le)) ];
    }

-- the tables of groups, with a group of one table more, or with one table more in a group
tables_opened : (groups : List Group) (t : CostTable) (g : Group) → g.tables.items ≡ t ∷ [] → tables_of (groups ++ g ∷ []) ≡ tables_of groups ++ t ∷ []
tables_opened groups t g e = flat_map-append (λ (g : Group). g.tables.items) groups (g ∷ []) ∙ ap (λ (us : List CostTable). tables_of groups ++ us) (append-nil g.tables.items ∙ e)

tables_widened : (groups : List Group) (place : ℕ) (old new : Group) (t : CostTable) → place < length groups → old ≡ get_or groups place old → new.tables.items ≡ old.tables.items ++ t ∷ [] → IsPermutation (tables_of groups ++ t ∷ []) (tables_of (set groups place new))
tables_widened [] place old new t lt found e = absurd (omega (arith, lt))
tables_widened (g ∷ gs) zero old new t lt found e =
    let xs = g.tables.items in
    let rest = tables_of gs in
    let now : new.tables.items ++ rest ≡ xs ++ (t ∷ rest) = ap (λ (us : List CostTable). us ++ rest) (e ∙ ap (λ (h : Group). h.tables.items ++ t ∷ []) found) ∙ append_assoc xs (t ∷ []) rest in
    subst (λ (us : List CostTable). IsPermutation us (new.tables.items ++ rest)) (sym (append_assoc xs rest (t ∷ [])))
    (subst (λ (us : List CostTable). IsPermutation (xs ++ (rest ++ t ∷ [])) us) (sym now) (IsPermutation-append_right xs (rest ++ t ∷ []) (t ∷ rest) (IsPermutation-to_front rest t)))
tables_widened (g ∷ gs) (suc k) old new t lt found e =
    subst (λ (us : List CostTable). IsPermutation us (g.tables.items ++ tables_of (set gs k new))) (sym (append_assoc g.tables.items (tables_of gs) (t ∷ [])))
    (IsPermutation-append_right g.tables.items (tables_of gs ++ t ∷ []) (tables_of (set gs k new)) (tables_widened gs k old new t (omega (arith, lt)) found e))

-- groups of none, and of one table more
pub groups_none : (sizes : List ℕ) (limit : ℕ) → AreGroups sizes limit [] []
groups_none sizes limit = record { each = All-nil (IsGroup sizes limit); parted = IsPermutation-refl [] }

module _ (sizes : List ℕ) (limit : ℕ) (ts : List CostTable) (k : ℕ) (t : CostTable) (groups news : List Group) (lt : k < length ts) (is : t ≡ get_or ts k t) (over : IsTableOver sizes t) (before : AreGroups sizes limit (take k ts) groups) where
  next : take (k + 1) ts ≡ take k ts ++ t ∷ []
  next = take_more ts k t lt ∙ ap (λ (u : CostTable). take k ts ++ u ∷ []) (sym is)

  now : (after : List CostTable) → IsPermutation (tables_of groups ++ t ∷ []) after → IsPermutation (take (k + 1) ts) after
  now after order =
      subst (λ (us : List CostTable). IsPermutation us after) (sym next) (IsPermutation-trans (take k ts ++ t ∷ []) (tables_of groups ++ t ∷ []) after (IsPermutation-append_left (t ∷ []) (take k ts) (tables_of groups) before.parted) order)

  pub groups_opened : (g : Group) → IsGroupOf t g → news ≡ groups ++ g ∷ [] → AreGroups sizes limit (take (k + 1) ts) news
  groups_opened g opens e = record {
    each = subst (λ (gs : List Group). All (IsGroup sizes limit) gs) (sym e) (All-append (IsGroup sizes limit) groups (g ∷ []) before.each (All-cons (IsGroup sizes limit) g [] (one_group sizes t g over opens limit) (All-nil (IsGroup sizes limit))));
    parted = subst (λ (gs : List Group). IsPermutation (take (k + 1) ts) (tables_of gs)) (sym e)
        (subst (λ (us : List CostTable). IsPermutation (take (k + 1) ts) us) (sym (tables_opened groups t g opens.tables)) (now (tables_of groups ++ t ∷ []) (IsPermutation-refl (tables_of groups ++ t ∷ []))));
  }

  pub groups_widened : (place : ℕ) (old new : Group) → limit ≤ joined_limit → place < length groups → old ≡ get_or groups place old → FitsLimit sizes t.scope limit old → AddsTo sizes old t new → news ≡ set groups place new → AreGroups sizes limit (take (k + 1) ts) news
  groups_widened place old new small inside found fits adds e = record {
    each = subst (λ (gs : List Group). All (IsGroup sizes limit) gs) (sym e)
        (All-set (IsGroup sizes limit) groups place new (more_group sizes t old new over adds limit (subst (IsGroup sizes limit) (sym found) (before.each place old inside)) fits small) before.each);
    parted = subst (λ (gs : List Group). IsPermutation (take (k + 1) ts) (tables_of gs)) (sym e) (now (tables_of (set groups place new)) (tables_widened groups place old new t inside found adds.tables));
  }

-- what a list holds after one of its items was written in place
pub written : (xs ys : List Group) (len place : ℕ) (y : Group) → ys ≡ xs → length ys ≡ len → take len (set ys place y ++ drop (length (set ys place y)) xs) ≡ set xs place y
written xs ys len place y same long =
    let whole : set ys place y ≡ set xs place y = ap (λ (gs : List Group). set gs place y) same in
    let size : length (set ys place y) ≡ length xs = length-set ys place y ∙ ap (λ (gs : List Group). length gs) same in
    let rest : drop (length (set ys place y)) xs ≡ [] = drop_all (length (set ys place y)) xs (omega (arith, size)) in
    ap (λ (gs : List Group). take len (set ys place y ++ gs)) rest ∙ ap (λ (gs : List Group). take len gs) (append-nil (set ys place y))
    ∙ take_all len (set ys place y) (omega (arith, size, long, ap (λ (gs : List Group). length gs) same)) ∙ whole
