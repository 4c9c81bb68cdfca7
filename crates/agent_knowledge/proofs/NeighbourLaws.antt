-- The lists of all neighbours.
use Rattle.std.proofs.Common.{◌≡◌, ℕ, ◌<◌, ◌≤◌, ◌==◌, ◌&&◌, ◌||◌, not, Bool, true, List, [], ◌∷◌, length, map, replicate, get_or, refl, sym, ap, subst, ◌∙◌, inl, inr, ◌⊎◌, arith}
use Rattle.std.specs.List.{All, Contains, range_with_len}
use Rattle.std.specs.List.Sorted.{IsStrictlyIncreasing}
use Rattle.std.proofs.lemmas.Bool.{cases_eq, eq-eqb, ne_eqb, or_left, or_right, false≢true, eqb-true}
use Rattle.std.proofs.lemmas.List.{ext_get_or, get_or-replicate, length-replicate}
use Rattle.std.proofs.lemmas.List.Elements.{All-head, All-tail, All-contains, filter_passes}
use Rattle.std.proofs.lemmas.List.Kept.{IsStrictlyIncreasing-filter}
use Rattle.std.proofs.lemmas.List.FromFn.{length-map-range_with_len, get_or-map-range_with_len}
use Rattle.dcop_base.specs.Table.{CostTable, has}
use Rattle.dcop_base.specs.Problem.{Dcop}
use Rattle.dcop_base.specs.Whole.{IsProblem}
use Rattle.dcop_base.specs.Graph.{share_table, are_joined, are_neighbours, neighbours}
use Rattle.dcop_base.proofs.FirstLaws.{Contains-cases, Contains-head, Contains-tail, Contains-none, Contains-filter, Contains-range, IsStrictlyIncreasing-range}
use Rattle.dcop_base.proofs.UniqueLaws.{same_from_elements}
use Rattle.agent_knowledge.specs.Rows.{AreAscending, Adds}
use Rattle.agent_knowledge.proofs.RowLaws.{adds_more}

pub from_has : (xs : List ℕ) (v : ℕ) → has xs v ≡ true → Contains xs v
from_has [] v h = absurd (false≢true h)
from_has (x ∷ xs) v h = elim (cases_eq x v) [
  | inl e ↦ subst (λ (y : ℕ). Contains (x ∷ xs) y) e (Contains-head x xs)
  | inr n ↦ Contains-tail x xs v (from_has xs v (ap (λ (b : Bool). b || has xs v) (sym (ne_eqb x v n)) ∙ h))
]

pub to_has : (xs : List ℕ) (v : ℕ) → Contains xs v → has xs v ≡ true
to_has [] v h = absurd (Contains-none v h)
to_has (x ∷ xs) v h = elim (Contains-cases x xs v h) [
  | inl e ↦ or_left (x == v) (has xs v) (eq-eqb x v e)
  | inr c ↦ or_right (x == v) (has xs v) (to_has xs v c)
]

one_of : (a b : Bool) → (a || b) ≡ true → (a ≡ true) ⊎ (b ≡ true)
one_of Bool.true b h = inl refl
one_of Bool.false b h = inr h

both_of : (a b : Bool) → (a && b) ≡ true → (a ≡ true) × (b ≡ true)
both_of Bool.true b h = (refl, h)
both_of Bool.false b h = absurd (false≢true h)

shared_below : (n : ℕ) (ts : List CostTable) (u v : ℕ) → All (λ t. All (λ w. w < n) t.scope) ts → share_table ts u v ≡ true → v < n
shared_below n [] u v within h = absurd (false≢true h)
shared_below n (t ∷ ts) u v within h = elim (one_of (has t.scope u && has t.scope v) (share_table ts u v) h) [
  | inl here ↦ All-contains (λ (w : ℕ). w < n) t.scope v (All-head (λ (x : CostTable). All (λ w. w < n) x.scope) t ts within) (from_has t.scope v (both_of (has t.scope u) (has t.scope v) here).1)
  | inr later ↦ shared_below n ts u v (All-tail (λ (x : CostTable). All (λ w. w < n) x.scope) t ts within) later
]

joined_below : (n : ℕ) (js : List (ℕ × ℕ)) (u v : ℕ) → All (λ j. (j.0 < n) × (j.1 < n)) js → are_joined js u v ≡ true → v < n
joined_below n [] u v within h = absurd (false≢true h)
joined_below n (j ∷ js) u v within h = elim (one_of ((j.0 == u && j.1 == v) || (j.0 == v && j.1 == u)) (are_joined js u v) h) [
  | inl here ↦ (let below = All-head (λ (x : ℕ × ℕ). (x.0 < n) × (x.1 < n)) j js within in
      elim (one_of (j.0 == u && j.1 == v) (j.0 == v && j.1 == u) here) [
        | inl second ↦ subst (λ (w : ℕ). w < n) (eqb-true j.1 v (both_of (j.0 == u) (j.1 == v) second).1) below.1
        | inr first ↦ subst (λ (w : ℕ). w < n) (eqb-true j.0 v (both_of (j.0 == v) (j.1 == u) first).0) below.0
      ])
  | inr later ↦ joined_below n js u v (All-tail (λ (x : ℕ × ℕ). (x.0 < n) × (x.1 < n)) j js within) later
]

-- to empty lists both the pairs of tables and those of joints were added: these are the neighbours
pub all_neighbours : (p : Dcop) (none mid rows : List (List ℕ)) → none ≡ replicate (length p.sizes) [] → length mid ≡ length none → length rows ≡ length none
    → All (λ t. All (λ w. w < length p.sizes) t.scope) p.tables → All (λ j. (j.0 < length p.sizes) × (j.1 < length p.sizes)) p.joints
    → Adds (share_table p.tables) none mid → Adds (are_joined p.joints) mid rows → rows ≡ map (neighbours p) (range_with_len 0 (length p.sizes))
all_neighbours p none mid rows empty size_mid size tables joints first second =
    ext_get_or [] rows (map (neighbours p) (range_with_len 0 n)) (many ∙ sym (length-map-range_with_len (neighbours p) 0 n))
    (λ u lt. row u (subst (λ (m : ℕ). u < m) many lt) ∙ sym (get_or-map-range_with_len (neighbours p) 0 n u u [] (subst (λ (m : ℕ). u < m) many lt) (omega arith)))
  where
    n : ℕ
    n = length p.sizes

    count : length none ≡ n
    count = ap (λ (xs : List (List ℕ)). length xs) empty ∙ length-replicate n []

    many : length rows ≡ n
    many = size ∙ count

    added : Adds (λ u v. share_table p.tables u v || are_joined p.joints u v) none rows
    added = adds_more (share_table p.tables) (are_joined p.joints) (λ u v. share_table p.tables u v || are_joined p.joints u v) none mid rows size_mid (λ u v. refl) first second

    is : (u v : ℕ) → u < n → has (get_or rows u []) v ≡ are_neighbours p u v
    is u v lt =
        added.named u v (subst (λ (m : ℕ). u < m) (sym count) lt)
        ∙ ap (λ (xs : List ℕ). has xs v || are_neighbours p u v) (ap (λ (xs : List (List ℕ)). get_or xs u []) empty ∙ get_or-replicate n u [] [] lt)

    below : (u v : ℕ) → are_neighbours p u v ≡ true → v < n
    below u v h = elim (one_of (share_table p.tables u v) (are_joined p.joints u v) (both_of (not (u == v)) (share_table p.tables u v || are_joined p.joints u v) h).1) [
      | inl shared ↦ shared_below n p.tables u v tables shared
      | inr joined ↦ joined_below n p.joints u v joints joined
    ]

    row : (u : ℕ) → u < n → get_or rows u [] ≡ neighbours p u
    row u lt =
        same_from_elements (get_or rows u []) (neighbours p u) (added.ascend u (subst (λ (m : ℕ). u < m) (sym many) lt)) (IsStrictlyIncreasing-filter (are_neighbours p u) (range_with_len 0 n) (IsStrictlyIncreasing-range 0 n))
        (λ v c. let near : are_neighbours p u v ≡ true = sym (is u v lt) ∙ to_has (get_or rows u []) v c in Contains-filter (are_neighbours p u) (range_with_len 0 n) v (Contains-range n v (below u v near)) near)
        (λ v c. from_has (get_or rows u []) v (is u v lt ∙ All-contains (λ (x : ℕ). are_neighbours p u x ≡ true) (neighbours p u) v (filter_passes (are_neighbours p u) (range_with_len 0 n)) c))

pub scopes_within : (p : Dcop) (n : ℕ) (ts : List CostTable) → IsProblem p → ts ≡ p.tables → n ≡ length p.sizes → All (λ t. All (λ v. v < n) t.scope) ts
scopes_within p n ts whole same size =
    subst (λ (xs : List CostTable). All (λ t. All (λ v. v < n) t.scope) xs) (sym same)
    (λ k d lt. subst (λ (m : ℕ). All (λ v. v < m) (get_or p.tables k d).scope) (sym size) (whole.tables k d lt).within)

pub joints_within : (p : Dcop) (n : ℕ) (js : List (ℕ × ℕ)) → IsProblem p → js ≡ p.joints → n ≡ length p.sizes → All (λ j. (j.0 < n) × (j.1 < n)) js
joints_within p n js whole same size =
    subst (λ (xs : List (ℕ × ℕ)). All (λ j. (j.0 < n) × (j.1 < n)) xs) (sym same)
    (λ k d lt.
    let zero_is : (get_or p.joints k d).0 ≡ 0 = whole.joints.from_zero k d lt in
    let below : (get_or p.joints k d).1 < length p.sizes = whole.joints.within k d lt in
    let some : 1 ≤ length p.sizes = whole.some in
    (omega (arith, zero_is, some, size), omega (arith, below, size)))

-- empty lists ascend
pub none_ascend : (rows : List (List ℕ)) (n : ℕ) → rows ≡ replicate n [] → AreAscending rows
none_ascend rows n e u lt =
    let in_all : u < n = subst (λ (m : ℕ). u < m) (ap (λ (xs : List (List ℕ)). length xs) e ∙ length-replicate n []) lt in
    subst (λ (xs : List ℕ). IsStrictlyIncreasing xs) (sym (ap (λ (xs : List (List ℕ)). get_or xs u []) e ∙ get_or-replicate n u [] [] in_all)) (λ k h. absurd (omega (arith, h)))

pub none_size : (rows : List (List ℕ)) (n : ℕ) → rows ≡ replicate n [] → length rows ≡ n
none_size rows n e = ap (λ (xs : List (List ℕ)). length xs) e ∙ length-replicate n []

-- both the tables' pairs and the joints' are in the lists
pub rows_are : (p : Dcop) (none mid rows : List (List ℕ)) (ts : List CostTable) (js : List (ℕ × ℕ)) → IsProblem p → none ≡ replicate (length p.sizes) [] → length mid ≡ length none → length rows ≡ length mid → ts ≡ p.tables → js ≡ p.joints
    → Adds (share_table ts) none mid → Adds (are_joined js) mid rows → rows ≡ map (neighbours p) (range_with_len 0 (length p.sizes))
rows_are p none mid rows ts js whole empty size_mid size tables joints first second =
    all_neighbours p none mid rows empty size_mid (size ∙ size_mid)
    (scopes_within p (length p.sizes) p.tables whole refl refl) (joints_within p (length p.sizes) p.joints whole refl refl)
    (subst (λ (xs : List CostTable). Adds (share_table xs) none mid) tables first) (subst (λ (xs : List (ℕ × ℕ)). Adds (are_joined xs) mid rows) joints second)
