-- The first variables of the components, read off the labels, and the joints to them.
use Rattle.std.proofs.Common.{◌≡◌, ℕ, suc, zero, ◌+◌, ◌<◌, Bool, true, false, cond, ◌⊎◌, List, [], ◌∷◌, ◌++◌, map, map-id, append-nil, length, get_or, refl, sym, ◌∙◌, ap, subst, inl, inr, slice_index, filter, All, Contains, arith}
use Rattle.std.specs.List.{range_with_len}
use Rattle.std.specs.List.Sorted.{IsStrictlyIncreasing}
use Rattle.std.proofs.lemmas.Bool.{eqb-true, eq-eqb, cond-true, cond-false, cases_Bool}
use Rattle.std.proofs.lemmas.List.{map-append}
use Rattle.std.proofs.lemmas.List.Elements.{All-map, All-weaker, All-filter, filter_passes}
use Rattle.std.proofs.lemmas.List.Kept.{IsStrictlyIncreasing-filter}
use Rattle.std.proofs.lemmas.List.FromFn.{length-range_with_len, get_or-range_with_len, filter_of_map_range_with_len_more}
use Rattle.dcop_base.specs.Table.{CostTable}
use Rattle.dcop_base.specs.Graph.{share_table, AreJoints, IsFirst}
use Rattle.dcop_base.specs.Labels.{AreLabels, is_own, own_joints}
use Rattle.dcop_base.proofs.PathLaws.{same_when_connected}

-- a joint from variable 0
abbrev pub joint_to : ℕ → ℕ × ℕ
joint_to v = (0, v)

pub filter_range_more : (p : ℕ → Bool) (a n v : ℕ) → a + n ≡ v → filter p (range_with_len a (n + 1)) ≡ filter p (range_with_len a n) ++ cond (p v) (v ∷ []) []
filter_range_more p a n v e =
    ap (λ (xs : List ℕ). filter p xs) (sym (map-id (range_with_len a (n + 1)))) ∙ filter_of_map_range_with_len_more p (λ (x : ℕ). x) a n v e
    ∙ ap (λ (xs : List ℕ). filter p xs ++ cond (p v) (v ∷ []) []) (map-id (range_with_len a n))

pub own_joints-more : (labels : List ℕ) (n v : ℕ) → 1 + n ≡ v → is_own labels v ≡ true → own_joints labels (n + 1) ≡ own_joints labels n ++ joint_to v ∷ []
own_joints-more labels n v e own =
    ap (λ (xs : List ℕ). map joint_to xs) (filter_range_more (is_own labels) 1 n v e ∙ ap (λ (ys : List ℕ). filter (is_own labels) (range_with_len 1 n) ++ ys) (cond-true (is_own labels v) (v ∷ []) [] own))
    ∙ map-append joint_to (filter (is_own labels) (range_with_len 1 n)) (v ∷ [])

pub own_joints-kept : (labels : List ℕ) (n v : ℕ) → 1 + n ≡ v → is_own labels v ≡ false → own_joints labels (n + 1) ≡ own_joints labels n
own_joints-kept labels n v e own =
    ap (λ (xs : List ℕ). map joint_to xs) (filter_range_more (is_own labels) 1 n v e ∙ ap (λ (ys : List ℕ). filter (is_own labels) (range_with_len 1 n) ++ ys) (cond-false (is_own labels v) (v ∷ []) [] own)
    ∙ append-nil (filter (is_own labels) (range_with_len 1 n)))

-- an element of a list is its head or in its tail
pub Contains-cases_at : (y : ℕ) (ys : List ℕ) (x k : ℕ) → k < suc (length ys) → get_or (y ∷ ys) k x ≡ x → (y ≡ x) ⊎ Contains ys x
Contains-cases_at y ys x zero lt e = inl e
Contains-cases_at y ys x (suc k) lt e = inr (k, omega arith, e)

pub Contains-cases : (y : ℕ) (ys : List ℕ) (x : ℕ) → Contains (y ∷ ys) x → (y ≡ x) ⊎ Contains ys x
Contains-cases y ys x h = Contains-cases_at y ys x h.0 h.1 h.2

pub Contains-head : (y : ℕ) (ys : List ℕ) → Contains (y ∷ ys) y
Contains-head y ys = (0, omega arith, refl)

pub Contains-tail : (y : ℕ) (ys : List ℕ) (x : ℕ) → Contains ys x → Contains (y ∷ ys) x
Contains-tail y ys x h = (suc h.0, omega (arith, h.1), h.2)

pub Contains-none : (x : ℕ) → Contains [] x → ⊥
Contains-none x h = omega (arith, h.1)

-- a filter keeps an element that passes
pub Contains-filter : (p : ℕ → Bool) (xs : List ℕ) (x : ℕ) → Contains xs x → p x ≡ true → Contains (filter p xs) x
Contains-filter p [] x h passes = absurd (Contains-none x h)
Contains-filter p (y ∷ ys) x h passes = elim (Contains-cases y ys x h) [
  | inl e ↦ (let kept : filter p (y ∷ ys) ≡ y ∷ filter p ys = cond-true (p y) (y ∷ filter p ys) (filter p ys) (ap p e ∙ passes) in
      subst (λ (zs : List ℕ). Contains zs x) (sym kept) (subst (λ (z : ℕ). Contains (y ∷ filter p ys) z) e (Contains-head y (filter p ys))))
  | inr c ↦ elim (cases_Bool (p y)) [
    | inl t ↦ subst (λ (zs : List ℕ). Contains zs x) (sym (cond-true (p y) (y ∷ filter p ys) (filter p ys) t)) (Contains-tail y (filter p ys) x (Contains-filter p ys x c passes))
    | inr f ↦ subst (λ (zs : List ℕ). Contains zs x) (sym (cond-false (p y) (y ∷ filter p ys) (filter p ys) f)) (Contains-filter p ys x c passes)
  ]
]

pub Contains-range : (n x : ℕ) → x < n → Contains (range_with_len 0 n) x
Contains-range n x lt = (x, subst (λ (m : ℕ). x < m) (sym (length-range_with_len 0 n)) lt, get_or-range_with_len 0 n x x lt ∙ omega arith)

pub IsStrictlyIncreasing-range : (a n : ℕ) → IsStrictlyIncreasing (range_with_len a n)
IsStrictlyIncreasing-range a n k lt =
    let in_range : k + 1 < n = subst (λ (m : ℕ). k + 1 < m) (length-range_with_len a n) lt in
    let low : get_or (range_with_len a n) k 0 ≡ a + k = get_or-range_with_len a n k 0 (omega arith) in
    let high : get_or (range_with_len a n) (k + 1) 0 ≡ a + (k + 1) = get_or-range_with_len a n (k + 1) 0 in_range in
    omega (arith, low, high)

pub All-range : (a n : ℕ) → All (λ (x : ℕ). x < a + n) (range_with_len a n)
All-range a n k d lt =
    let in_range : k < n = subst (λ (m : ℕ). k < m) (length-range_with_len a n) lt in
    let at : get_or (range_with_len a n) k d ≡ a + k = get_or-range_with_len a n k d in_range in
    omega (arith, at)

-- the second variables of joints from variable 0
pub seconds : (xs : List ℕ) → map (λ (j : ℕ × ℕ). j.1) (map joint_to xs) ≡ xs
seconds [] = refl
seconds (x ∷ xs) = ap (λ (ys : List ℕ). x ∷ ys) (seconds xs)

-- a variable that is its own label is the first of its component
pub IsFirst-from_own : (tables : List CostTable) (labels : List ℕ) → AreLabels tables labels → (v : ℕ) → is_own labels v ≡ true → IsFirst tables v
IsFirst-from_own tables labels labelled v own u lt connected =
    let same : slice_index labels u ≡ slice_index labels v = same_when_connected (share_table tables) (λ (x : ℕ). slice_index labels x) labelled.same u v connected in
    let here : slice_index labels v ≡ v = eqb-true (slice_index labels v) v own in
    omega (arith, labelled.low u, same, here)

-- a label is its own label
pub is_own-label : (tables : List CostTable) (labels : List ℕ) → AreLabels tables labels → (v : ℕ) → v < length labels → is_own labels (slice_index labels v) ≡ true
is_own-label tables labels labelled v lt =
    eq-eqb (slice_index labels (slice_index labels v)) (slice_index labels v)
    (same_when_connected (share_table tables) (λ (x : ℕ). slice_index labels x) labelled.same (slice_index labels v) v (labelled.reached v lt))

-- variable 0 and those that are their own labels behind it
pub own_from_zero : (labels : List ℕ) (m : ℕ) → slice_index labels 0 ≡ 0 → 0 ∷ filter (is_own labels) (range_with_len 1 m) ≡ filter (is_own labels) (range_with_len 0 (suc m))
own_from_zero labels m e =
    sym (cond-true (is_own labels 0) (0 ∷ filter (is_own labels) (range_with_len 1 m)) (filter (is_own labels) (range_with_len 1 m)) (eq-eqb (slice_index labels 0) 0 e))

pub AreJoints-own : (tables : List CostTable) (labels : List ℕ) (m : ℕ) → length labels ≡ suc m → AreLabels tables labels → AreJoints (suc m) tables (own_joints labels m)
AreJoints-own tables labels m many labelled =
    let own : List ℕ = filter (is_own labels) (range_with_len 1 m) in
    let zero_own : slice_index labels 0 ≡ 0 = omega (arith, labelled.low 0) in
    let all_own : 0 ∷ map (λ (j : ℕ × ℕ). j.1) (own_joints labels m) ≡ filter (is_own labels) (range_with_len 0 (suc m)) =
    ap (λ (xs : List ℕ). 0 ∷ xs) (seconds own) ∙ own_from_zero labels m zero_own in
    record {
      from_zero = All-map (λ (j : ℕ × ℕ). j.0 ≡ 0) joint_to own (λ k d lt. refl);
      ascending = subst (λ (xs : List ℕ). IsStrictlyIncreasing xs) (sym all_own)
          (IsStrictlyIncreasing-filter (is_own labels) (range_with_len 0 (suc m)) (IsStrictlyIncreasing-range 0 (suc m)));
      within = All-map (λ (j : ℕ × ℕ). j.1 < suc m) joint_to own
          (All-filter (is_own labels) (λ (x : ℕ). x < suc m) (range_with_len 1 m) (λ k d lt. omega (arith, All-range 1 m k d lt)));
      first = All-map (λ (j : ℕ × ℕ). IsFirst tables j.1) joint_to own
          (All-weaker (λ (x : ℕ). is_own labels x ≡ true) (λ (x : ℕ). IsFirst tables x) (IsFirst-from_own tables labels labelled) own (filter_passes (is_own labels) (range_with_len 1 m)));
      every = λ v lt.
          let v_in : v < length labels = subst (λ (n : ℕ). v < n) (sym many) lt in
          let label_in : slice_index labels v < suc m = omega (arith, labelled.low v) in (
            slice_index labels v,
            subst (λ (xs : List ℕ). Contains xs (slice_index labels v)) (sym all_own)
                (Contains-filter (is_own labels) (range_with_len 0 (suc m)) (slice_index labels v) (Contains-range (suc m) (slice_index labels v) label_in) (is_own-label tables labels labelled v v_in)),
            labelled.reached v v_in,
          );
    }
