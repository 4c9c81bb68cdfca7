-- The joints of a graph of tables are unique.
use Rattle.std.proofs.Common.{◌≡◌, ℕ, suc, ◌+◌, ◌<◌, List, [], ◌∷◌, map, get_or, refl, sym, ◌∙◌, ap, ap₂, subst, inl, inr, All, Contains, arith}
use Rattle.std.specs.List.Sorted.{IsStrictlyIncreasing}
use Rattle.std.proofs.lemmas.Bool.{cases_order}
use Rattle.std.proofs.lemmas.List.Elements.{All-head, All-tail, All-contains, All-map}
use Rattle.std.proofs.lemmas.List.Kept.{AllPairs-from_increasing}
use Rattle.dcop_base.specs.Table.{CostTable}
use Rattle.dcop_base.specs.Graph.{share_table, AreConnected, IsFirst, AreJoints}
use Rattle.dcop_base.proofs.PathLaws.{AreConnected-tables_sym}
use Rattle.dcop_base.proofs.FirstLaws.{Contains-cases, Contains-head, Contains-tail, Contains-none, joint_to}

pub IsStrictlyIncreasing-tail : (x : ℕ) (xs : List ℕ) → IsStrictlyIncreasing (x ∷ xs) → IsStrictlyIncreasing xs
IsStrictlyIncreasing-tail x xs up k lt =
    let next : suc k + 1 ≡ suc (k + 1) = omega arith in
    subst (λ (n : ℕ). get_or (x ∷ xs) (suc k) 0 < get_or (x ∷ xs) n 0) next (up (suc k) (omega arith))

-- the first of rising numbers is below each later one
pub head_below : (x : ℕ) (xs : List ℕ) (y : ℕ) → IsStrictlyIncreasing (x ∷ xs) → Contains xs y → x < y
head_below x xs y up h =
    subst (λ (z : ℕ). x < z) h.2 (AllPairs-from_increasing (x ∷ xs) up 0 (suc h.0) y (omega arith) (omega (arith, h.1)))

-- two heads, each of which stands in the other list
pub same_heads : (x : ℕ) (xs : List ℕ) (y : ℕ) (ys : List ℕ) → IsStrictlyIncreasing (x ∷ xs) → IsStrictlyIncreasing (y ∷ ys) → Contains (y ∷ ys) x → Contains (x ∷ xs) y → x ≡ y
same_heads x xs y ys up_x up_y there back = elim (Contains-cases y ys x there) [
  | inl e ↦ sym e
  | inr x_later ↦ elim (Contains-cases x xs y back) [
    | inl e ↦ e
    | inr y_later ↦ absurd (omega (arith, head_below y ys x up_y x_later, head_below x xs y up_x y_later))
  ]
]

-- with the same head, the tails have the same elements
pub into_tail : (x : ℕ) (xs : List ℕ) (y : ℕ) (ys : List ℕ) → IsStrictlyIncreasing (x ∷ xs) → x ≡ y → ((v : ℕ) → Contains (x ∷ xs) v → Contains (y ∷ ys) v) → (v : ℕ) → Contains xs v → Contains ys v
into_tail x xs y ys up e there v h = elim (Contains-cases y ys v (there v (Contains-tail x xs v h))) [
  | inl y_is ↦ absurd (omega (arith, head_below x xs v up h, e, y_is))
  | inr c ↦ c
]

-- rising numbers with the same elements are the same list
pub same_from_elements : (xs ys : List ℕ) → IsStrictlyIncreasing xs → IsStrictlyIncreasing ys → ((v : ℕ) → Contains xs v → Contains ys v) → ((v : ℕ) → Contains ys v → Contains xs v) → xs ≡ ys
same_from_elements [] [] up_x up_y there back = refl
same_from_elements [] (y ∷ ys) up_x up_y there back = absurd (Contains-none y (back y (Contains-head y ys)))
same_from_elements (x ∷ xs) [] up_x up_y there back = absurd (Contains-none x (there x (Contains-head x xs)))
same_from_elements (x ∷ xs) (y ∷ ys) up_x up_y there back =
    let heads : x ≡ y = same_heads x xs y ys up_x up_y (there x (Contains-head x xs)) (back y (Contains-head y ys)) in
    ap₂ (λ (z : ℕ) (zs : List ℕ). z ∷ zs) heads
    (same_from_elements xs ys (IsStrictlyIncreasing-tail x xs up_x) (IsStrictlyIncreasing-tail y ys up_y)
    (into_tail x xs y ys up_x heads there) (into_tail y ys x xs up_y (sym heads) back))

-- two connected variables that are both the first of their component are one
pub IsFirst-unique : (tables : List CostTable) (f v : ℕ) → IsFirst tables f → IsFirst tables v → AreConnected (share_table tables) f v → f ≡ v
IsFirst-unique tables f v first_f first_v connected = elim (cases_order f v) [
  | inl e ↦ e
  | inr n ↦ elim n [
    | inl lt ↦ absurd (first_v f lt connected)
    | inr gt ↦ absurd (first_f v gt (AreConnected-tables_sym tables f v connected))
  ]
]

-- variable 0 is the first of its component
pub IsFirst-zero : (tables : List CostTable) → IsFirst tables 0
IsFirst-zero tables u lt connected = omega arith

-- variable 0 and what the joints lead to are first
pub IsFirst-of_joints : (count : ℕ) (tables : List CostTable) (js : List (ℕ × ℕ)) → AreJoints count tables js → (v : ℕ) → Contains (0 ∷ map (λ (j : ℕ × ℕ). j.1) js) v → IsFirst tables v
IsFirst-of_joints count tables js joints v h = elim (Contains-cases 0 (map (λ (j : ℕ × ℕ). j.1) js) v h) [
  | inl e ↦ subst (λ (x : ℕ). IsFirst tables x) e (IsFirst-zero tables)
  | inr c ↦ All-contains (λ (x : ℕ). IsFirst tables x) (map (λ (j : ℕ × ℕ). j.1) js) v
      (All-map (λ (x : ℕ). IsFirst tables x) (λ (j : ℕ × ℕ). j.1) js joints.first) c
]

-- what the joints of one list lead to, those of the other do
pub same_ends : (count : ℕ) (tables : List CostTable) (js ks : List (ℕ × ℕ)) → AreJoints count tables js → AreJoints count tables ks → (v : ℕ) → Contains (0 ∷ map (λ (j : ℕ × ℕ). j.1) js) v → Contains (0 ∷ map (λ (j : ℕ × ℕ). j.1) ks) v
same_ends count tables js ks of_js of_ks v h = elim (Contains-cases 0 (map (λ (j : ℕ × ℕ). j.1) js) v h) [
  | inl e ↦ subst (λ (x : ℕ). Contains (0 ∷ map (λ (j : ℕ × ℕ). j.1) ks) x) e (Contains-head 0 (map (λ (j : ℕ × ℕ). j.1) ks))
  | inr c ↦ (let below : v < count = All-contains (λ (x : ℕ). x < count) (map (λ (j : ℕ × ℕ). j.1) js) v (All-map (λ (x : ℕ). x < count) (λ (j : ℕ × ℕ). j.1) js of_js.within) c in
      let reached : (f : ℕ) × (Contains (0 ∷ map (λ (j : ℕ × ℕ). j.1) ks) f) × (AreConnected (share_table tables) f v) = of_ks.every v below in
      let same : reached.0 ≡ v = IsFirst-unique tables reached.0 v (IsFirst-of_joints count tables ks of_ks reached.0 reached.1) (IsFirst-of_joints count tables js of_js v h) reached.2 in
      subst (λ (x : ℕ). Contains (0 ∷ map (λ (j : ℕ × ℕ). j.1) ks) x) same reached.1)
]

-- a joint from variable 0 is told by its second variable
pub joint-from_zero : (j : ℕ × ℕ) → j.0 ≡ 0 → j ≡ joint_to j.1
joint-from_zero j e = ap (λ (x : ℕ). pair x j.1) e
  where
    pair : ℕ → ℕ → ℕ × ℕ
    pair x y = (x, y)

-- joints from variable 0 are told by their second variables
pub joints_from_ends : (js : List (ℕ × ℕ)) → All (λ (j : ℕ × ℕ). j.0 ≡ 0) js → js ≡ map joint_to (map (λ (j : ℕ × ℕ). j.1) js)
joints_from_ends [] zeros = refl
joints_from_ends (j ∷ js) zeros =
    ap₂ (λ (i : ℕ × ℕ) (is : List (ℕ × ℕ)). i ∷ is)
    (joint-from_zero j (All-head (λ (i : ℕ × ℕ). i.0 ≡ 0) j js zeros))
    (joints_from_ends js (All-tail (λ (i : ℕ × ℕ). i.0 ≡ 0) j js zeros))

-- there is one list of joints
pub AreJoints-unique : (count : ℕ) (tables : List CostTable) (js ks : List (ℕ × ℕ)) → AreJoints count tables js → AreJoints count tables ks → js ≡ ks
AreJoints-unique count tables js ks of_js of_ks =
    let ends : 0 ∷ map (λ (j : ℕ × ℕ). j.1) js ≡ 0 ∷ map (λ (j : ℕ × ℕ). j.1) ks =
    same_from_elements (0 ∷ map (λ (j : ℕ × ℕ). j.1) js) (0 ∷ map (λ (j : ℕ × ℕ). j.1) ks) of_js.ascending of_ks.ascending
    (same_ends count tables js ks of_js of_ks) (same_ends count tables ks js of_ks of_js) in
    let behind : map (λ (j : ℕ × ℕ). j.1) js ≡ map (λ (j : ℕ × ℕ). j.1) ks = cc in
    joints_from_ends js of_js.from_zero ∙ ap (λ (xs : List ℕ). map joint_to xs) behind ∙ sym (joints_from_ends ks of_ks.from_zero)
