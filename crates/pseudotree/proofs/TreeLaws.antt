-- Paths of a tree: an ancestor stands in a path at the place that is its own depth.
use Rattle.std.proofs.Common.{◌≡◌, ℕ, zero, suc, ◌+◌, ◌-◌, ◌<◌, ◌≤◌, true, false, eqb, List, [], ◌∷◌, ◌++◌, length, get_or, take, Some, None, refl, sym, ap, subst, ◌∙◌, inl, inr, arith}
use Rattle.std.specs.List.{slice_get}
use Rattle.std.proofs.lemmas.Bool.{eqb-true, eq-eqb, cases_Bool, cases_lt, true≢false}
use Rattle.std.proofs.lemmas.Option.{same_Some, none-some, slice_get-get_or, slice_get_past, slice_get_within, get_or_from_slice_get}
use Rattle.std.proofs.lemmas.List.{length-append, get_or_append_left, take-append-le, take_at, get_or_at, get_or_default, get_or_read, length-take-le}
use Rattle.std.proofs.lemmas.List.Folds.{list_any_at, Any-from_list_any}
use Rattle.pseudotree.specs.Tree.{path_of, parent_of, is_above, IsTree}

-- the last of a list with one more
pub last_push : (xs : List ℕ) (x : ℕ) → slice_get (xs ++ (x ∷ [])) (length (xs ++ (x ∷ [])) - 1) ≡ Some x
last_push xs x =
    let long : length (xs ++ (x ∷ [])) ≡ length xs + 1 = length-append xs (x ∷ []) in
    let at : length (xs ++ (x ∷ [])) - 1 ≡ length xs = omega arith in
    let inside : length xs < length (xs ++ (x ∷ [])) = omega arith in
    ap (λ (k : ℕ). slice_get (xs ++ (x ∷ [])) k) at
    ∙ slice_get-get_or (xs ++ (x ∷ [])) (length xs) 0 inside
    ∙ ap (λ (y : ℕ). Some y) (get_or_at xs x [] 0 (length xs) refl)

-- a list that is not empty has a last one
pub last_there : (xs : List ℕ) → 0 < length xs → slice_get xs (length xs - 1) ≡ Some (get_or xs (length xs - 1) 0)
last_there xs lt = slice_get-get_or xs (length xs - 1) 0 (omega arith)

-- a variable with a parent has a path that is longer than its parent's by one
pub longer : (paths : List (List ℕ)) → IsTree paths → (v u : ℕ) → parent_of paths v ≡ Some u → length (path_of paths v) ≡ length (path_of paths u) + 1
longer paths tree v u e = ap length (tree.nested v u e).1 ∙ length-append (path_of paths u) (u ∷ [])

-- the ancestor at a place of a path is a variable, and its path is the path up to that place; by the length of the path
pub ancestor_to : (n : ℕ) (paths : List (List ℕ)) → IsTree paths → (v k : ℕ) → length (path_of paths v) ≤ n → k < length (path_of paths v)
    → (get_or (path_of paths v) k 0 < length paths) × (path_of paths (get_or (path_of paths v) k 0) ≡ take k (path_of paths v))
ancestor_to zero paths tree v k le lt = absurd (omega arith)
ancestor_to (suc n) paths tree v k le lt =
    let u : ℕ = get_or (path_of paths v) (length (path_of paths v) - 1) 0 in
    let parent : parent_of paths v ≡ Some u = last_there (path_of paths v) (omega arith) in
    let nested = tree.nested v u parent in
    let long = longer paths tree v u parent in
    elim (cases_lt k (length (path_of paths u))) [
      | inl higher ↦
          let rest = ancestor_to n paths tree u k (omega arith) higher in
          let same : get_or (path_of paths v) k 0 ≡ get_or (path_of paths u) k 0 =
          ap (λ (xs : List ℕ). get_or xs k 0) nested.1 ∙ get_or_append_left (path_of paths u) (u ∷ []) 0 k higher in
          let front : take k (path_of paths v) ≡ take k (path_of paths u) =
          ap (λ (xs : List ℕ). take k xs) nested.1 ∙ take-append-le k (path_of paths u) (u ∷ []) (omega arith) in (
            subst (λ (x : ℕ). x < length paths) (sym same) rest.0,
            ap (λ (x : ℕ). path_of paths x) same ∙ rest.1 ∙ sym front,
          )
      | inr here ↦
          let at : k ≡ length (path_of paths u) = omega arith in
          let same : get_or (path_of paths v) k 0 ≡ u =
          ap (λ (xs : List ℕ). get_or xs k 0) nested.1 ∙ get_or_at (path_of paths u) u [] 0 k (sym at) in
          let front : take k (path_of paths v) ≡ path_of paths u =
          ap (λ (xs : List ℕ). take k xs) nested.1 ∙ take_at (path_of paths u) (u ∷ []) k (sym at) in (
            subst (λ (x : ℕ). x < length paths) (sym same) nested.0,
            ap (λ (x : ℕ). path_of paths x) same ∙ sym front,
          )
    ]

pub ancestor : (paths : List (List ℕ)) → IsTree paths → (v k : ℕ) → k < length (path_of paths v)
    → (get_or (path_of paths v) k 0 < length paths) × (path_of paths (get_or (path_of paths v) k 0) ≡ take k (path_of paths v))
ancestor paths tree v k lt = ancestor_to (length (path_of paths v)) paths tree v k (omega arith) lt

-- a proper ancestor stands at the place that is its own depth
pub above_at : (paths : List (List ℕ)) → IsTree paths → (a v : ℕ) → is_above paths a v ≡ true → slice_get (path_of paths v) (length (path_of paths a)) ≡ Some a
above_at paths tree a v h =
    let some = Any-from_list_any (λ y. eqb y a) (path_of paths v) h in
    let k : ℕ = some.0 in
    let within : k < length (path_of paths v) = some.2 in
    let is : get_or (path_of paths v) k 0 ≡ a = get_or_default (path_of paths v) k 0 some.1 within ∙ some.3 ∙ eqb-true some.1 a some.4 in
    let up : path_of paths a ≡ take k (path_of paths v) = ap (λ (x : ℕ). path_of paths x) (sym is) ∙ (ancestor paths tree v k within).1 in
    let depth : length (path_of paths a) ≡ k = ap length up ∙ length-take-le k (path_of paths v) (omega arith) in
    ap (λ (j : ℕ). slice_get (path_of paths v) j) depth ∙ slice_get-get_or (path_of paths v) k 0 within ∙ ap (λ (x : ℕ). Some x) is

-- what stands in a path is a proper ancestor
pub at_above : (paths : List (List ℕ)) (v j a : ℕ) → slice_get (path_of paths v) j ≡ Some a → is_above paths a v ≡ true
at_above paths v j a h =
    list_any_at (λ y. eqb y a) (path_of paths v) j 0 (slice_get_within (path_of paths v) j a h)
    (eq-eqb (get_or (path_of paths v) j 0) a (get_or_from_slice_get (path_of paths v) j a 0 h))

-- the variable at that place tells whether it is an ancestor
pub above_by : (paths : List (List ℕ)) → IsTree paths → (a v x : ℕ) → slice_get (path_of paths v) (length (path_of paths a)) ≡ Some x → eqb x a ≡ is_above paths a v
above_by paths tree a v x h =
    elim (cases_Bool (is_above paths a v)) [
      | inl above ↦ eq-eqb x a (same_Some x a (sym h ∙ above_at paths tree a v above)) ∙ sym above
      | inr apart ↦
          elim (cases_Bool (eqb x a)) [
            | inl same ↦
                let here : is_above paths a v ≡ true = at_above paths v (length (path_of paths a)) a (h ∙ ap (λ (y : ℕ). Some y) (eqb-true x a same)) in
                absurd (true≢false (sym here ∙ apart))
            | inr differs ↦ differs ∙ sym apart
          ]
    ]

pub above_none : (paths : List (List ℕ)) → IsTree paths → (a v : ℕ) → slice_get (path_of paths v) (length (path_of paths a)) ≡ None → is_above paths a v ≡ false
above_none paths tree a v h =
    elim (cases_Bool (is_above paths a v)) [
      | inl above ↦ absurd (none-some a (sym h ∙ above_at paths tree a v above))
      | inr apart ↦ apart
    ]

-- a list read from a list of paths is the path of its variable
pub path_read : (paths : List (List ℕ)) (i v : ℕ) (xs : List ℕ) → i ≡ v → v < length paths → xs ≡ get_or paths i xs → xs ≡ path_of paths v
path_read paths i v xs e lt is = get_or_read paths i xs (omega arith) is [] ∙ ap (λ (k : ℕ). path_of paths k) e

-- one look into the path of v, at the depth of a
pub above_read : (paths : List (List ℕ)) → IsTree paths → (a v x : ℕ) (xs ys : List ℕ) → xs ≡ path_of paths v → ys ≡ path_of paths a
    → length ys < length xs → x ≡ get_or xs (length ys) 0 → eqb x a ≡ is_above paths a v
above_read paths tree a v x xs ys e d lt is =
    above_by paths tree a v x
    (sym (ap (λ (k : ℕ). slice_get (path_of paths v) k) (ap length d)) ∙ sym (ap (λ (zs : List ℕ). slice_get zs (length ys)) e)
    ∙ slice_get-get_or xs (length ys) 0 lt ∙ ap (λ (y : ℕ). Some y) (sym is))

pub above_past : (paths : List (List ℕ)) → IsTree paths → (a v : ℕ) (xs ys : List ℕ) → xs ≡ path_of paths v → ys ≡ path_of paths a
    → length xs ≤ length ys → is_above paths a v ≡ false
above_past paths tree a v xs ys e d le =
    above_none paths tree a v
    (sym (ap (λ (k : ℕ). slice_get (path_of paths v) k) (ap length d)) ∙ sym (ap (λ (zs : List ℕ). slice_get zs (length ys)) e)
    ∙ slice_get_past xs (length ys) le)
