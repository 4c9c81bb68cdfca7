-- Children and preorder: a range that is filtered step by step, and subtrees.
use Rattle.std.proofs.Common.{◌≡◌, ℕ, zero, suc, ◌+◌, ◌-◌, ◌<◌, Bool, true, false, cond, eqb, List, [], ◌∷◌, ◌++◌, length, get_or, refl, sym, ap, subst, ◌∙◌, inl, inr, arith}
use Rattle.std.specs.List.{filter, flat_map, range_with_len, All}
use Rattle.std.proofs.lemmas.Bool.{cases_lt}
use Rattle.std.proofs.lemmas.List.{append-nil, append_assoc, get_or_past}
use Rattle.std.proofs.lemmas.List.FromFn.{length-range_with_len, get_or-range_with_len}
use Rattle.std.proofs.lemmas.List.Elements.{All-filter, All-head, All-tail, filter-append}
use Rattle.pseudotree.specs.Tree.{path_of, children_of, is_variable, parent_of}
use Rattle.pseudotree.specs.Preorder.{subtree, roots_of, preorder_of}
use Rattle.pseudotree.specs.Parts.{AreChildren, AreClosed}

pub range_more : (a n : ℕ) → range_with_len a (suc n) ≡ range_with_len a n ++ ((a + n) ∷ [])
range_more a zero = ap (λ (x : ℕ). x ∷ []) (omega arith)
range_more a (suc n) =
    let at : (a + 1) + n ≡ a + suc n = omega arith in
    ap (λ (xs : List ℕ). a ∷ xs) (range_more (a + 1) n ∙ ap (λ (x : ℕ). range_with_len (a + 1) n ++ (x ∷ [])) at)

pub filter_next : (p : ℕ → Bool) (i : ℕ) → filter p (range_with_len 0 (i + 1)) ≡ filter p (range_with_len 0 i) ++ cond (p i) (i ∷ []) []
filter_next p i =
    let more : i + 1 ≡ suc i = omega arith in
    let last : 0 + i ≡ i = omega arith in
    ap (λ (n : ℕ). filter p (range_with_len 0 n)) more ∙ ap (filter p) (range_more 0 i ∙ ap (λ (x : ℕ). range_with_len 0 i ++ (x ∷ [])) last)
    ∙ filter-append p (range_with_len 0 i) (i ∷ [])

-- one more number that passes, and one that does not
pub filter_keeps : (p : ℕ → Bool) (i : ℕ) (old new : List ℕ) → old ≡ filter p (range_with_len 0 i) → p i ≡ true → new ≡ old ++ (i ∷ []) → new ≡ filter p (range_with_len 0 (i + 1))
filter_keeps p i old new e passes n =
    n ∙ ap (λ (xs : List ℕ). xs ++ (i ∷ [])) e
    ∙ sym (filter_next p i ∙ ap (λ (b : Bool). filter p (range_with_len 0 i) ++ cond b (i ∷ []) []) passes)

pub filter_skips : (p : ℕ → Bool) (i : ℕ) (old new : List ℕ) → old ≡ filter p (range_with_len 0 i) → p i ≡ false → new ≡ old → new ≡ filter p (range_with_len 0 (i + 1))
filter_skips p i old new e fails n =
    n ∙ e ∙ sym (filter_next p i ∙ ap (λ (b : Bool). filter p (range_with_len 0 i) ++ cond b (i ∷ []) []) fails ∙ append-nil (filter p (range_with_len 0 i)))

pub flat_map-append : (f : ℕ → List ℕ) (xs ys : List ℕ) → flat_map f (xs ++ ys) ≡ flat_map f xs ++ flat_map f ys
flat_map-append f [] ys = refl
flat_map-append f (x ∷ xs) ys = ap (λ (zs : List ℕ). f x ++ zs) (flat_map-append f xs ys) ∙ sym (append_assoc (f x) (flat_map f xs) (flat_map f ys))

pub flat_map-push : (f : ℕ → List ℕ) (xs : List ℕ) (x : ℕ) → flat_map f (xs ++ (x ∷ [])) ≡ flat_map f xs ++ f x
flat_map-push f xs x = flat_map-append f xs (x ∷ []) ∙ ap (λ (ys : List ℕ). flat_map f xs ++ ys) (append-nil (f x))

-- the same step, for the lists of what passes
pub flat_map_keeps : (f : ℕ → List ℕ) (p : ℕ → Bool) (i : ℕ) (old new : List ℕ) → old ≡ flat_map f (filter p (range_with_len 0 i)) → p i ≡ true → new ≡ old ++ f i
    → new ≡ flat_map f (filter p (range_with_len 0 (i + 1)))
flat_map_keeps f p i old new e passes n =
    n ∙ ap (λ (xs : List ℕ). xs ++ f i) e
    ∙ sym (ap (flat_map f) (filter_next p i ∙ ap (λ (b : Bool). filter p (range_with_len 0 i) ++ cond b (i ∷ []) []) passes) ∙ flat_map-push f (filter p (range_with_len 0 i)) i)

pub flat_map_skips : (f : ℕ → List ℕ) (p : ℕ → Bool) (i : ℕ) (old new : List ℕ) → old ≡ flat_map f (filter p (range_with_len 0 i)) → p i ≡ false → new ≡ old
    → new ≡ flat_map f (filter p (range_with_len 0 (i + 1)))
flat_map_skips f p i old new e fails n =
    n ∙ e ∙ ap (flat_map f) (filter_skips p i (filter p (range_with_len 0 i)) (filter p (range_with_len 0 i)) refl fails refl)

pub subtree_is : (children : ℕ → List ℕ) (levels v : ℕ) → 0 < levels → subtree children levels v ≡ v ∷ flat_map (subtree children (levels - 1)) (children v)
subtree_is children zero v lt = absurd (omega arith)
subtree_is children (suc n) v lt = let one : n ≡ suc n - 1 = omega arith in ap (λ (k : ℕ). v ∷ flat_map (subtree children k) (children v)) one

flat_map_same : (f g : ℕ → List ℕ) (n : ℕ) (xs : List ℕ) → ((v : ℕ) → v < n → f v ≡ g v) → All (λ u. u < n) xs → flat_map f xs ≡ flat_map g xs
flat_map_same f g n [] same all = refl
flat_map_same f g n (x ∷ xs) same all =
    let here : f x ≡ g x = same x (All-head (λ u. u < n) x xs all) in
    let rest : flat_map f xs ≡ flat_map g xs = flat_map_same f g n xs same (All-tail (λ u. u < n) x xs all) in cc

-- two ways to tell the children that agree have the same subtrees
pub subtree_same : (f g : ℕ → List ℕ) (n levels v : ℕ) → ((u : ℕ) → u < n → f u ≡ g u) → ((u : ℕ) → u < n → All (λ w. w < n) (g u)) → v < n → subtree f levels v ≡ subtree g levels v
subtree_same f g n zero v same below lt = refl
subtree_same f g n (suc k) v same below lt =
    ap (λ (xs : List ℕ). v ∷ xs)
    (ap (flat_map (subtree f k)) (same v lt)
    ∙ flat_map_same (subtree f k) (subtree g k) n (g v) (λ u l. subtree_same f g n k u same below l) (below v lt))

pub range_below : (n : ℕ) → All (λ w. w < n) (range_with_len 0 n)
range_below n k d lt =
    let long : length (range_with_len 0 n) ≡ n = length-range_with_len 0 n in
    let is : get_or (range_with_len 0 n) k d ≡ 0 + k = get_or-range_with_len 0 n k d (omega arith) in omega arith

pub filter_below : (p : ℕ → Bool) (n : ℕ) → All (λ w. w < n) (filter p (range_with_len 0 n))
filter_below p n = All-filter p (λ w. w < n) (range_with_len 0 n) (range_below n)

pub children_closed : (paths children : List (List ℕ)) → AreChildren paths children → AreClosed children
children_closed paths children are v k lt =
    elim (cases_lt v (length paths)) [
      | inl within ↦
          let same : path_of children v ≡ children_of paths v = are.are v [] within in
          let lt2 : k < length (children_of paths v) = subst (λ (xs : List ℕ). k < length xs) same lt in
          let below : get_or (children_of paths v) k 0 < length paths = filter_below (λ c. is_variable v (parent_of paths c)) (length paths) k 0 lt2 in
          let counted = are.counted in
          let at : get_or (path_of children v) k 0 ≡ get_or (children_of paths v) k 0 = ap (λ (xs : List ℕ). get_or xs k 0) same in omega arith
      | inr past ↦
          let counted = are.counted in
          let none : path_of children v ≡ [] = get_or_past children v [] (omega arith) in
          let lt2 : k < length {A = ℕ} [] = subst (λ (xs : List ℕ). k < length xs) none lt in
          absurd (omega arith)
    ]

pub preorder_from : (paths children : List (List ℕ)) → AreChildren paths children
    → flat_map (subtree (path_of children) (length paths)) (roots_of paths) ≡ preorder_of paths
preorder_from paths children are =
    flat_map_same (subtree (path_of children) (length paths)) (subtree (children_of paths) (length paths)) (length paths) (roots_of paths)
    (λ v lt. subtree_same (path_of children) (children_of paths) (length paths) (length paths) v (λ u l. are.are u [] l)
    (λ u l. filter_below (λ c. is_variable u (parent_of paths c)) (length paths)) lt)
    (filter_below (λ v. eqb (length (path_of paths v)) 0) (length paths))
