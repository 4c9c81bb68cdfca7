-- Names in another order stay distinct, so each is new when it is put after others.
use Rattle.std.proofs.Common.{◌≡◌, ◌≢◌, ℕ, ◌+◌, ◌<◌, Bool, false, cond, List, [], ◌∷◌, ◌++◌, Some, length, get_or, take, map, sym, ap, ◌∙◌, inl, inr, arith}
use Rattle.std.specs.List.{IsDistinct, list_any, slice_get}
use Rattle.std.specs.Str.{bytes_eq}
use Rattle.std.proofs.lemmas.Bool.{cases_Bool, cases_lt}
use Rattle.std.proofs.lemmas.Slice.Eq.{bytes_eq-Decides}
use Rattle.std.proofs.lemmas.List.{get_or-map, get_or-take, map_more, length-take-le, get_or_default, take_more}
use Rattle.std.proofs.lemmas.List.Folds.{list_any_none}
use Rattle.std.proofs.lemmas.Map.Made.{AllPairs-from_IsDistinct}
use Rattle.std.proofs.lemmas.Option.{get_or_from_slice_get}
use Rattle.problem_text.specs.Names.{with_name}
use Rattle.problem_text.proofs.NamesLaws.{length-map}
use Rattle.problem_order.specs.Order.{IsOrder}

differ_from : (a b : List ℕ) → a ≢ b → bytes_eq a b ≡ false
differ_from a b ne =
    elim (cases_Bool (bytes_eq a b)) [
      | inl same ↦ absurd (ne ((bytes_eq-Decides a b).0 same))
      | inr differs ↦ differs
    ]

-- names at different places differ
distinct_at : (names : List (List ℕ)) → IsDistinct bytes_eq names → (i j : ℕ) (d : List ℕ) → i < length names → j < length names → i ≢ j
    → bytes_eq (get_or names i d) (get_or names j d) ≡ false
distinct_at names distinct i j d li lj ne =
    elim (cases_lt i j) [
      | inl less ↦ differ_from (get_or names i d) (get_or names j d) (AllPairs-from_IsDistinct bytes_eq-Decides names distinct i j d less lj)
      | inr le ↦
          elim (cases_lt j i) [
            | inl less ↦
                differ_from (get_or names i d) (get_or names j d)
                (λ e. AllPairs-from_IsDistinct bytes_eq-Decides names distinct j i d less li (sym e))
            | inr ge ↦ let same : i ≡ j = omega (arith, le, ge) in absurd (ne same)
          ]
    ]

-- a new name goes to the end
with_new : (names : List (List ℕ)) (name : List ℕ) → list_any (bytes_eq name) names ≡ false → with_name names name ≡ names ++ (name ∷ [])
with_new names name new = ap (λ (b : Bool). cond b names (names ++ (name ∷ []))) new

-- the names of an order, with the next one
pub next_name : (names new : List (List ℕ)) (order : List ℕ) (k v : ℕ) (next : List (List ℕ)) (word : List ℕ) → IsDistinct bytes_eq names → IsOrder (length names) order
    → k < length order → v ≡ get_or order k v → slice_get names v ≡ Some word → new ≡ map (λ (u : ℕ). get_or names u []) (take k order) → next ≡ with_name new word
    → next ≡ map (λ (u : ℕ). get_or names u []) (take (k + 1) order)
next_name names new order k v next word distinct is lt at found so e =
    let f : ℕ → List ℕ = λ u. get_or names u [] in
    let many = is.many in
    let here : v ≡ get_or order k 0 = at ∙ get_or_default order k v 0 lt in
    let word_is : f (get_or order k 0) ≡ word = ap f (sym here) ∙ get_or_from_slice_get names v word [] found in
    let fresh : list_any (bytes_eq word) (map f (take k order)) ≡ false =
    list_any_none (bytes_eq word) (map f (take k order))
    (λ i d li.
    let long = length-map f (take k order) in
    let short : length (take k order) ≡ k = length-take-le k order (omega (arith, lt)) in
    let lk : i < k = omega (arith, li, long, short) in
    let lo : i < length order = omega (arith, lk, lt) in
    let item : get_or (map f (take k order)) i d ≡ f (get_or order i 0) =
    get_or-map f (take k order) i 0 d (omega (arith, lk, short)) ∙ ap f (get_or-take k order i 0 lk) in
    ap (bytes_eq word) item ∙ ap (λ (w : List ℕ). bytes_eq w (f (get_or order i 0))) (sym word_is)
    ∙ distinct_at names distinct (get_or order k 0) (get_or order i 0) [] (is.within k 0 lt) (is.within i 0 lo)
    (λ same. let e : k ≡ i = is.once k i (omega (arith, many, lt)) (omega (arith, many, lo)) same in absurd (omega (arith, e, lk)))) in
    e ∙ ap (λ (ns : List (List ℕ)). with_name ns word) so ∙ with_new (map f (take k order)) word fresh
    ∙ ap (λ (w : List ℕ). map f (take k order) ++ (w ∷ [])) (sym word_is)
    ∙ sym (map_more f order k 0 lt)

-- the first names, with the next one
pub next_label : (names copy next : List (List ℕ)) (k : ℕ) (word : List ℕ) → IsDistinct bytes_eq names → k < length names → slice_get names k ≡ Some word
    → copy ≡ take k names → next ≡ with_name copy word → next ≡ take (k + 1) names
next_label names copy next k word distinct lt found so e =
    let word_is : get_or names k [] ≡ word = get_or_from_slice_get names k word [] found in
    let fresh : list_any (bytes_eq word) (take k names) ≡ false =
    list_any_none (bytes_eq word) (take k names)
    (λ i d li.
    let short : length (take k names) ≡ k = length-take-le k names (omega (arith, lt)) in
    let lk : i < k = omega (arith, li, short) in
    ap (bytes_eq word) (get_or-take k names i d lk ∙ get_or_default names i d [] (omega (arith, lk, lt)))
    ∙ ap (λ (w : List ℕ). bytes_eq w (get_or names i [])) (sym word_is)
    ∙ distinct_at names distinct k i [] lt (omega (arith, lk, lt)) (λ same. absurd (omega (arith, same, lk)))) in
    e ∙ ap (λ (ns : List (List ℕ)). with_name ns word) so ∙ with_new (take k names) word fresh
    ∙ ap (λ (w : List ℕ). take k names ++ (w ∷ [])) (sym word_is)
    ∙ sym (take_more names k [] lt)
