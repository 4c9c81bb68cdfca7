-- Binary search among ends in ascending order.
use Rattle.std.proofs.Common.{◌≡◌, ℕ, ◌+◌, ◌<◌, ◌≤◌, ◌==◌, Bool, false, cond, Some, None, Option, List, [], ◌∷◌, map, length, get_or, refl, sym, ap, subst, ◌∙◌, inl, inr, arith}
use Rattle.std.specs.Prelude.{nat_lt}
use Rattle.std.specs.List.{position, position_or_len}
use Rattle.std.specs.List.Sorted.{IsStrictlyIncreasing}
use Rattle.std.proofs.lemmas.Bool.{cases_Bool, cases_eq, eq-eqb, ne_eqb, lt-ltb, ltb-true, ltb-false}
use Rattle.std.proofs.lemmas.List.{get_or-map, get_or_default, length-map}
use Rattle.std.proofs.lemmas.List.Kept.{AllPairs-from_increasing}
use Rattle.std.proofs.lemmas.List.Sums.{position_or_len_is}

module _ {A : Type 0} where
  abbrev Ascends : List (ℕ × A) → Type 0
  Ascends xs = IsStrictlyIncreasing (map (λ (e : ℕ × A). e.0) xs)

  -- the ends before the first place are below a peer, and those from the second place on are not
  pub record IsHalving (xs : List (ℕ × A)) (peer low high : ℕ) : Type 0 where
    pub order : low ≤ high
    pub most : high ≤ length xs
    pub below : (k : ℕ) (d : ℕ × A) → k < low → (get_or xs k d).0 < peer
    pub above : (k : ℕ) (d : ℕ × A) → high ≤ k → k < length xs → peer ≤ (get_or xs k d).0

  keys_rise : (xs : List (ℕ × A)) (i k : ℕ) (d : ℕ × A) → Ascends xs → i < k → k < length xs → (get_or xs i d).0 < (get_or xs k d).0
  keys_rise xs i k d up lt inside =
      let near : i < length xs = omega (arith, lt, inside) in
      let pair : get_or (map (λ (e : ℕ × A). e.0) xs) i d.0 < get_or (map (λ (e : ℕ × A). e.0) xs) k d.0
      = AllPairs-from_increasing (map (λ (e : ℕ × A). e.0) xs) up i k d.0 lt (omega (arith, inside, length-map xs (λ (e : ℕ × A). e.0))) in
      let a = get_or-map (λ (e : ℕ × A). e.0) xs i d d.0 near in
      let b = get_or-map (λ (e : ℕ × A). e.0) xs k d d.0 inside in
      omega (arith, pair, a, b)

  pub halving_starts : (xs : List (ℕ × A)) (peer high : ℕ) → high ≡ length xs → IsHalving xs peer 0 high
  halving_starts xs peer high e = record {
    order = omega arith;
    most = omega (arith, e);
    below = λ k d (lt : k < 0). absurd (omega (arith, lt));
    above = λ k d le lt. absurd (omega (arith, e, le, lt));
  }

  pub halving_up : (xs : List (ℕ × A)) (peer low high middle : ℕ) (e : ℕ × A) → Ascends xs → IsHalving xs peer low high → middle < high → (get_or xs middle e).0 < peer → IsHalving xs peer (middle + 1) high
  halving_up xs peer low high middle e up h lt less =
      let most = h.most in
      let inside : middle < length xs = omega (arith, lt, most) in
      record {
        order = omega (arith, lt);
        most = h.most;
        below = λ k d (short : k < middle + 1).
            let here : (get_or xs middle d).0 < peer = subst (λ (x : ℕ × A). x.0 < peer) (get_or_default xs middle e d inside) less in
            elim (cases_eq k middle) [
              | inl same ↦ subst (λ (n : ℕ). (get_or xs n d).0 < peer) (sym same) here
              | inr other ↦ let less : k < middle = omega (arith, short, other) in let rise = keys_rise xs k middle d up less inside in omega (arith, rise, here)
            ];
        above = h.above;
      }

  pub halving_down : (xs : List (ℕ × A)) (peer low high middle : ℕ) (e : ℕ × A) → Ascends xs → IsHalving xs peer low high → low ≤ middle → middle < high → peer ≤ (get_or xs middle e).0 → IsHalving xs peer low middle
  halving_down xs peer low high middle e up h le lt more =
      let most = h.most in
      let inside : middle < length xs = omega (arith, lt, most) in
      record {
        order = le;
        most = omega (arith, lt, most);
        below = h.below;
        above = λ k d (from : middle ≤ k) within.
            let here : peer ≤ (get_or xs middle d).0 = subst (λ (x : ℕ × A). peer ≤ x.0) (get_or_default xs middle e d inside) more in
            elim (cases_eq k middle) [
              | inl same ↦ subst (λ (n : ℕ). peer ≤ (get_or xs n d).0) (sym same) here
              | inr other ↦ let later : middle < k = omega (arith, from, other) in let rise = keys_rise xs middle k d up later within in omega (arith, rise, here)
            ];
      }

  -- the place of a peer among them
  pub place_found : (xs : List (ℕ × A)) (peer k : ℕ) (e : ℕ × A) → ((i : ℕ) (d : ℕ × A) → i < k → (get_or xs i d).0 < peer) → k < length xs → (get_or xs k e).0 ≡ peer → Some k ≡ position (λ x. x.0 == peer) xs
  place_found xs peer k e below inside is =
      let first : position_or_len (λ (x : ℕ × A). x.0 == peer) xs ≡ k = position_or_len_is (λ (x : ℕ × A). x.0 == peer) xs k e (omega (arith, inside))
      (λ i lt. let low = below i e lt in ne_eqb (get_or xs i e).0 peer (λ same. omega (arith, low, same))) (λ _. eq-eqb (get_or xs k e).0 peer is) in
      sym (ap (λ n. cond (nat_lt n (length xs)) (Some n) None) first ∙ ap (λ (b : Bool). cond b (Some k) None) (lt-ltb k (length xs) inside))

  -- the same, at a place that was looked at first
  pub place_right : (xs : List (ℕ × A)) (peer k : ℕ) (e : ℕ × A) → Ascends xs → k < length xs → (get_or xs k e).0 ≡ peer → Some k ≡ position (λ x. x.0 == peer) xs
  place_right xs peer k e up inside is =
      let at : (d : ℕ × A) → (get_or xs k d).0 ≡ peer = λ d. subst (λ (x : ℕ × A). x.0 ≡ peer) (get_or_default xs k e d inside) is in
      place_found xs peer k e (λ i d lt. let rise = keys_rise xs i k d up lt inside in let here = at d in omega (arith, rise, here)) inside is

  -- a peer that is not among them
  no_place : (xs : List (ℕ × A)) (peer : ℕ) → ((i : ℕ) (d : ℕ × A) → i < length xs → (get_or xs i d).0 ≡ peer → ⊥) → (let none : Option ℕ = None in none) ≡ position (λ x. x.0 == peer) xs
  no_place [] peer none = refl
  no_place (y ∷ ys) peer none =
      let xs : List (ℕ × A) = y ∷ ys in
      let first : position_or_len (λ (x : ℕ × A). x.0 == peer) xs ≡ length xs = position_or_len_is (λ (x : ℕ × A). x.0 == peer) xs (length xs) y (omega arith)
      (λ i lt. ne_eqb (get_or xs i y).0 peer (none i y lt)) (λ (lt : length xs < length xs). absurd (omega (arith, lt))) in
      sym (ap (λ n. cond (nat_lt n (length xs)) (Some n) None) first ∙ ap (λ (b : Bool). cond b (Some (length xs)) None) (ne_ltb (length xs)))
    where
      ne_ltb : (n : ℕ) → nat_lt n n ≡ false
      ne_ltb n = elim (cases_Bool (nat_lt n n)) [
        | inl less ↦ let low = ltb-true n n less in absurd (omega (arith, low))
        | inr past ↦ past
      ]

  pub place_behind : (xs : List (ℕ × A)) (peer k : ℕ) → ((i : ℕ) (d : ℕ × A) → i < k → (get_or xs i d).0 < peer) → k ≡ length xs → (let none : Option ℕ = None in none) ≡ position (λ x. x.0 == peer) xs
  place_behind xs peer k below end = no_place xs peer (λ i d lt is. let low = below i d (omega (arith, end, lt)) in omega (arith, low, is))

  pub place_other : (xs : List (ℕ × A)) (peer k : ℕ) (e : ℕ × A) → Ascends xs → ((i : ℕ) (d : ℕ × A) → i < k → (get_or xs i d).0 < peer) → ((i : ℕ) (d : ℕ × A) → k ≤ i → i < length xs → peer ≤ (get_or xs i d).0)
      → k < length xs → ((get_or xs k e).0 ≡ peer → ⊥) → (let none : Option ℕ = None in none) ≡ position (λ x. x.0 == peer) xs
  place_other xs peer k e up below above inside other = no_place xs peer (λ i d lt is. elim (cases_eq i k) [
    | inl same ↦ other (ap (λ (x : ℕ × A). x.0) (get_or_default xs k e d inside) ∙ ap (λ n. (get_or xs n d).0) (sym same) ∙ is)
    | inr apart ↦ elim (cases_Bool (nat_lt i k)) [
      | inl less ↦ let low = below i d (ltb-true i k less) in omega (arith, low, is)
      | inr more ↦
          let far = ltb-false i k more in
          let here = above k d (omega arith) inside in
          let rise = keys_rise xs k i d up (omega (arith, far, apart)) lt in omega (arith, here, rise, is)
    ]
  ])
