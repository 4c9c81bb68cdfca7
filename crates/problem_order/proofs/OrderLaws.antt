-- Orders and the places of their variables.
use Rattle.std.proofs.Common.{◌≡◌, ◌≢◌, ℕ, ◌+◌, ◌<◌, ◌++◌, ◌∷◌, [], List, map-id, length, set, refl, sym, ap, subst, ◌∙◌, zero-add, inl, inr, arith}
use Rattle.std.specs.List.{slice_index, range_with_len}
use Rattle.std.proofs.lemmas.Bool.{cases_lt}
use Rattle.std.proofs.lemmas.List.{get_or_default, get_or-set_same, get_or-set_other}
use Rattle.std.proofs.lemmas.List.FromFn.{length-range_with_len, get_or-range_with_len, map-range_with_len_more}
use Rattle.problem_order.specs.Order.{IsOrder, LeadsBack, ArePlaces}

-- what has places is an order
pub order_of_places : (vars places : List ℕ) → ArePlaces vars places → IsOrder (length vars) vars
order_of_places vars places are = record {
  many = refl;
  within = λ k d lt.
      let many = are.many in
      let there = (are.of_vars k lt).0 in
      let back = (are.of_vars k lt).1 in
      subst (λ (v : ℕ). v < length vars) (sym (get_or_default vars k d 0 lt)) (omega (arith, many, there));
  once = λ j k lj lk same. sym (are.of_vars j lj).1 ∙ ap (slice_index places) same ∙ (are.of_vars k lk).1;
  every = λ v lt.
      let many = are.many in
      let back = are.of_places v (omega (arith, many, lt)) in
      (slice_index places v, back.0, back.1);
}

range_at : (n k : ℕ) → k < n → slice_index (range_with_len 0 n) k ≡ k
range_at n k lt = get_or-range_with_len 0 n k 0 lt ∙ zero-add k

range_leads : (n : ℕ) → LeadsBack (range_with_len 0 n) (range_with_len 0 n)
range_leads n k lt =
    let long = length-range_with_len 0 n in
    let here : slice_index (range_with_len 0 n) k ≡ k = range_at n k (omega (arith, long, lt)) in
    (omega (arith, here, lt), ap (slice_index (range_with_len 0 n)) here ∙ here)

-- variables in the order of their numbers are at their own numbers
pub range_is_places : (n : ℕ) (vars places : List ℕ) → vars ≡ range_with_len 0 n → places ≡ range_with_len 0 n → ArePlaces vars places
range_is_places n vars places e f =
    subst (λ (xs : List ℕ). ArePlaces xs places) (sym e)
    (subst (λ (ys : List ℕ). ArePlaces (range_with_len 0 n) ys) (sym f)
    (record { many = refl; of_vars = range_leads n; of_places = range_leads n }))

-- one more number
pub range_more : (items news : List ℕ) (n : ℕ) → news ≡ items ++ n ∷ [] → items ≡ range_with_len 0 n → news ≡ range_with_len 0 (n + 1)
range_more items news n e is =
    e ∙ ap (λ (xs : List ℕ). xs ++ n ∷ []) (is ∙ sym (map-id (range_with_len 0 n)))
    ∙ sym (map-range_with_len_more (λ (x : ℕ). x) 0 n n (zero-add n)) ∙ map-id (range_with_len 0 (n + 1))

-- an order of as many variables as are counted
pub order_of_count : (count : ℕ) (order vars : List ℕ) → IsOrder (length order) order → vars ≡ order → length order ≡ count → IsOrder count vars
order_of_count count order vars is e many = subst (λ (vs : List ℕ). IsOrder count vs) (sym e) (subst (λ (n : ℕ). IsOrder n order) many is)

-- if the list of places has each variable's place in the order, it is the list of their places
pub places_are : (vars places : List ℕ) → length places ≡ length vars → ((k : ℕ) → k < length vars → slice_index places (slice_index vars k) ≡ k) → IsOrder (length vars) vars → ArePlaces vars places
places_are vars places many stand is = record {
  many = many;
  of_vars = λ k lt. let within = is.within k 0 lt in (omega (arith, many, within), stand k lt);
  of_places = λ k lt.
      let every = is.every k (omega (arith, lt, many)) in
      let low = every.1 in
      let here : slice_index places k ≡ every.0 = ap (slice_index places) (sym every.2) ∙ stand every.0 every.1 in
      (omega (arith, here, low), ap (slice_index vars) here ∙ every.2);
}

-- the first `count` variables are at their places
abbrev pub StandUpTo : List ℕ → List ℕ → ℕ → Type 0
StandUpTo vars places count = IsOrder (length vars) vars → (k : ℕ) → k < count → slice_index places (slice_index vars k) ≡ k

-- one more variable
pub stands_more : (vars places new : List ℕ) (i v : ℕ) → i < length vars → v ≡ slice_index vars i → length places ≡ length vars → new ≡ set places v i → StandUpTo vars places i → StandUpTo vars new (i + 1)
stands_more vars places new i v lt var many put before is k lk =
    elim (cases_lt k i) [
      | inl less ↦
          let apart : slice_index vars k ≢ v = λ e. let one = is.once k i (omega (arith, less, lt)) lt (e ∙ var) in omega (arith, one, less) in
          ap (λ (xs : List ℕ). slice_index xs (slice_index vars k)) put ∙ get_or-set_other places v (slice_index vars k) i 0 apart ∙ before is k less
      | inr more ↦
          let same : k ≡ i = omega (arith, more, lk) in
          let within = is.within i 0 lt in
          ap (λ (xs : List ℕ). slice_index xs (slice_index vars k)) put
          ∙ ap (λ (j : ℕ). slice_index (set places v i) (slice_index vars j)) same
          ∙ ap (slice_index (set places v i)) (sym var)
          ∙ get_or-set_same places v i 0 (omega (arith, within, var, many)) ∙ sym same
    ]

-- lists of as many that lead back from each other are an order and its places
pub both_lead : (vars places one two three four : List ℕ) → one ≡ vars → two ≡ places → three ≡ places → four ≡ vars → length places ≡ length vars → LeadsBack one two → LeadsBack three four → ArePlaces vars places
both_lead vars places one two three four e1 e2 e3 e4 many there back = record {
  many = many;
  of_vars = subst (λ (xs : List ℕ). LeadsBack xs places) e1 (subst (LeadsBack one) e2 there);
  of_places = subst (λ (xs : List ℕ). LeadsBack xs vars) e3 (subst (LeadsBack three) e4 back);
}
