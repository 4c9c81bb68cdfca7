-- What fits a parent fits its child, with the parent's value.
use Rattle.std.proofs.Common.{◌≡◌, ℕ, ◌<◌, Bool, true, false, cond, eqb, map, List, [], ◌∷◌, ◌++◌, get_or, Option, Some, None, refl, sym, ap, subst, ◌∙◌, inl, inr}
use Rattle.std.specs.List.{list_all, zip}
use Rattle.std.specs.Prelude.{is_some}
use Rattle.std.proofs.lemmas.Bool.{cases_eq, or_cases, and_parts, and_from, eqb-true, eq-eqb, ne_eqb, lt-ltb, false≢true}
use Rattle.std.proofs.lemmas.Option.{none-some}
use Rattle.std.proofs.lemmas.List.Folds.{list_any-append}
use Rattle.dcop_base.specs.Table.{has}
use Rattle.dcop_base.specs.Problem.{Dcop}
use Rattle.pseudotree.specs.Tree.{path_of, parent_of, IsTree}
use Rattle.adopt_context.specs.Context.{Context, put, value_in, names_all}
use Rattle.protocol_steps.specs.AdoptRange.{is_within}
use Rattle.protocol_steps.specs.TreeAgents.{place_at}
use Rattle.adopt_context.proofs.KnownLaws.{put_all, put_here, put_else}
use Rattle.run_laws.proofs.OwnLaws.{list_all_at, list_all_from}
use Rattle.run_laws.proofs.DigestLaws.{fits_place}

-- a look-up in a longer list of pairs
front : (f : ℕ → ℕ) (xs : List ℕ) (u v s : ℕ) → value_in (zip xs (map f xs)) v ≡ Some s → value_in (zip (xs ++ (u ∷ [])) (map f (xs ++ (u ∷ [])))) v ≡ Some s
front f [] u v s h = absurd (none-some s h)
front f (x ∷ xs) u v s h =
    elim (cases_eq x v) [
      | inl same ↦
          ap (λ (b : Bool). cond b (Some (f x)) (value_in (zip (xs ++ (u ∷ [])) (map f (xs ++ (u ∷ [])))) v)) (eq-eqb x v same)
          ∙ sym (ap (λ (b : Bool). cond b (Some (f x)) (value_in (zip xs (map f xs)) v)) (eq-eqb x v same)) ∙ h
      | inr other ↦
          ap (λ (b : Bool). cond b (Some (f x)) (value_in (zip (xs ++ (u ∷ [])) (map f (xs ++ (u ∷ [])))) v)) (ne_eqb x v other)
          ∙ front f xs u v s (sym (ap (λ (b : Bool). cond b (Some (f x)) (value_in (zip xs (map f xs)) v)) (ne_eqb x v other)) ∙ h)
    ]

at_last : (f : ℕ → ℕ) (xs : List ℕ) (u : ℕ) → value_in (zip (xs ++ (u ∷ [])) (map f (xs ++ (u ∷ [])))) u ≡ Some (f u)
at_last f [] u = ap (λ (b : Bool). cond b (Some (f u)) None) (eq-eqb u u refl)
at_last f (x ∷ xs) u =
    elim (cases_eq x u) [
      | inl same ↦ ap (λ (b : Bool). cond b (Some (f x)) (value_in (zip (xs ++ (u ∷ [])) (map f (xs ++ (u ∷ [])))) u)) (eq-eqb x u same) ∙ ap (λ (k : ℕ). Some (f k)) same
      | inr other ↦ ap (λ (b : Bool). cond b (Some (f x)) (value_in (zip (xs ++ (u ∷ [])) (map f (xs ++ (u ∷ [])))) u)) (ne_eqb x u other) ∙ at_last f xs u
    ]

some_size : (o : Option ℕ) (d : ℕ) → is_within o d ≡ true → (s : ℕ) × (o ≡ Some s)
some_size None d h = absurd (false≢true h)
some_size (Some s) d h = (s, refl)

pairs_then : (q r : ℕ → ℕ → Bool) → ((v a : ℕ) → q v a ≡ true → r v a ≡ true) → (c : Context) → list_all (λ p. q p.0 p.1) c ≡ true → list_all (λ p. r p.0 p.1) c ≡ true
pairs_then q r f [] h = refl
pairs_then q r f (p ∷ ps) h =
    let parts = and_parts (q p.0 p.1) (list_all (λ p. q p.0 p.1) ps) h in
    and_from (r p.0 p.1) (list_all (λ p. r p.0 p.1) ps) (f p.0 p.1 parts.0) (pairs_then q r f ps parts.1)

module _ (p : Dcop) (paths : List (List ℕ)) (tree : IsTree paths) (q c : ℕ) (parent : parent_of paths c ≡ Some q) where
  abbrev test : ℕ → ℕ → ℕ → Bool
  test i v d = is_within (value_in (zip (path_of paths i) (map (λ w. get_or p.sizes w 0) (path_of paths i))) v) d

  path_is : path_of paths c ≡ path_of paths q ++ (q ∷ [])
  path_is = (tree.nested c q parent).1

  longer_test : (v d : ℕ) → test q v d ≡ true → test c v d ≡ true
  longer_test v d h =
      let f : ℕ → ℕ = λ (w : ℕ). get_or p.sizes w 0 in
      let there = some_size (value_in (zip (path_of paths q) (map f (path_of paths q))) v) d h in
      ap (λ (xs : List ℕ). is_within (value_in (zip xs (map f xs)) v) d) path_is
      ∙ ap (λ (o : Option ℕ). is_within o d) (front f (path_of paths q) q v there.0 there.1 ∙ sym there.1) ∙ h

  own_test : (d : ℕ) → d < get_or p.sizes q 0 → test c q d ≡ true
  own_test d lt =
      let f : ℕ → ℕ = λ (w : ℕ). get_or p.sizes w 0 in
      ap (λ (xs : List ℕ). is_within (value_in (zip xs (map f xs)) q) d) path_is
      ∙ ap (λ (o : Option ℕ). is_within o d) (at_last f (path_of paths q) q) ∙ lt-ltb d (f q) lt

  pub fits_child : (known : Context) → fits_place (place_at p paths q) known ≡ true → fits_place (place_at p paths c) known ≡ true
  fits_child known h = pairs_then (test q) (test c) longer_test known h

  pub fits_put : (known : Context) (d : ℕ) → fits_place (place_at p paths q) known ≡ true → d < get_or p.sizes q 0 → fits_place (place_at p paths c) (put known q d) ≡ true
  fits_put known d h lt = put_all (test c) known q d (fits_child known h) (own_test d lt)

  -- what names the path of the parent names, with the parent's value, that of the child
  pub names_put : (known : Context) (d : ℕ) → names_all known (path_of paths q) ≡ true → names_all (put known q d) (path_of paths c) ≡ true
  names_put known d h =
      list_all_from (λ v. is_some (value_in (put known q d) v)) (path_of paths c)
      (λ v there.
      elim (cases_eq q v) [
        | inl same ↦ subst (λ (k : ℕ). is_some (value_in (put known q d) k) ≡ true) same (ap (λ (o : Option ℕ). is_some o) (put_here known q d))
        | inr other ↦
            let up : has (path_of paths q) v ≡ true =
            elim (or_cases (has (path_of paths q) v) (has (q ∷ []) v) (sym (list_any-append (λ y. eqb y v) (path_of paths q) (q ∷ [])) ∙ ap (λ (xs : List ℕ). has xs v) (sym path_is) ∙ there)) [
              | inl above ↦ above
              | inr own ↦ absurd (other (only q v own))
            ] in
            ap (λ (o : Option ℕ). is_some o) (put_else known q d v other) ∙ list_all_at (λ v. is_some (value_in known v)) (path_of paths q) v h up
      ])
    where
      only : (u v : ℕ) → has (u ∷ []) v ≡ true → u ≡ v
      only u v h = elim (or_cases (eqb u v) false h) [ inl same ↦ eqb-true u v same | inr none ↦ absurd (false≢true none) ]
