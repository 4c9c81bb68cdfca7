-- Climbs along parents: there is one at most, and it is shorter than the list of parents.
use Rattle.std.proofs.Common.{◌≡◌, ℕ, ◌<◌, ◌≤◌, Bool, true, false, ◌||◌, eqb, List, [], ◌∷◌, ◌++◌, length, reverse, Option, Some, None, refl, sym, ap, subst, ◌∙◌, inl, inr, arith}
use Rattle.std.specs.List.{list_any, IsDistinct, AllByRecursion}
use Rattle.std.proofs.lemmas.Bool.{eqb-true, cases_Bool, or_cases, or_parts}
use Rattle.std.proofs.lemmas.Option.{same_Some, none-some}
use Rattle.std.proofs.lemmas.Map.Steps.{length-le_from_distinct_below}
use Rattle.pseudotree.specs.Fault.{parent_at, IsClimb, ReachesRoot}
use Rattle.std.proofs.lemmas.List.{append_assoc, reverse-append, reverse-reverse}
use Rattle.pseudotree.specs.Climb.{AreKnown, LeadsTo}

-- these are the first variables above v, and `above` is the parent of the last one
abbrev pub IsAscent : List (Option ℕ) → ℕ → List ℕ → Option ℕ → Type 0
IsAscent parents v [] above = parent_at parents v ≡ above
IsAscent parents v (u ∷ us) above = (parent_at parents v ≡ Some u) × IsAscent parents u us above

pub IsAscent-push : (parents : List (Option ℕ)) (v : ℕ) (us : List ℕ) (u : ℕ) → IsAscent parents v us (Some u)
    → IsAscent parents v (us ++ (u ∷ [])) (parent_at parents u)
IsAscent-push parents v [] u h = (h, refl)
IsAscent-push parents v (w ∷ us) u h = (h.0, IsAscent-push parents w us u h.1)

pub IsClimb-from_ascent : (parents : List (Option ℕ)) (v : ℕ) (us : List ℕ) → IsAscent parents v us None → IsClimb parents v us
IsClimb-from_ascent parents v [] h = h
IsClimb-from_ascent parents v (u ∷ us) h = (h.0, IsClimb-from_ascent parents u us h.1)

-- an ascent is no longer than the climb
pub ascent_le_climb : (parents : List (Option ℕ)) (v : ℕ) (above : Option ℕ) (ps us : List ℕ) → IsAscent parents v ps above → IsClimb parents v us → length ps ≤ length us
ascent_le_climb parents v above [] us h k = omega arith
ascent_le_climb parents v above (p ∷ ps) [] h k = absurd (none-some p (sym k ∙ h.0))
ascent_le_climb parents v above (p ∷ ps) (u ∷ us) h k =
    let same : u ≡ p = same_Some u p (sym k.0 ∙ h.0) in
    let rest = ascent_le_climb parents p above ps us h.1 (subst (λ (w : ℕ). IsClimb parents w us) same k.1) in omega arith

-- there is one climb from a variable
pub IsClimb-same : (parents : List (Option ℕ)) (v : ℕ) (us ws : List ℕ) → IsClimb parents v us → IsClimb parents v ws → us ≡ ws
IsClimb-same parents v [] [] h k = refl
IsClimb-same parents v [] (w ∷ ws) h k = absurd (none-some w (sym h ∙ k.0))
IsClimb-same parents v (u ∷ us) [] h k = absurd (none-some u (sym k ∙ h.0))
IsClimb-same parents v (u ∷ us) (w ∷ ws) h k =
    let same : w ≡ u = same_Some w u (sym k.0 ∙ h.0) in
    let rest = IsClimb-same parents u us ws h.1 (subst (λ (x : ℕ). IsClimb parents x ws) same k.1) in cc

-- a variable in a climb has a climb of its own, and a shorter one
pub climb_within : (parents : List (Option ℕ)) (v w : ℕ) (us : List ℕ) → IsClimb parents v us → list_any (eqb w) us ≡ true
    → (ws : List ℕ) × IsClimb parents w ws × (length ws < length us)
climb_within parents v w [] h k = absurd (cc)
climb_within parents v w (u ∷ us) h k =
    elim (cases_Bool (eqb w u)) [
      | inl here ↦
          let same : w ≡ u = eqb-true w u here in
          (us, subst (λ (x : ℕ). IsClimb parents x us) (sym same) h.1, omega arith)
      | inr other ↦
          let later : list_any (eqb w) us ≡ true = sym (ap (λ (b : Bool). b || list_any (eqb w) us) other) ∙ k in
          let rest = climb_within parents u w us h.1 later in
          (rest.0, rest.1, omega arith)
    ]

pub climb_not_within : (parents : List (Option ℕ)) (v : ℕ) (us : List ℕ) → IsClimb parents v us → list_any (eqb v) us ≡ false
climb_not_within parents v us h =
    elim (cases_Bool (list_any (eqb v) us)) [
      | inl here ↦
          let rest = climb_within parents v v us h here in
          let same : length us ≡ length rest.0 = ap length (IsClimb-same parents v us rest.0 h rest.1) in
          absurd (omega arith)
      | inr none ↦ none
    ]

none_equal : (x : ℕ) (xs : List ℕ) → list_any (eqb x) xs ≡ false → AllByRecursion (λ y. eqb x y ≡ false) xs
none_equal x [] h = tt
none_equal x (y ∷ ys) h = let parts = or_parts (eqb x y) (list_any (eqb x) ys) h in (parts.0, none_equal x ys parts.1)

pub climb_distinct : (parents : List (Option ℕ)) (v : ℕ) (us : List ℕ) → IsClimb parents v us → IsDistinct eqb (v ∷ us)
unfolding IsDistinct
climb_distinct parents v [] h = (tt, tt)
climb_distinct parents v (u ∷ us) h = (none_equal v (u ∷ us) (climb_not_within parents v (u ∷ us) h), climb_distinct parents u us h.1)

pub climb_below : (parents : List (Option ℕ)) → AreKnown parents → (v : ℕ) (us : List ℕ) → v < length parents → IsClimb parents v us
    → (q : ℕ) → list_any (eqb q) (v ∷ us) ≡ true → q < length parents
climb_below parents known v [] lt h q k =
    elim (or_cases (eqb q v) false k) [
      | inl here ↦ let same : q ≡ v = eqb-true q v here in omega arith
      | inr none ↦ absurd (cc)
    ]
climb_below parents known v (u ∷ us) lt h q k =
    elim (or_cases (eqb q v) (list_any (eqb q) (u ∷ us)) k) [
      | inl here ↦ let same : q ≡ v = eqb-true q v here in omega arith
      | inr later ↦ climb_below parents known u us (known v u h.0) h.1 q later
    ]

-- a climb is shorter than the list
pub climb_short : (parents : List (Option ℕ)) → AreKnown parents → (v : ℕ) (us : List ℕ) → v < length parents → IsClimb parents v us → length us < length parents
climb_short parents known v us lt h =
    omega (arith, length-le_from_distinct_below (v ∷ us) (length parents) (climb_distinct parents v us h) (climb_below parents known v us lt h))

-- after as many steps as there are variables no root is reached
pub no_root : (parents : List (Option ℕ)) → AreKnown parents → (v : ℕ) (ps : List ℕ) (above : Option ℕ) → v < length parents
    → IsAscent parents v ps above → length parents ≤ length ps → ¬ ReachesRoot parents v
no_root parents known v ps above lt h long r =
    let short = climb_short parents known v r.0 lt r.1 in
    let le = ascent_le_climb parents v above ps r.0 h r.1 in
    omega arith

-- the last variable of an ascent has a known parent
pub ascent_known : (parents : List (Option ℕ)) → AreKnown parents → (v : ℕ) (us : List ℕ) (above : Option ℕ) (u : ℕ) → IsAscent parents v us above → above ≡ Some u → u < length parents
ascent_known parents known v [] above u h e = known v u (h ∙ e)
ascent_known parents known v (w ∷ us) above u h e = ascent_known parents known w us above u h.1 e

pub ascent_more : (parents : List (Option ℕ)) (v : ℕ) (us more : List ℕ) (above next : Option ℕ) (u : ℕ) → IsAscent parents v us above → above ≡ Some u
    → more ≡ us ++ (u ∷ []) → next ≡ parent_at parents u → IsAscent parents v more next
ascent_more parents v us more above next u h e m n =
    let at : IsAscent parents v us (Some u) = subst (λ (a : Option ℕ). IsAscent parents v us a) e h in
    subst (λ (a : Option ℕ). IsAscent parents v more a) (sym n)
    (subst (λ (xs : List ℕ). IsAscent parents v xs (parent_at parents u)) (sym m) (IsAscent-push parents v us u at))

-- an ascent to a variable, and then the climb from there
climb_through : (parents : List (Option ℕ)) (v u : ℕ) (us ws : List ℕ) → IsAscent parents v us (Some u) → IsClimb parents u ws → IsClimb parents v (us ++ (u ∷ ws))
climb_through parents v u [] ws h k = (h, k)
climb_through parents v u (w ∷ us) ws h k = (h.0, climb_through parents w u us ws h.1 k)

-- the path of the last variable of an ascent, and then the ascent backwards, is the path
pub leads_through : (parents : List (Option ℕ)) (v u : ℕ) (us more known path : List ℕ) (above : Option ℕ) → IsAscent parents v us above → above ≡ Some u
    → more ≡ us ++ (u ∷ []) → LeadsTo parents u known → path ≡ known ++ reverse more → LeadsTo parents v path
leads_through parents v u us more known path above h e m k p =
    let climb = climb_through parents v u us (reverse known) (subst (λ (a : Option ℕ). IsAscent parents v us a) e h) k in
    let back : reverse path ≡ us ++ (u ∷ reverse known) =
    ap reverse p ∙ reverse-append known (reverse more) ∙ ap (λ (xs : List ℕ). xs ++ reverse known) (reverse-reverse more ∙ m)
    ∙ append_assoc us (u ∷ []) (reverse known) in
    subst (λ (xs : List ℕ). IsClimb parents v xs) (sym back) climb

-- an ascent to a variable without a parent, backwards, is the path
pub leads_back : (parents : List (Option ℕ)) (v : ℕ) (us path : List ℕ) (above : Option ℕ) → IsAscent parents v us above → above ≡ None → path ≡ reverse us → LeadsTo parents v path
leads_back parents v us path above h e p =
    let climb = IsClimb-from_ascent parents v us (subst (λ (a : Option ℕ). IsAscent parents v us a) e h) in
    subst (λ (xs : List ℕ). IsClimb parents v (reverse xs)) (sym p)
    (subst (λ (xs : List ℕ). IsClimb parents v xs) (sym (reverse-reverse us)) climb)
