-- The values that lists of pairs and contexts give, and all choices of values.
use Rattle.std.proofs.Common.{◌≡◌, ℕ, zero, suc, ◌+◌, ◌*◌, ◌<◌, Bool, true, false, cond, ◌||◌, eqb, ltb, List, [], ◌∷◌, ◌++◌, map, length, get_or, Option, Some, None, refl, sym, ap, subst, ◌∙◌, inl, inr, arith}
use Rattle.std.specs.List.{fold, zip, list_all, flat_map, range_with_len}
use Rattle.std.proofs.lemmas.Bool.{cases_Bool, cond-true, cond-false, cond_both, eqb-true, eq-eqb, and_parts, and_from, or_left, or_right}
use Rattle.std.proofs.lemmas.List.{length-append, length-map, get_or-map, get_or_append_left, get_or-append-add}
use Rattle.dcop_base.specs.Table.{has, product, AreWithin, cell_place}
use Rattle.dcop_base.proofs.TableLaws.{cell_place-lt}
use Rattle.adopt_context.specs.Context.{Context, value_in, put}
use Rattle.protocol_steps.specs.Values.{context_of, choices}

-- pairs of variables and their values
pub value_in-zip : (vs : List ℕ) (f : ℕ → ℕ) (u : ℕ) → has vs u ≡ true → value_in (zip vs (map f vs)) u ≡ Some (f u)
value_in-zip [] f u h = absurd (cc)
value_in-zip (v ∷ vs) f u h = elim (cases_Bool (eqb v u)) [
  | inl same ↦ cond-true (eqb v u) (Some (f v)) (value_in (zip vs (map f vs)) u) same ∙ ap (λ (x : ℕ). Some (f x)) (eqb-true v u same)
  | inr other ↦
      cond-false (eqb v u) (Some (f v)) (value_in (zip vs (map f vs)) u) other
      ∙ value_in-zip vs f u (sym (ap (λ (b : Bool). b || has vs u) other) ∙ h)
]

-- of two variables that are apart, the order of the tests is free
swapped : (v q u : ℕ) (a b x : Option ℕ) → eqb v q ≡ false → cond (eqb q u) b (cond (eqb v u) a x) ≡ cond (eqb v u) a (cond (eqb q u) b x)
swapped v q u a b x apart = elim (cases_Bool (eqb q u)) [
  | inr not_so ↦ cond-false (eqb q u) b (cond (eqb v u) a x) not_so ∙ ap (λ (c : Bool). cond (eqb v u) a (cond c b x)) (sym not_so)
  | inl is_so ↦
      let other : eqb v u ≡ false = subst (λ (w : ℕ). eqb v w ≡ false) (eqb-true q u is_so) apart in
      ap (λ (c : Bool). cond (eqb q u) b (cond c a x)) other ∙ sym (cond-false (eqb v u) a (cond (eqb q u) b x) other)
]

replaced : (v q u : ℕ) (a b x : Option ℕ) → v ≡ q → cond (eqb v u) a x ≡ cond (eqb v u) a (cond (eqb q u) b x)
replaced v q u a b x same = elim (cases_Bool (eqb v u)) [
  | inl is_so ↦ cond-true (eqb v u) a x is_so ∙ sym (cond-true (eqb v u) a (cond (eqb q u) b x) is_so)
  | inr not_so ↦
      let other : eqb q u ≡ false = subst (λ (w : ℕ). eqb w u ≡ false) same not_so in
      ap (λ (y : Option ℕ). cond (eqb v u) a y) (sym (cond-false (eqb q u) b x other))
]

pub value_in-put : (c : Context) (v a u : ℕ) → value_in (put c v a) u ≡ cond (eqb v u) (Some a) (value_in c u)
value_in-put [] v a u = refl
value_in-put (p ∷ ps) v a u = elim (cases_Bool (eqb v p.0)) [
  | inl here ↦
      ap (λ (b : Bool). value_in (cond b ((v, a) ∷ ps) (cond (ltb v p.0) ((v, a) ∷ p ∷ ps) (p ∷ put ps v a))) u) here
      ∙ replaced v p.0 u (Some a) (Some p.1) (value_in ps u) (eqb-true v p.0 here)
  | inr other ↦
      ap (λ (b : Bool). value_in (cond b ((v, a) ∷ ps) (cond (ltb v p.0) ((v, a) ∷ p ∷ ps) (p ∷ put ps v a))) u) other
      ∙ elim (cases_Bool (ltb v p.0)) [
        | inl before ↦ ap (λ (b : Bool). value_in (cond b ((v, a) ∷ p ∷ ps) (p ∷ put ps v a)) u) before
        | inr after ↦
            ap (λ (b : Bool). value_in (cond b ((v, a) ∷ p ∷ ps) (p ∷ put ps v a)) u) after
            ∙ ap (λ (o : Option ℕ). cond (eqb p.0 u) (Some p.1) o) (value_in-put ps v a u)
            ∙ swapped v p.0 u (Some a) (Some p.1) (value_in ps u) other
      ]
]

-- a context and then the values of more variables
abbrev noted : (ℕ → ℕ) → Context → List ℕ → Context
noted value c vs = fold (λ c u. put c u (value u)) c vs

either_found : (b e : Bool) (x y w : Option ℕ) → (e ≡ true → y ≡ x) → cond b x (cond e y w) ≡ cond (e || b) x w
either_found true true x y w same = refl
either_found true false x y w same = refl
either_found false true x y w same = same refl
either_found false false x y w same = refl

noted_in : (vs : List ℕ) (value : ℕ → ℕ) (c : Context) (u : ℕ) → value_in (noted value c vs) u ≡ cond (has vs u) (Some (value u)) (value_in c u)
noted_in [] value c u = refl
noted_in (v ∷ vs) value c u =
    noted_in vs value (put c v (value v)) u
    ∙ ap (λ (o : Option ℕ). cond (has vs u) (Some (value u)) o) (value_in-put c v (value v) u)
    ∙ either_found (has vs u) (eqb v u) (Some (value u)) (Some (value v)) (value_in c u) (λ same. ap (λ (x : ℕ). Some (value x)) (eqb-true v u same))

-- a context gives each of its variables its value
pub value_in-context_of : (vs : List ℕ) (value : ℕ → ℕ) (u : ℕ) → has vs u ≡ true → value_in (context_of vs value) u ≡ Some (value u)
value_in-context_of vs value u h = noted_in vs value [] u ∙ cond-true (has vs u) (Some (value u)) None h

all-put : (test : ℕ × ℕ → Bool) (c : Context) (v a : ℕ) → list_all test c ≡ true → test (v, a) ≡ true → list_all test (put c v a) ≡ true
all-put test [] v a h new = and_from (test (v, a)) true new refl
all-put test (p ∷ ps) v a h new =
    let parts = and_parts (test p) (list_all test ps) h in
    cond_both (eqb v p.0) ((v, a) ∷ ps) (cond (ltb v p.0) ((v, a) ∷ p ∷ ps) (p ∷ put ps v a)) (λ (c : Context). list_all test c ≡ true)
    (λ _. and_from (test (v, a)) (list_all test ps) new parts.1)
    (λ _.
    cond_both (ltb v p.0) ((v, a) ∷ p ∷ ps) (p ∷ put ps v a) (λ (c : Context). list_all test c ≡ true)
    (λ _. and_from (test (v, a)) (list_all test (p ∷ ps)) new h)
    (λ _. and_from (test p) (list_all test (put ps v a)) parts.0 (all-put test ps v a parts.1 new)))

all-noted : (test : ℕ × ℕ → Bool) (vs : List ℕ) (value : ℕ → ℕ) (c : Context) → list_all test c ≡ true → ((u : ℕ) → has vs u ≡ true → test (u, value u) ≡ true) → list_all test (noted value c vs) ≡ true
all-noted test [] value c h each = h
all-noted test (v ∷ vs) value c h each =
    all-noted test vs value (put c v (value v)) (all-put test c v (value v) h (each v (or_left (eqb v v) (has vs v) (eq-eqb v v refl))))
    (λ u k. each u (or_right (eqb v u) (has vs u) k))

-- each pair of a context passes where each variable with its value does
pub all-context_of : (test : ℕ × ℕ → Bool) (vs : List ℕ) (value : ℕ → ℕ) → ((u : ℕ) → has vs u ≡ true → test (u, value u) ≡ true) → list_all test (context_of vs value) ≡ true
all-context_of test vs value each = all-noted test vs value [] refl each

noted_same : (vs : List ℕ) (f g : ℕ → ℕ) (c : Context) → ((u : ℕ) → has vs u ≡ true → f u ≡ g u) → noted f c vs ≡ noted g c vs
noted_same [] f g c same = refl
noted_same (v ∷ vs) f g c same =
    ap (λ (x : ℕ). noted f (put c v x) vs) (same v (or_left (eqb v v) (has vs v) (eq-eqb v v refl)))
    ∙ noted_same vs f g (put c v (g v)) (λ u k. same u (or_right (eqb v u) (has vs u) k))

pub context_of_same : (vs : List ℕ) (f g : ℕ → ℕ) → ((u : ℕ) → has vs u ≡ true → f u ≡ g u) → context_of vs f ≡ context_of vs g
context_of_same vs f g same = noted_same vs f g [] same

-- blocks of one length, from number b on
block_count : {X : Type 0} (f : ℕ → List X) (m b s : ℕ) → ((d : ℕ) → length (f d) ≡ m) → length (flat_map f (range_with_len b s)) ≡ s * m
block_count f m b zero same = omega arith
block_count f m b (suc s) same =
    let here = same b in
    let rest = block_count f m (b + 1) s same in
    let both = length-append (f b) (flat_map f (range_with_len (b + 1) s)) in
    omega (arith, here, rest, both)

pub length-choices : (ss : List ℕ) → length (choices ss) ≡ product ss
length-choices [] = refl
length-choices (s ∷ ss) = block_count (λ d. map (λ ds. d ∷ ds) (choices ss)) (product ss) 0 s (λ d. length-map (choices ss) (λ (ds : List ℕ). d ∷ ds) ∙ length-choices ss)

-- the element at a place in the block of v
block_at : {X : Type 0} (f : ℕ → List X) (m b s v r : ℕ) (e : X) → ((d : ℕ) → length (f d) ≡ m) → v < s → r < m → get_or (flat_map f (range_with_len b s)) (v * m + r) e ≡ get_or (f (b + v)) r e
block_at f m b zero v r e same lt inside = absurd (omega (arith, lt))
block_at f m b (suc s) zero r e same lt inside =
    let here = same b in
    let at : zero * m + r ≡ r = omega arith in
    let first : b ≡ b + zero = omega arith in
    ap (λ (k : ℕ). get_or (f b ++ flat_map f (range_with_len (b + 1) s)) k e) at
    ∙ get_or_append_left (f b) (flat_map f (range_with_len (b + 1) s)) e r (omega (arith, here, inside))
    ∙ ap (λ (k : ℕ). get_or (f k) r e) first
block_at f m b (suc s) (suc v) r e same lt inside =
    let here = same b in
    let at : suc v * m + r ≡ length (f b) + (v * m + r) = omega (arith, here) in
    let next : (b + 1) + v ≡ b + suc v = omega arith in
    ap (λ (k : ℕ). get_or (f b ++ flat_map f (range_with_len (b + 1) s)) k e) at
    ∙ get_or-append-add (f b) (flat_map f (range_with_len (b + 1) s)) (v * m + r) e
    ∙ block_at f m (b + 1) s v r e same (omega (arith, lt)) inside
    ∙ ap (λ (k : ℕ). get_or (f k) r e) next

-- choices stand in the order of the places of cells
pub choice_at : (ss xs : List ℕ) → AreWithin ss xs → get_or (choices ss) (cell_place ss xs) [] ≡ xs
choice_at [] [] within = refl
choice_at [] (x ∷ xs) within = absurd within
choice_at (s ∷ ss) [] within = absurd within
choice_at (s ∷ ss) (x ∷ xs) within =
    let long : (d : ℕ) → length (map (λ (ds : List ℕ). d ∷ ds) (choices ss)) ≡ product ss = λ d. length-map (choices ss) (λ (ds : List ℕ). d ∷ ds) ∙ length-choices ss in
    let inside : cell_place ss xs < product ss = cell_place-lt ss xs within.1 in
    let count = length-choices ss in
    let zero_x : 0 + x ≡ x = omega arith in
    block_at (λ d. map (λ ds. d ∷ ds) (choices ss)) (product ss) 0 s x (cell_place ss xs) [] long within.0 inside
    ∙ get_or-map (λ (ds : List ℕ). (0 + x) ∷ ds) (choices ss) (cell_place ss xs) [] [] (omega (arith, inside, count))
    ∙ ap (λ (ds : List ℕ). (0 + x) ∷ ds) (choice_at ss xs within.1)
    ∙ ap (λ (y : ℕ). y ∷ xs) zero_x

-- the cell that is made of a choice stands at the choice's place
pub made_cell : (f : List ℕ → ℕ) (ss xs : List ℕ) → AreWithin ss xs → get_or (map f (choices ss)) (cell_place ss xs) 0 ≡ f xs
made_cell f ss xs within =
    let inside : cell_place ss xs < product ss = cell_place-lt ss xs within in
    let count = length-choices ss in
    get_or-map f (choices ss) (cell_place ss xs) [] 0 (omega (arith, inside, count)) ∙ ap f (choice_at ss xs within)
