-- Contexts: what they give after a value was put, and tests of all their pairs.
use Rattle.std.proofs.Common.{◌≡◌, ℕ, ◌+◌, ◌≤◌, Bool, true, false, cond, eqb, nat_lt, ◌==◌, if◌then◌else◌, [], ◌∷◌, Option, Some, None, refl, sym, ap, ap₂, subst, ◌∙◌, inl, inr, arith}
use Rattle.std.specs.List.{list_all}
use Rattle.std.proofs.lemmas.Bool.{cases_eq, cond_both, cond-true, cond-false, and_parts, and_from, eqb-true, eq-eqb, ne_eqb, le-ltb, false≢true}
use Rattle.std.proofs.lemmas.Option.{none-some, same_Some}
use Rattle.adopt_context.specs.Context.{AscendsFrom, Context, value_in, put, is_value, part_of, union}

-- a test of all pairs, of the value of one variable
pub each_pair : (q : ℕ → ℕ → Bool) (c : Context) → list_all (λ p. q p.0 p.1) c ≡ true → (v a : ℕ) → value_in c v ≡ Some a → q v a ≡ true
each_pair q [] all v a h = absurd (none-some a h)
each_pair q (p ∷ ps) all v a h =
    let parts = and_parts (q p.0 p.1) (list_all (λ p. q p.0 p.1) ps) all in
    elim (cases_eq p.0 v) [
      | inl same ↦
          let value : p.1 ≡ a = same_Some p.1 a (ap (λ (b : Bool). cond b (Some p.1) (value_in ps v)) (sym (eq-eqb p.0 v same)) ∙ h) in
          subst (λ (x : ℕ). q v x ≡ true) value (subst (λ (u : ℕ). q u p.1 ≡ true) same parts.0)
      | inr other ↦ each_pair q ps parts.1 v a (ap (λ (b : Bool). cond b (Some p.1) (value_in ps v)) (sym (ne_eqb p.0 v other)) ∙ h)
    ]

-- it stays where a value that passes is put
pub put_all : (q : ℕ → ℕ → Bool) (c : Context) (v a : ℕ) → list_all (λ p. q p.0 p.1) c ≡ true → q v a ≡ true → list_all (λ p. q p.0 p.1) (put c v a) ≡ true
put_all q [] v a all one = and_from (q v a) true one refl
put_all q (p ∷ ps) v a all one =
    let parts = and_parts (q p.0 p.1) (list_all (λ p. q p.0 p.1) ps) all in
    cond_both (v == p.0) ((v, a) ∷ ps) (if nat_lt v p.0 then (v, a) ∷ p ∷ ps else p ∷ put ps v a) (λ c. list_all (λ p. q p.0 p.1) c ≡ true)
    (λ e. and_from (q v a) (list_all (λ p. q p.0 p.1) ps) one parts.1)
    (λ e. cond_both (nat_lt v p.0) ((v, a) ∷ p ∷ ps) (p ∷ put ps v a) (λ c. list_all (λ p. q p.0 p.1) c ≡ true)
    (λ lt. and_from (q v a) (list_all (λ p. q p.0 p.1) (p ∷ ps)) one all)
    (λ ge. and_from (q p.0 p.1) (list_all (λ p. q p.0 p.1) (put ps v a)) parts.0 (put_all q ps v a parts.1 one)))

pub union_all : (q : ℕ → ℕ → Bool) (c r : Context) → list_all (λ p. q p.0 p.1) c ≡ true → list_all (λ p. q p.0 p.1) r ≡ true → list_all (λ p. q p.0 p.1) (union c r) ≡ true
union_all q c [] all more = all
union_all q c (p ∷ ps) all more =
    let parts = and_parts (q p.0 p.1) (list_all (λ p. q p.0 p.1) ps) more in
    union_all q (put c p.0 p.1) ps (put_all q c p.0 p.1 all parts.0) parts.1

-- what a context gives after a value was put
pub value_put : (c : Context) (v a w : ℕ) → value_in (put c v a) w ≡ cond (eqb v w) (Some a) (value_in c w)
value_put [] v a w = refl
value_put (p ∷ ps) v a w =
    cond_both (v == p.0) ((v, a) ∷ ps) (if nat_lt v p.0 then (v, a) ∷ p ∷ ps else p ∷ put ps v a)
    (λ c. value_in c w ≡ cond (eqb v w) (Some a) (cond (eqb p.0 w) (Some p.1) (value_in ps w)))
    (λ e. both v p.0 w (Some a) (Some p.1) (value_in ps w) (eqb-true v p.0 e))
    (λ e. cond_both (nat_lt v p.0) ((v, a) ∷ p ∷ ps) (p ∷ put ps v a)
    (λ c. value_in c w ≡ cond (eqb v w) (Some a) (cond (eqb p.0 w) (Some p.1) (value_in ps w)))
    (λ lt. refl)
    (λ ge. ap (λ (o : Option ℕ). cond (eqb p.0 w) (Some p.1) o) (value_put ps v a w) ∙ turned v p.0 w (Some a) (Some p.1) (value_in ps w) (λ same. false≢true (sym e ∙ eq-eqb v p.0 same))))
  where
    both : (v u w : ℕ) (x y z : Option ℕ) → v ≡ u → cond (eqb v w) x z ≡ cond (eqb v w) x (cond (eqb u w) y z)
    both v u w x y z same = subst (λ (k : ℕ). cond (eqb v w) x z ≡ cond (eqb v w) x (cond (eqb k w) y z)) same (twice (eqb v w) x y z)
      where
        twice : (b : Bool) (x y z : Option ℕ) → cond b x z ≡ cond b x (cond b y z)
        twice true x y z = refl
        twice false x y z = refl

    turned : (v u w : ℕ) (x y z : Option ℕ) → (v ≡ u → ⊥) → cond (eqb u w) y (cond (eqb v w) x z) ≡ cond (eqb v w) x (cond (eqb u w) y z)
    turned v u w x y z differ = go (eqb v w) (eqb u w) (λ h k. differ (eqb-true v w h ∙ sym (eqb-true u w k))) x y z
      where
        go : (b d : Bool) → (b ≡ true → d ≡ true → ⊥) → (x y z : Option ℕ) → cond d y (cond b x z) ≡ cond b x (cond d y z)
        go true true h x y z = absurd (h refl refl)
        go true false h x y z = refl
        go false d h x y z = refl

pub put_here : (c : Context) (v a : ℕ) → value_in (put c v a) v ≡ Some a
put_here c v a = value_put c v a v ∙ ap (λ (b : Bool). cond b (Some a) (value_in c v)) (eq-eqb v v refl)

pub put_else : (c : Context) (v a w : ℕ) → (v ≡ w → ⊥) → value_in (put c v a) w ≡ value_in c w
put_else c v a w ne = value_put c v a w ∙ ap (λ (b : Bool). cond b (Some a) (value_in c w)) (ne_eqb v w ne)

-- what a context names it names after a value was put
put_named : (c : Context) (v a w b : ℕ) → value_in c w ≡ Some b → (x : ℕ) × (value_in (put c v a) w ≡ Some x)
put_named c v a w b h = elim (cases_eq v w) [ inl same ↦ (a, subst (λ (k : ℕ). value_in (put c v a) k ≡ Some a) same (put_here c v a)) | inr other ↦ (b, put_else c v a w other ∙ h) ]

union_left : (c r : Context) (w b : ℕ) → value_in c w ≡ Some b → (x : ℕ) × (value_in (union c r) w ≡ Some x)
union_left c [] w b h = (b, h)
union_left c (p ∷ ps) w b h = let next = put_named c p.0 p.1 w b h in union_left (put c p.0 p.1) ps w next.0 next.1

union_right : (c r : Context) (w b : ℕ) → value_in r w ≡ Some b → (x : ℕ) × (value_in (union c r) w ≡ Some x)
union_right c [] w b h = absurd (none-some b h)
union_right c (p ∷ ps) w b h =
    elim (cases_eq p.0 w) [
      | inl same ↦ union_left (put c p.0 p.1) ps w p.1 (subst (λ (k : ℕ). value_in (put c p.0 p.1) k ≡ Some p.1) same (put_here c p.0 p.1))
      | inr other ↦ union_right (put c p.0 p.1) ps w b (ap (λ (d : Bool). cond d (Some p.1) (value_in ps w)) (sym (ne_eqb p.0 w other)) ∙ h)
    ]

pub value_is : (o : Option ℕ) (a : ℕ) → is_value o a ≡ true → o ≡ Some a
value_is None a h = absurd (false≢true h)
value_is (Some b) a h = ap (λ (x : ℕ). Some x) (eqb-true b a h)

-- what a part of a context gives, the context gives
pub part_gives : (c x : Context) → part_of c x ≡ true → (v a : ℕ) → value_in c v ≡ Some a → value_in x v ≡ Some a
part_gives c x part v a h = value_is (value_in x v) a (each_pair (λ v a. is_value (value_in x v) a) c part v a h)

-- two parts of one context: their union is a part of it, and gives what they give
pub union_part : (c r x : Context) → part_of c x ≡ true → part_of r x ≡ true → part_of (union c r) x ≡ true
union_part c r x = union_all (λ v a. is_value (value_in x v) a) c r

pub union_gives_left : (c r x : Context) → part_of c x ≡ true → part_of r x ≡ true → (v a : ℕ) → value_in c v ≡ Some a → value_in (union c r) v ≡ Some a
union_gives_left c r x one other v a h =
    let some = union_left c r v a h in
    let here = part_gives (union c r) x (union_part c r x one other) v some.0 some.1 in
    some.1 ∙ sym here ∙ part_gives c x one v a h

pub union_gives_right : (c r x : Context) → part_of c x ≡ true → part_of r x ≡ true → (v a : ℕ) → value_in r v ≡ Some a → value_in (union c r) v ≡ Some a
union_gives_right c r x one other v a h =
    let some = union_right c r v a h in
    let here = part_gives (union c r) x (union_part c r x one other) v some.0 some.1 in
    some.1 ∙ sym here ∙ part_gives r x other v a h

-- no variable that is named stands below where a context begins
pub named_from : (b : ℕ) (c : Context) (v a : ℕ) → AscendsFrom b c → value_in c v ≡ Some a → b ≤ v
named_from b [] v a up h = absurd (none-some a h)
named_from b (p ∷ ps) v a up h = elim (cases_eq p.0 v) [
  | inl here ↦ let low = up.0 in omega (arith, low, here)
  | inr other ↦
      let low = up.0 in
      let rest = named_from (p.0 + 1) ps v a up.1 (ap (λ (d : Bool). cond d (Some p.1) (value_in ps v)) (sym (ne_eqb p.0 v other)) ∙ h) in
      omega (arith, low, rest)
]

-- a value that a variable has is put in vain
pub put_same : (b : ℕ) (c : Context) (v a : ℕ) → AscendsFrom b c → value_in c v ≡ Some a → put c v a ≡ c
put_same b [] v a up h = absurd (none-some a h)
put_same b (p ∷ ps) v a up h = elim (cases_eq p.0 v) [
  | inl here ↦
      let value : p.1 ≡ a = same_Some p.1 a (ap (λ (d : Bool). cond d (Some p.1) (value_in ps v)) (sym (eq-eqb p.0 v here)) ∙ h) in
      cond-true (eqb v p.0) ((v, a) ∷ ps) (cond (nat_lt v p.0) ((v, a) ∷ p ∷ ps) (p ∷ put ps v a)) (eq-eqb v p.0 (sym here))
      ∙ ap₂ (λ (u : ℕ) (d : ℕ). (u, d) ∷ ps) (sym here) (sym value)
  | inr other ↦
      let later = ap (λ (d : Bool). cond d (Some p.1) (value_in ps v)) (sym (ne_eqb p.0 v other)) ∙ h in
      let above = named_from (p.0 + 1) ps v a up.1 later in
      cond-false (eqb v p.0) ((v, a) ∷ ps) (cond (nat_lt v p.0) ((v, a) ∷ p ∷ ps) (p ∷ put ps v a)) (ne_eqb v p.0 (λ same. other (sym same)))
      ∙ cond-false (nat_lt v p.0) ((v, a) ∷ p ∷ ps) (p ∷ put ps v a) (le-ltb v p.0 (omega (arith, above)))
      ∙ ap (λ (qs : Context). p ∷ qs) (put_same (p.0 + 1) ps v a up.1 later)
]

-- a part of a context is joined to it in vain
pub union_same : (c r : Context) → AscendsFrom 0 c → part_of r c ≡ true → union c r ≡ c
union_same c [] up part = refl
union_same c (p ∷ ps) up part =
    let both = and_parts (is_value (value_in c p.0) p.1) (part_of ps c) part in
    ap (λ (x : Context). union x ps) (put_same 0 c p.0 p.1 up (value_is (value_in c p.0) p.1 both.0)) ∙ union_same c ps up both.1
