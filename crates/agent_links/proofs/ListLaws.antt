-- Lists that are joined from parts.
use Rattle.std.proofs.Common.{◌≡◌, ℕ, zero, suc, ◌+◌, ◌-◌, ◌<◌, ◌≤◌, ◌==◌, cond, Bool, true, false, List, [], ◌∷◌, ◌++◌, map, length, get_or, refl, sym, ap, ap₂, subst, ◌∙◌, inl, inr, ◌⊎◌, arith}
use Rattle.std.specs.List.{flat_map, filter, range_with_len, Contains}
use Rattle.std.proofs.lemmas.Bool.{cases_eq, cases_lt, eq-eqb, ne_eqb, false≢true}
use Rattle.std.proofs.lemmas.Grind.{flat_map-append}
use Rattle.std.proofs.lemmas.List.{append-nil, length-append, map-append, get_or_append_left, get_or-append_right, get_or_default}

module _ {A B C : Type 0} (f : B → List C) (g : A → List B) where
  pub flat_map-flat_map : (xs : List A) → flat_map f (flat_map g xs) ≡ flat_map (λ x. flat_map f (g x)) xs
  flat_map-flat_map [] = refl
  flat_map-flat_map (x ∷ xs) = flat_map-append f (g x) (flat_map g xs) ∙ ap (λ (ys : List C). flat_map f (g x) ++ ys) (flat_map-flat_map xs)

module _ {A B C : Type 0} (f : B → C) (g : A → List B) where
  pub map-flat_map : (xs : List A) → map f (flat_map g xs) ≡ flat_map (λ x. map f (g x)) xs
  map-flat_map [] = refl
  map-flat_map (x ∷ xs) = map-append f (g x) (flat_map g xs) ∙ ap (λ (ys : List C). map f (g x) ++ ys) (map-flat_map xs)

pub map-cond : {A B : Type 0} (f : A → B) (b : Bool) (x : A) → map f (cond b (x ∷ []) []) ≡ cond b (f x ∷ []) []
map-cond f true x = refl
map-cond f false x = refl

-- parts that are the same for each element
pub flat_map_same : {A B : Type 0} (f g : A → List B) (xs : List A) → ((x : A) → f x ≡ g x) → flat_map f xs ≡ flat_map g xs
flat_map_same f g [] same = refl
flat_map_same f g (x ∷ xs) same = ap₂ (λ ys zs. ys ++ zs) (same x) (flat_map_same f g xs same)

pub flat_map_within : {B : Type 0} (f g : ℕ → List B) (b n : ℕ) → ((k : ℕ) → b ≤ k → k < b + n → f k ≡ g k) → flat_map f (range_with_len b n) ≡ flat_map g (range_with_len b n)
flat_map_within f g b zero same = refl
flat_map_within f g b (suc n) same = ap₂ (λ ys zs. ys ++ zs) (same b (omega arith) (omega arith)) (flat_map_within f g (b + 1) n (λ k low high. same k (omega (arith, low)) (omega (arith, high))))

-- a test that does not look at the element
pub flat_map-cond : {A B : Type 0} (b : Bool) (g : A → List B) (xs : List A) → flat_map (λ x. cond b (g x) []) xs ≡ cond b (flat_map g xs) []
flat_map-cond true g xs = refl
flat_map-cond false g [] = refl
flat_map-cond false g (x ∷ xs) = flat_map-cond false g xs

filter_step : {A B : Type 0} (h : A → List B) (b : Bool) (x : A) (xs : List A) → flat_map h (cond b (x ∷ xs) xs) ≡ cond b (h x) [] ++ flat_map h xs
filter_step h true x xs = refl
filter_step h false x xs = refl

pub flat_map-filter : {A B : Type 0} (h : A → List B) (f : A → Bool) (xs : List A) → flat_map h (filter f xs) ≡ flat_map (λ x. cond (f x) (h x) []) xs
flat_map-filter h f [] = refl
flat_map-filter {A} {B} h f (x ∷ xs) = filter_step h (f x) x (filter f xs) ∙ ap (λ (ys : List B). cond (f x) (h x) [] ++ ys) (flat_map-filter h f xs)

single_step : {A : Type 0} (b : Bool) (x : A) (xs : List A) → cond b (x ∷ []) [] ++ xs ≡ cond b (x ∷ xs) xs
single_step true x xs = refl
single_step false x xs = refl

-- a filter as a list that is joined from parts
pub flat_map_single : {A : Type 0} (f : A → Bool) (xs : List A) → flat_map (λ x. cond (f x) (x ∷ []) []) xs ≡ filter f xs
flat_map_single f [] = refl
flat_map_single {A} f (x ∷ xs) = ap (λ (ys : List A). cond (f x) (x ∷ []) [] ++ ys) (flat_map_single f xs) ∙ single_step (f x) x (filter f xs)

pub cond_swap : {A : Type 0} (a b : Bool) (xs : List A) → cond a (cond b xs []) [] ≡ cond b (cond a xs []) []
cond_swap true true xs = refl
cond_swap true false xs = refl
cond_swap false true xs = refl
cond_swap false false xs = refl

module _ {A : Type 0} (part : ℕ → List A) (i : ℕ) where
  pick_none : (b n : ℕ) → i < b → flat_map (λ k. cond (k == i) (part k) []) (range_with_len b n) ≡ []
  pick_none b zero lt = refl
  pick_none b (suc n) lt = ap (λ (c : Bool). cond c (part b) [] ++ flat_map (λ k. cond (k == i) (part k) []) (range_with_len (b + 1) n)) (ne_eqb b i (λ e. omega (arith, e, lt))) ∙ pick_none (b + 1) n (omega (arith, lt))

  -- of the numbers of a range one is this
  pub pick : (b n : ℕ) → b ≤ i → i < b + n → flat_map (λ k. cond (k == i) (part k) []) (range_with_len b n) ≡ part i
  pick b zero low high = absurd (omega (arith, low, high))
  pick b (suc n) low high = elim (cases_eq b i) [
    | inl e ↦ ap (λ (c : Bool). cond c (part b) [] ++ flat_map (λ k. cond (k == i) (part k) []) (range_with_len (b + 1) n)) (eq-eqb b i e)
        ∙ ap (λ (ys : List A). part b ++ ys) (pick_none (b + 1) n (omega (arith, e))) ∙ append-nil (part b) ∙ ap part e
    | inr ne ↦ ap (λ (c : Bool). cond c (part b) [] ++ flat_map (λ k. cond (k == i) (part k) []) (range_with_len (b + 1) n)) (ne_eqb b i ne)
        ∙ pick (b + 1) n (omega (arith, low, ne)) (omega (arith, high))
  ]

-- an element of a list that is joined from parts is of one part
split_at : {B : Type 0} (xs ys : List B) (y : B) (k : ℕ) → k < length (xs ++ ys) → get_or (xs ++ ys) k y ≡ y → Contains xs y ⊎ Contains ys y
split_at xs ys y k lt e =
    let long = length-append xs ys in
    elim (cases_lt k (length xs)) [
      | inl low ↦ inl (k, low, sym (get_or_append_left xs ys y k low) ∙ e)
      | inr high ↦ inr (k - length xs, omega (arith, lt, high, long), sym (get_or-append_right xs ys (length xs) k y refl high) ∙ e)
    ]

into_first : {B : Type 0} (xs ys : List B) (y : B) → Contains xs y → Contains (xs ++ ys) y
into_first xs ys y h = let long = length-append xs ys in let lt = h.1 in (h.0, omega (arith, lt, long), get_or_append_left xs ys y h.0 h.1 ∙ h.2)

into_second : {B : Type 0} (xs ys : List B) (y : B) → Contains ys y → Contains (xs ++ ys) y
into_second xs ys y h =
    let long = length-append xs ys in
    let lt = h.1 in
    (length xs + h.0, omega (arith, lt, long), get_or-append_right xs ys (length xs) (length xs + h.0) y refl (omega arith) ∙ ap (λ (k : ℕ). get_or ys k y) (omega arith) ∙ h.2)

pub from_parts : {A B : Type 0} (f : A → List B) (xs : List A) (y : B) → Contains (flat_map f xs) y → (x : A) × Contains xs x × Contains (f x) y
from_parts f [] y h = let lt = h.1 in absurd (omega (arith, lt))
from_parts f (x ∷ xs) y h = elim (split_at (f x) (flat_map f xs) y h.0 h.1 h.2) [
  | inl here ↦ (x, (0, omega arith, refl), here)
  | inr rest ↦ (let r = from_parts f xs y rest in let lt = r.1.1 in (r.0, (suc r.1.0, omega (arith, lt), r.1.2), r.2))
]

into_at : {A B : Type 0} (f : A → List B) (xs : List A) (x : A) (y : B) (k : ℕ) → k < length xs → get_or xs k x ≡ x → Contains (f x) y → Contains (flat_map f xs) y
into_at f [] x y k lt e h = absurd (omega (arith, lt))
into_at {A} f (z ∷ zs) x y zero lt e h = into_first (f z) (flat_map f zs) y (subst (λ (w : A). Contains (f w) y) (sym e) h)
into_at f (z ∷ zs) x y (suc k) lt e h = into_second (f z) (flat_map f zs) y (into_at f zs x y k (omega (arith, lt)) e h)

pub into_parts : {A B : Type 0} (f : A → List B) (xs : List A) (x : A) (y : B) → Contains xs x → Contains (f x) y → Contains (flat_map f xs) y
into_parts f xs x y c h = into_at f xs x y c.0 c.1 c.2 h

in_cond_at : {A : Type 0} (b : Bool) (x y : A) (k : ℕ) → k < length (cond b (x ∷ []) []) → get_or (cond b (x ∷ []) []) k y ≡ y → (b ≡ true) × (x ≡ y)
in_cond_at true x y zero lt e = (refl, e)
in_cond_at true x y (suc k) lt e = absurd (omega (arith, lt))
in_cond_at false x y k lt e = absurd (omega (arith, lt))

pub in_cond : {A : Type 0} (b : Bool) (x y : A) → Contains (cond b (x ∷ []) []) y → (b ≡ true) × (x ≡ y)
in_cond b x y h = in_cond_at b x y h.0 h.1 h.2

pub into_cond : {A : Type 0} (b : Bool) (x : A) → b ≡ true → Contains (cond b (x ∷ []) []) x
into_cond true x e = (0, omega arith, refl)
into_cond false x e = absurd (false≢true e)

-- a list of at most one element has one element
pub one_of_few : {A : Type 0} (xs : List A) (x y : A) → length xs ≤ 1 → Contains xs x → Contains xs y → x ≡ y
one_of_few {A} xs x y few c d =
    let lt = c.1 in
    let lt' = d.1 in
    let same : c.0 ≡ d.0 = omega (arith, few, lt, lt') in
    sym c.2 ∙ ap (λ (k : ℕ). get_or xs k x) same ∙ get_or_default xs d.0 x y d.1 ∙ d.2

-- an element that a filter keeps passes its test and is in the list
pub from_filter : {A : Type 0} (f : A → Bool) (xs : List A) (x : A) → Contains (filter f xs) x → (f x ≡ true) × Contains xs x
from_filter {A} f xs x h =
    let r = from_parts (λ y. cond (f y) (y ∷ []) []) xs x (subst (λ (ys : List A). Contains ys x) (sym (flat_map_single f xs)) h) in
    let e = in_cond (f r.0) r.0 x r.2 in
    (subst (λ (y : A). f y ≡ true) e.1 e.0, subst (λ (y : A). Contains xs y) e.1 r.1)
