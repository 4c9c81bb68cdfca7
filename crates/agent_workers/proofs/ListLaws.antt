-- Lists by their places.
use Rattle.std.proofs.Common.{◌≡◌, ◌≢◌, ℕ, zero, suc, ◌+◌, ◌-◌, ◌<◌, List, [], ◌∷◌, ◌++◌, map, length, set, get_or, slice_get, Some, refl, sym, ap, subst, ◌∙◌, inl, inr, arith, length-set}
use Rattle.std.proofs.lemmas.Option.{none-some, same_Some, slice_get_read}
use Rattle.std.proofs.lemmas.List.{get_or_append_left, get_or-append_right, get_or-set_same, get_or-set_other, get_or_default}
use Rattle.std.proofs.lemmas.Bool.{cases_order}
use Rattle.worker_laws.specs.Cells.{EachAre}

module _ {A : Type 0} (R : A → A → A → A → Type 0) where
  pub four : (a b c d w x y z : A) → w ≡ a → x ≡ b → y ≡ c → z ≡ d → R a b c d → R w x y z
  four a b c d w x y z e f g h r =
      subst (λ (k : A). R k x y z) (sym e) (subst (λ (k : A). R a k y z) (sym f) (subst (λ (k : A). R a b k z) (sym g) (subst (λ (k : A). R a b c k) (sym h) r)))

  -- two elements of a list that was cut between them were written
  pub cut_low : (xs low high : List A) (n k : ℕ) (h l a b d : A) → xs ≡ low ++ high → length low ≡ n → length high + n ≡ length xs → k < n → n < length xs
      → R (get_or high 0 h) (get_or low k l) a b → R (get_or xs n d) (get_or xs k d) (get_or (set low k b ++ set high 0 a) n d) (get_or (set low k b ++ set high 0 a) k d)
  cut_low xs low high n k h l a b d whole first rest lt in_n r =
      let long : length (set low k b) ≡ n = length-set low k b ∙ first in
      let some : 0 < length high = omega (arith, rest, in_n) in
      let at_n : get_or xs n d ≡ get_or high 0 h = ap (λ ys. get_or ys n d) whole ∙ get_or-append_right low high n n d first (omega arith) ∙ ap (λ i. get_or high i d) (omega arith) ∙ get_or_default high 0 d h some in
      let at_k : get_or xs k d ≡ get_or low k l = ap (λ ys. get_or ys k d) whole ∙ get_or_append_left low high d k (omega (arith, first, lt)) ∙ get_or_default low k d l (omega (arith, first, lt)) in
      let new_n : get_or (set low k b ++ set high 0 a) n d ≡ a = get_or-append_right (set low k b) (set high 0 a) n n d long (omega arith) ∙ ap (λ i. get_or (set high 0 a) i d) (omega arith) ∙ get_or-set_same high 0 a d some in
      let new_k : get_or (set low k b ++ set high 0 a) k d ≡ b = get_or_append_left (set low k b) (set high 0 a) d k (omega (arith, long, lt)) ∙ get_or-set_same low k b d (omega (arith, first, lt)) in
      four (get_or high 0 h) (get_or low k l) a b (get_or xs n d) (get_or xs k d) (get_or (set low k b ++ set high 0 a) n d) (get_or (set low k b ++ set high 0 a) k d) at_n at_k new_n new_k r

  pub cut_high : (xs low high : List A) (n k : ℕ) (h l a b d : A) → xs ≡ low ++ high → length low ≡ n → length high + n ≡ length xs → k < n → n < length xs
      → R (get_or low k l) (get_or high 0 h) b a → R (get_or xs k d) (get_or xs n d) (get_or (set low k b ++ set high 0 a) k d) (get_or (set low k b ++ set high 0 a) n d)
  cut_high xs low high n k h l a b d whole first rest lt in_n r =
      let long : length (set low k b) ≡ n = length-set low k b ∙ first in
      let some : 0 < length high = omega (arith, rest, in_n) in
      let at_n : get_or xs n d ≡ get_or high 0 h = ap (λ ys. get_or ys n d) whole ∙ get_or-append_right low high n n d first (omega arith) ∙ ap (λ i. get_or high i d) (omega arith) ∙ get_or_default high 0 d h some in
      let at_k : get_or xs k d ≡ get_or low k l = ap (λ ys. get_or ys k d) whole ∙ get_or_append_left low high d k (omega (arith, first, lt)) ∙ get_or_default low k d l (omega (arith, first, lt)) in
      let new_n : get_or (set low k b ++ set high 0 a) n d ≡ a = get_or-append_right (set low k b) (set high 0 a) n n d long (omega arith) ∙ ap (λ i. get_or (set high 0 a) i d) (omega arith) ∙ get_or-set_same high 0 a d some in
      let new_k : get_or (set low k b ++ set high 0 a) k d ≡ b = get_or_append_left (set low k b) (set high 0 a) d k (omega (arith, long, lt)) ∙ get_or-set_same low k b d (omega (arith, first, lt)) in
      four (get_or low k l) (get_or high 0 h) b a (get_or xs k d) (get_or xs n d) (get_or (set low k b ++ set high 0 a) k d) (get_or (set low k b ++ set high 0 a) n d) at_k at_n new_k new_n r

-- no other element has changed
pub cut_rest : {A : Type 0} (xs low high : List A) (n k i : ℕ) (a b d : A) → xs ≡ low ++ high → length low ≡ n → i ≢ n → i ≢ k → get_or (set low k b ++ set high 0 a) i d ≡ get_or xs i d
cut_rest xs low high n k i a b d whole first ne other =
    let long : length (set low k b) ≡ n = length-set low k b ∙ first in
    elim (cases_order i n) [
      | inl same ↦ absurd (ne same)
      | inr (inl lt) ↦ get_or_append_left (set low k b) (set high 0 a) d i (omega (arith, long, lt)) ∙ get_or-set_other low k i b d other
          ∙ sym (ap (λ ys. get_or ys i d) whole ∙ get_or_append_left low high d i (omega (arith, first, lt)))
      | inr (inr le) ↦ get_or-append_right (set low k b) (set high 0 a) n i d long (omega (arith, le)) ∙ get_or-set_other high 0 (i - n) a d (λ e. ne (omega (arith, e, le)))
          ∙ sym (ap (λ ys. get_or ys i d) whole ∙ get_or-append_right low high n i d first (omega (arith, le)))
    ]

-- the element at a place of a mapped list
pub map_back : {A B : Type 0} (f : A → B) (xs : List A) (i : ℕ) (y : B) → slice_get (map f xs) i ≡ Some y → (x : A) × (slice_get xs i ≡ Some x) × (f x ≡ y)
map_back f [] i y e = absurd (none-some y e)
map_back f (x ∷ xs) zero y e = (x, refl, same_Some (f x) y e)
map_back f (x ∷ xs) (suc i) y e = map_back f xs i y e

-- a relation at each place of two mapped lists
pub each_are : {A B C : Type 0} (R : B → C → Type 0) (f : A → B) (g : A → C) (xs ys : List A) → length ys ≡ length xs
    → ((i : ℕ) (a b : A) → slice_get xs i ≡ Some a → slice_get ys i ≡ Some b → R (f a) (g b)) → EachAre R (map f xs) (map g ys)
each_are R f g [] [] long each = tt
each_are R f g [] (y ∷ ys) long each = absurd (omega (arith, long))
each_are R f g (x ∷ xs) [] long each = absurd (omega (arith, long))
each_are R f g (x ∷ xs) (y ∷ ys) long each = (each 0 x y refl refl, each_are R f g xs ys (omega (arith, long)) (λ i a b e h. each (suc i) a b e h))

-- an element that is read in two ways is the same
pub one_at : {A : Type 0} (xs : List A) (i : ℕ) (x y : A) → slice_get xs i ≡ Some x → slice_get xs i ≡ Some y → x ≡ y
one_at xs i x y e f = same_Some x y (sym e ∙ f)

pub element_at : {A : Type 0} (xs : List A) (i : ℕ) (x : A) → i < length xs → x ≡ get_or xs i x → slice_get xs i ≡ Some x
element_at xs i x lt is = slice_get_read xs (length xs) i x refl lt is

-- a relation of two lists, by what each of them is
pub carry : {A : Type 0} (R : A → A → Type 0) (a x b y : A) → a ≡ x → y ≡ b → R a b → R x y
carry R a x b y e f r = subst (λ (z : _). R z y) e (subst (λ (z : _). R a z) (sym f) r)
