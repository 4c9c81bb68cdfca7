-- Filters, places in lists without repetition, and inductions over trees.
use Rattle.std.proofs.Common.{◌≡◌, ℕ, zero, suc, ◌+◌, ◌*◌, ◌<◌, ◌≤◌, Bool, true, false, cond, ◌||◌, ◌&&◌, eqb, ltb, List, [], ◌∷◌, map, length, get_or, set, Some, None, refl, sym, ap, subst, ◌∙◌, inl, inr, arith}
use Rattle.std.specs.List.{filter, list_all, list_any, range_with_len, position, position_or_len}
use Rattle.std.proofs.lemmas.Bool.{cases_Bool, cond-true, cond-false, eqb-true, eq-eqb, ne_eqb, and_parts, and_from, or_cases, or_parts, or_from, or_left, or_right, lt-ltb, false_from_ne_true, true≢false}
use Rattle.std.proofs.lemmas.List.Recursion.{is_position_or_len}
use Rattle.std.proofs.Math.Nat.{mul-le-mul_left, mul-le-mul_right}
use Rattle.dcop_base.specs.Table.{has, has_repeat, product}
use Rattle.pseudotree.specs.Tree.{path_of, parent_of, IsTree}
use Rattle.pseudotree.proofs.TreeLaws.{longer}
use Rattle.pseudotree.proofs.CheckLaws.{within_tree}
use Rattle.pseudotree.proofs.SpreadLaws.{any_in_range}
use Rattle.pseudotree.proofs.NestLaws.{has_filter, filter_has}
use Rattle.dcop_optimum.proofs.LineLaws.{path_short}

-- two tests, each of which passes where the other does
pub same_truth : (a b : Bool) → (a ≡ true → b ≡ true) → (b ≡ true → a ≡ true) → a ≡ b
same_truth true b there back = sym (there refl)
same_truth false true there back = back refl
same_truth false false there back = refl

pub has_head : (x : ℕ) (xs : List ℕ) → has (x ∷ xs) x ≡ true
has_head x xs = or_left (eqb x x) (has xs x) (eq-eqb x x refl)

pub has_tail : (x : ℕ) (xs : List ℕ) (u : ℕ) → has xs u ≡ true → has (x ∷ xs) u ≡ true
has_tail x xs u h = or_right (eqb x u) (has xs u) h

filter_step : {X : Type 0} (b : Bool) (x : X) (rest : List X) (r : X → Bool) → filter r (cond b (x ∷ rest) rest) ≡ cond (b && r x) (x ∷ filter r rest) (filter r rest)
filter_step true x rest r = refl
filter_step false x rest r = refl

-- a filter of a filter
pub filter_twice : {X : Type 0} (q r : X → Bool) (xs : List X) → filter r (filter q xs) ≡ filter (λ x. q x && r x) xs
filter_twice q r [] = refl
filter_twice q r (x ∷ xs) =
    filter_step (q x) x (filter q xs) r
    ∙ ap (λ ys. cond (q x && r x) (x ∷ ys) ys) (filter_twice q r xs)

pub filter_range_has : (q : ℕ → Bool) (n u : ℕ) → u < n → has (filter q (range_with_len 0 n)) u ≡ q u
filter_range_has q n u lt =
    same_truth (has (filter q (range_with_len 0 n)) u) (q u) (λ h. (has_filter q (range_with_len 0 n) u h).1)
    (λ h. filter_has q (range_with_len 0 n) u (any_in_range (λ y. eqb y u) n u lt (eq-eqb u u refl)) h)

-- what passes a test passes a weaker one, so its product is at most as great
pub product_le : (f : ℕ → ℕ) (q r : ℕ → Bool) (xs : List ℕ) → ((x : ℕ) → has xs x ≡ true → q x ≡ true → r x ≡ true) → ((x : ℕ) → has xs x ≡ true → 1 ≤ f x)
    → product (map f (filter q xs)) ≤ product (map f (filter r xs))
product_le f q r [] pass some = omega arith
product_le f q r (x ∷ xs) pass some =
    let rest = product_le f q r xs (λ y h. pass y (has_tail x xs y h)) (λ y h. some y (has_tail x xs y h)) in
    let here = some x (has_head x xs) in
    let P : List ℕ → ℕ = λ ys. product (map f ys) in
    elim (cases_Bool (q x)) [
      | inl is_so ↦
          let left : P (filter q (x ∷ xs)) ≡ f x * P (filter q xs) = ap (λ (b : Bool). product (map f (cond b (x ∷ filter q xs) (filter q xs)))) is_so in
          let right : P (filter r (x ∷ xs)) ≡ f x * P (filter r xs) = ap (λ (b : Bool). product (map f (cond b (x ∷ filter r xs) (filter r xs)))) (pass x (has_head x xs) is_so) in
          let more = mul-le-mul_left (f x) rest in
          omega (arith, left, right, more)
      | inr not_so ↦
          let left : P (filter q (x ∷ xs)) ≡ P (filter q xs) = ap (λ (b : Bool). product (map f (cond b (x ∷ filter q xs) (filter q xs)))) not_so in
          elim (cases_Bool (r x)) [
            | inl more ↦
                let right : P (filter r (x ∷ xs)) ≡ f x * P (filter r xs) = ap (λ (b : Bool). product (map f (cond b (x ∷ filter r xs) (filter r xs)))) more in
                let times = mul-le-mul_right (P (filter r xs)) here in
                omega (arith, left, right, rest, times)
            | inr same ↦
                let right : P (filter r (x ∷ xs)) ≡ P (filter r xs) = ap (λ (b : Bool). product (map f (cond b (x ∷ filter r xs) (filter r xs)))) same in
                omega (arith, left, right, rest)
          ]
    ]

-- what is filtered from a range ascends
range_high : (n a u : ℕ) → has (range_with_len a n) u ≡ true → a ≤ u
range_high zero a u h = absurd (cc)
range_high (suc n) a u h = elim (or_cases (eqb a u) (has (range_with_len (a + 1) n) u) h) [
  | inl same ↦ omega (arith, eqb-true a u same)
  | inr later ↦ omega (arith, range_high n (a + 1) u later)
]

pub filter_distinct : (q : ℕ → Bool) (n a : ℕ) → has_repeat (filter q (range_with_len a n)) ≡ false
filter_distinct q zero a = refl
filter_distinct q (suc n) a =
    let rest = filter_distinct q n (a + 1) in
    let out : has (filter q (range_with_len (a + 1) n)) a ≡ false =
    false_from_ne_true (has (filter q (range_with_len (a + 1) n)) a) (λ h. omega (arith, range_high n (a + 1) a (has_filter q (range_with_len (a + 1) n) a h).0)) in
    elim (cases_Bool (q a)) [
      | inl is_so ↦
          ap (λ (b : Bool). has_repeat (cond b (a ∷ filter q (range_with_len (a + 1) n)) (filter q (range_with_len (a + 1) n)))) is_so
          ∙ or_from (has (filter q (range_with_len (a + 1) n)) a) (has_repeat (filter q (range_with_len (a + 1) n))) out rest
      | inr not_so ↦
          ap (λ (b : Bool). has_repeat (cond b (a ∷ filter q (range_with_len (a + 1) n)) (filter q (range_with_len (a + 1) n)))) not_so ∙ rest
    ]

-- maps that agree on what stands in a list
pub map_alike : {Y : Type 0} (f g : ℕ → Y) (xs : List ℕ) → ((v : ℕ) → has xs v ≡ true → f v ≡ g v) → map f xs ≡ map g xs
map_alike f g [] same = refl
map_alike f g (x ∷ xs) same =
    let here = same x (has_head x xs) in
    let rest = map_alike f g xs (λ v h. same v (has_tail x xs v h)) in
    ap (λ y. y ∷ map f xs) here ∙ ap (λ ys. g x ∷ ys) rest

-- the first place of a number
pub record IsPlaced (xs : List ℕ) (c : ℕ) : Type 0 where
  pub place : ℕ
  pub is : position (λ x. eqb x c) xs ≡ Some place
  pub inside : place < length xs
  pub at : get_or xs place 0 ≡ c

abbrev first : ℕ → List ℕ → ℕ
first c [] = 0
first c (x ∷ xs) = cond (eqb x c) 0 (1 + first c xs)

first_place : (xs : List ℕ) (c : ℕ) → has xs c ≡ true → (first c xs < length xs) × (get_or xs (first c xs) 0 ≡ c)
first_place [] c h = absurd (cc)
first_place (x ∷ xs) c h = elim (cases_Bool (eqb x c)) [
  | inl same ↦
      let at : first c (x ∷ xs) ≡ 0 = cond-true (eqb x c) 0 (1 + first c xs) same in
      (omega (arith, at), ap (λ (k : ℕ). get_or (x ∷ xs) k 0) at ∙ eqb-true x c same)
  | inr other ↦
      let rest = first_place xs c (sym (ap (λ (b : Bool). b || has xs c) other) ∙ h) in
      let one_more : 1 + first c xs ≡ suc (first c xs) = omega arith in
      let next : first c (x ∷ xs) ≡ suc (first c xs) = cond-false (eqb x c) 0 (1 + first c xs) other ∙ one_more in
      (omega (arith, next, rest.0), ap (λ (k : ℕ). get_or (x ∷ xs) k 0) next ∙ rest.1)
]

pub placed : (xs : List ℕ) (c : ℕ) → has xs c ≡ true → IsPlaced xs c
placed xs c h =
    let is_first = first_place xs c h in
    let same : position_or_len (λ x. eqb x c) xs ≡ first c xs = sym (is_position_or_len (first c) (λ x. eqb x c) refl (λ x ys. refl) xs) in
    record {
      place = first c xs;
      is = ap (λ (k : ℕ). cond (ltb k (length xs)) (Some k) None) same ∙ cond-true (ltb (first c xs) (length xs)) (Some (first c xs)) None (lt-ltb (first c xs) (length xs) is_first.0);
      inside = is_first.0;
      at = is_first.1;
    }

pub has_at : (xs : List ℕ) (k : ℕ) → k < length xs → has xs (get_or xs k 0) ≡ true
has_at [] k lt = absurd (omega (arith, lt))
has_at (x ∷ xs) zero lt = has_head x xs
has_at (x ∷ xs) (suc k) lt = has_tail x xs (get_or xs k 0) (has_at xs k (omega (arith, lt)))

-- one element of a list of different numbers is mapped otherwise
pub set_map : {Y : Type 0} (f g : ℕ → Y) (xs : List ℕ) (k c : ℕ) → has_repeat xs ≡ false → k < length xs → get_or xs k 0 ≡ c → ((x : ℕ) → (x ≡ c → ⊥) → f x ≡ g x)
    → set (map f xs) k (g c) ≡ map g xs
set_map f g [] k c apart lt at same = absurd (omega (arith, lt))
set_map f g (x ∷ xs) zero c apart lt at same =
    let parts = or_parts (has xs x) (has_repeat xs) apart in
    ap (λ (y : ℕ). g y ∷ map f xs) (sym at)
    ∙ ap (λ ys. g x ∷ ys) (map_alike f g xs (λ v h. same v (λ e. true≢false (sym h ∙ ap (has xs) (e ∙ sym at) ∙ parts.0))))
set_map f g (x ∷ xs) (suc k) c apart lt at same =
    let parts = or_parts (has xs x) (has_repeat xs) apart in
    let inside : has xs c ≡ true = subst (λ (y : ℕ). has xs y ≡ true) at (has_at xs k (omega (arith, lt))) in
    ap (λ y. y ∷ set (map f xs) k (g c)) (same x (λ e. true≢false (sym inside ∙ ap (has xs) (sym e) ∙ parts.0)))
    ∙ ap (λ ys. g x ∷ ys) (set_map f g xs k c parts.1 (omega (arith, lt)) at same)

-- what holds of a variable where it holds of its children holds of all
module _ (paths : List (List ℕ)) (tree : IsTree paths) (P : ℕ → Type 0) where
  module _ (step : (i : ℕ) → i < length paths → ((c : ℕ) → parent_of paths c ≡ Some i → P c) → P i) where
    leaves_to : (k i : ℕ) → i < length paths → length paths ≤ k + length (path_of paths i) → P i
    leaves_to zero i lt low = let short = path_short paths tree i lt in absurd (omega (arith, low, short))
    leaves_to (suc k) i lt low = step i lt (λ c parent. leaves_to k c (within_tree paths c i parent) (omega (arith, low, longer paths tree c i parent)))

    pub from_leaves : (i : ℕ) → i < length paths → P i
    from_leaves i lt = leaves_to (length paths) i lt (omega arith)

  -- and what holds of a variable where it holds of its parent
  module _ (step : (i : ℕ) → i < length paths → ((u : ℕ) → parent_of paths i ≡ Some u → P u) → P i) where
    root_to : (k i : ℕ) → i < length paths → length (path_of paths i) ≤ k → P i
    root_to zero i lt deep = step i lt (λ u parent. absurd (omega (arith, deep, longer paths tree i u parent)))
    root_to (suc k) i lt deep = step i lt (λ u parent. root_to k u (tree.nested i u parent).0 (omega (arith, deep, longer paths tree i u parent)))

    pub from_root : (i : ℕ) → i < length paths → P i
    from_root i lt = root_to (length (path_of paths i)) i lt (omega arith)

-- all elements pass
pub all_from : (q : ℕ → Bool) (xs : List ℕ) → ((v : ℕ) → has xs v ≡ true → q v ≡ true) → list_all q xs ≡ true
all_from q [] h = refl
all_from q (x ∷ xs) h = and_from (q x) (list_all q xs) (h x (has_head x xs)) (all_from q xs (λ v k. h v (has_tail x xs v k)))

pub all_at : (q : ℕ → Bool) (xs : List ℕ) (v : ℕ) → list_all q xs ≡ true → has xs v ≡ true → q v ≡ true
all_at q [] v h k = absurd (cc)
all_at q (x ∷ xs) v h k =
    let parts = and_parts (q x) (list_all q xs) h in
    elim (or_cases (eqb x v) (has xs v) k) [
      | inl same ↦ ap q (sym (eqb-true x v same)) ∙ parts.0
      | inr later ↦ all_at q xs v parts.1 later
    ]

pub all_alike : (q r : ℕ → Bool) (xs : List ℕ) → ((v : ℕ) → has xs v ≡ true → q v ≡ r v) → list_all q xs ≡ list_all r xs
all_alike q r [] same = refl
all_alike q r (x ∷ xs) same =
    ap (λ (b : Bool). b && list_all q xs) (same x (has_head x xs)) ∙ ap (λ (b : Bool). r x && b) (all_alike q r xs (λ v h. same v (has_tail x xs v h)))

-- some element passes
pub any_where : (q : ℕ → Bool) (xs : List ℕ) → list_any q xs ≡ true → (c : ℕ) × (has xs c ≡ true) × (q c ≡ true)
any_where q [] h = absurd (cc)
any_where q (x ∷ xs) h = elim (or_cases (q x) (list_any q xs) h) [
  | inl here ↦ (x, has_head x xs, here)
  | inr later ↦ let some = any_where q xs later in (some.0, has_tail x xs some.0 some.1, some.2)
]

-- one more number is marked
abbrev pub mark : (ℕ → Bool) → ℕ → ℕ → Bool
mark f c x = eqb x c || f x

pub mark_here : (f : ℕ → Bool) (c : ℕ) → mark f c c ≡ true
mark_here f c = or_left (eqb c c) (f c) (eq-eqb c c refl)

pub mark_else : (f : ℕ → Bool) (c x : ℕ) → (x ≡ c → ⊥) → mark f c x ≡ f x
mark_else f c x ne = ap (λ (b : Bool). b || f x) (ne_eqb x c ne)

pub mark_kept : (f : ℕ → Bool) (c x : ℕ) → f x ≡ true → mark f c x ≡ true
mark_kept f c x h = or_right (eqb x c) (f x) h
