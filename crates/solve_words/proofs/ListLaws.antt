-- Laws of tests and searches over plain lists.
use Rattle.std.proofs.Common.{◌≡◌, ◌+◌, Bool, true, false, cond, not, ◌||◌, List, [], ◌∷◌, map, find, All, Option, Some, None, length, slice_get, position, nat_lt, option_map, refl, ap, ◌∙◌, subst}
use Rattle.std.specs.List.{list_any, AllByRecursion, position_or_len}
use Rattle.std.proofs.lemmas.List.{length-map}
use Rattle.std.proofs.lemmas.List.Elements.{recursion_from_All}

-- a test of what a function makes of items is a test of the items
pub list_any-map :
    {X Y : Type 0} (f : X → Y) (p : Y → Bool) (xs : List X)
    → list_any p (map f xs) ≡ list_any (λ x. p (f x)) xs
list_any-map f p [] = refl
list_any-map f p (x ∷ xs) = ap (λ b. p (f x) || b) (list_any-map f p xs)

found_step :
    {X : Type 0} (p : X → Bool) (y x : X) (rest : Option X) (b : Bool) → p y ≡ b
    → cond b (Some y) rest ≡ Some x → (rest ≡ Some x → p x ≡ true) → p x ≡ true
found_step p y x rest true test h later = let e : y ≡ x = cc in subst (λ z. p z ≡ true) e test
found_step p y x rest false test h later = later h

-- what is found passes the test
pub find-passes :
    {X : Type 0} (p : X → Bool) (xs : List X) (x : X) → find p xs ≡ Some x → p x ≡ true
find-passes p [] x h = cc
find-passes p (y ∷ ys) x h = found_step p y x (find p ys) (p y) refl h (find-passes p ys x)

found_kept :
    {X : Type 0} (P : X → Type 0) (y x : X) (rest : Option X) (b : Bool) → P y
    → cond b (Some y) rest ≡ Some x → (rest ≡ Some x → P x) → P x
found_kept P y x rest true here h later = let e : y ≡ x = cc in subst P e here
found_kept P y x rest false here h later = later h

found_each :
    {X : Type 0} (P : X → Type 0) (p : X → Bool) (xs : List X) (x : X) → AllByRecursion P xs
    → find p xs ≡ Some x → P x
found_each P p [] x all h = absurd (cc)
found_each P p (y ∷ ys) x all h = found_kept P y x (find p ys) (p y) all.0 h (found_each P p ys x all.1)

-- what holds of each item holds of the one that is found
pub find-all :
    {X : Type 0} (P : X → Type 0) (p : X → Bool) (xs : List X) (x : X) → All P xs
    → find p xs ≡ Some x → P x
find-all P p xs x all h = found_each P p xs x (recursion_from_All P xs all) h

-- the first of what a function makes of items
pub first-map :
    {X Y : Type 0} (f : X → Y) (xs : List X)
    → slice_get (map f xs) 0 ≡ option_map f (slice_get xs 0)
first-map f [] = refl
first-map f (x ∷ xs) = refl

-- the first place at which a test of what a function makes of items passes
position_or_len-map :
    {X Y : Type 0} (f : X → Y) (p : Y → Bool) (q : X → Bool) → ((x : X) → p (f x) ≡ q x)
    → (xs : List X) → position_or_len p (map f xs) ≡ position_or_len q xs
position_or_len-map f p q same [] = refl
position_or_len-map f p q same (x ∷ xs) =
    ap (λ b. cond (not b) (1 + position_or_len p (map f xs)) 0) (same x)
    ∙ ap (λ n. cond (not (q x)) (1 + n) 0) (position_or_len-map f p q same xs)

pub position-map :
    {X Y : Type 0} (f : X → Y) (p : Y → Bool) (q : X → Bool) → ((x : X) → p (f x) ≡ q x)
    → (xs : List X) → position p (map f xs) ≡ position q xs
position-map f p q same xs =
    ap (λ n. cond (nat_lt n (length (map f xs))) (Some n) None) (position_or_len-map f p q same xs)
    ∙ ap (λ n. cond (nat_lt (position_or_len q xs) n) (Some (position_or_len q xs)) None) (length-map xs f)
