-- Names among words: their bytes are ASCII, and a name that stands twice.
use Rattle.std.proofs.Common.{◌≡◌, ℕ, ◌+◌, suc, zero, ◌<◌, Bool, true, false, not, cond, List, [], ◌∷◌, ◌++◌, length, ◌&&◌, ◌||◌, Some, None, refl, sym, ◌∙◌, arith}
use Rattle.std.specs.List.{list_any, list_all, position, AllByRecursion, IsDistinct}
use Rattle.std.specs.Prelude.{is_some}
use Rattle.std.specs.Str.{IsAscii, IsUtf8, bytes_eq}
use Rattle.std.proofs.lemmas.Str.{IsUtf8-from_ascii}
use Rattle.std.proofs.lemmas.Bool.Decides.{nat_tests}
use Rattle.std.specs.Cmp.{first_so, second_so}
use Rattle.std.proofs.Common.{lit<, nat_lt, nat_le}
use Rattle.std.proofs.lemmas.Bool.{false≢true}
use Rattle.std.proofs.Math.Bool.{or-true}
use Rattle.std.proofs.lemmas.Map.Keys.{IsDistinct-push}
use Prim.Native.Nat.compare
use Rattle.std.specs.List.{prefix_len}
use Rattle.std.specs.Cmp.Lexicographic.{nat_list_eq_equiv}
use Rattle.problem_text.specs.Name.{is_name, is_name_start, is_name_byte}
use Rattle.problem_text.specs.Declarations.{is_among}
use Rattle.problem_text.specs.Variables.{has_twice}

byte-small : (b : ℕ) → is_name_byte b ≡ true → b < 128
byte-small b h = grind (arith, nat_tests)

start-small : (b : ℕ) → is_name_start b ≡ true → b < 128
start-small b h = grind (arith, nat_tests)

bytes-small : (bs : List ℕ) → list_all is_name_byte bs ≡ true → IsAscii bs
bytes-small [] h i = lit< tt
bytes-small (b ∷ bs) h zero = byte-small b (first_so (is_name_byte b) (list_all is_name_byte bs) h)
bytes-small (b ∷ bs) h (suc i) = bytes-small bs (second_so (is_name_byte b) (list_all is_name_byte bs) h) i

-- a name is a text
pub IsUtf8-from_name : (word : List ℕ) → is_name word ≡ true → IsUtf8 word
IsUtf8-from_name [] h = absurd (false≢true h)
IsUtf8-from_name (b ∷ bs) h = IsUtf8-from_ascii (b ∷ bs) (all b bs (first_so (is_name_start b && list_all is_name_byte bs) (nat_le (length (b ∷ bs)) 32) h))
  where
    all : (b : ℕ) (bs : List ℕ) → is_name_start b && list_all is_name_byte bs ≡ true → IsAscii (b ∷ bs)
    all b bs t zero = start-small b (first_so (is_name_start b) (list_all is_name_byte bs) t)
    all b bs t (suc i) = bytes-small bs (second_so (is_name_start b) (list_all is_name_byte bs) t) i

zero-lt-suc : (n : ℕ) → nat_lt 0 (suc n) ≡ true
zero-lt-suc n = grind (arith, nat_tests)

lt-suc : (n m : ℕ) → nat_lt (1 + n) (suc m) ≡ nat_lt n m
lt-suc n m = let e : 1 + n ≡ suc n = omega arith in rw (e, compare.suc-suc) refl

some-cond : (t : Bool) (a b : ℕ) → is_some (cond t (Some a) None) ≡ is_some (cond t (Some b) None)
some-cond true a b = refl
some-cond false a b = refl

-- whether a place is found tells whether some element passes
pub is_some-position : {X : Type 0} (p : X → Bool) (xs : List X) → is_some (position p xs) ≡ list_any p xs
is_some-position p [] = refl
is_some-position {X} p (x ∷ xs) = step (p x) (prefix_len (λ (y : X). not (p y)) xs) (is_some-position p xs)
  where
    step : (t : Bool) (n : ℕ) → is_some (cond (nat_lt n (length xs)) (Some n) None) ≡ list_any p xs → is_some (cond (nat_lt (cond (not t) (1 + n) 0) (suc (length xs))) (Some (cond (not t) (1 + n) 0)) None) ≡ t || list_any p xs
    step true n ih = rw (zero-lt-suc (length xs)) refl
    step false n ih = rw (lt-suc n (length xs)) (some-cond (nat_lt n (length xs)) (1 + n) n ∙ ih)

-- a word stands among words that have it
among : (x : List ℕ) (xs : List (List ℕ)) (word : List ℕ) (later : List (List ℕ)) → bytes_eq x word ≡ true → is_among (xs ++ (word ∷ later)) x ≡ true
among x [] word later h = rw h refl
among x (y ∷ ys) word later h = rw (among x ys word later h) (or-true (bytes_eq x y))

none-among : (w : List ℕ) (ws : List (List ℕ)) → AllByRecursion (λ y. bytes_eq w y ≡ false) ws → is_among ws w ≡ false
none-among w [] h = refl
none-among w (y ∷ ys) h = rw (h.0, none-among w ys h.1) refl

-- a word that stands among earlier ones stands twice
pub has_twice-later : (earlier : List (List ℕ)) (word : List ℕ) (later : List (List ℕ)) → list_any (bytes_eq word) earlier ≡ true → has_twice (earlier ++ (word ∷ later)) ≡ true
has_twice-later [] word later h = absurd (false≢true h)
has_twice-later (x ∷ xs) word later h = step (bytes_eq word x) (nat_list_eq_equiv.symm word x) (has_twice-later xs word later) h
  where
    step : (t : Bool) → t ≡ bytes_eq x word → (list_any (bytes_eq word) xs ≡ true → has_twice (xs ++ (word ∷ later)) ≡ true) → t || list_any (bytes_eq word) xs ≡ true → is_among (xs ++ (word ∷ later)) x || has_twice (xs ++ (word ∷ later)) ≡ true
    step true e ih t = rw (among x xs word later (sym e)) refl
    step false e ih t = rw (ih t) (or-true (is_among (xs ++ (word ∷ later)) x))

-- a word that stands among the labels already read
pub has_twice-pushed : (labels rest all after : List (List ℕ)) (word name : List ℕ) → labels ++ rest ≡ all → rest ≡ word ∷ after → name ≡ word → list_any (bytes_eq name) labels ≡ true → has_twice all ≡ true
has_twice-pushed labels rest all after word name whole next same there = rw (← whole, next) (has_twice-later labels word after (rw same at there))

-- distinct words, none of which stands twice
pub has_twice-from_distinct : (ws : List (List ℕ)) → IsDistinct bytes_eq ws → has_twice ws ≡ false
unfolding IsDistinct
has_twice-from_distinct [] h = refl
has_twice-from_distinct (w ∷ ws) h = rw (none-among w ws h.0, has_twice-from_distinct ws h.1) refl

or-no : (a b : Bool) → a || b ≡ false → (a ≡ false) × (b ≡ false)
or-no false b h = (refl, h)
or-no true b h = absurd (false≢true (sym h))

all-from-none : (w : List ℕ) (ws : List (List ℕ)) → is_among ws w ≡ false → AllByRecursion (λ y. bytes_eq w y ≡ false) ws
all-from-none w [] h = tt
all-from-none w (y ∷ ys) h = let parts = or-no (bytes_eq w y) (is_among ys w) h in (parts.0, all-from-none w ys parts.1)

-- words of which none stands twice are distinct
pub IsDistinct-from_once : (ws : List (List ℕ)) → has_twice ws ≡ false → IsDistinct bytes_eq ws
unfolding IsDistinct
IsDistinct-from_once [] h = tt
IsDistinct-from_once (w ∷ ws) h = let parts = or-no (is_among ws w) (has_twice ws) h in (all-from-none w ws parts.0, IsDistinct-from_once ws parts.1)

-- one more word, which is new
pub has_twice-push : (ws : List (List ℕ)) (w : List ℕ) → has_twice ws ≡ false → list_any (bytes_eq w) ws ≡ false → has_twice (ws ++ (w ∷ [])) ≡ false
has_twice-push ws w once new = has_twice-from_distinct (ws ++ (w ∷ [])) (IsDistinct-push nat_list_eq_equiv ws w (IsDistinct-from_once ws once) new)
