-- The line of a UTIL table, word by word.
use Rattle.std.proofs.Common.{◌≡◌, ℕ, ◌+◌, ◌-◌, ◌<◌, ◌≤◌, suc, Bool, true, false, List, [], ◌∷◌, ◌++◌, length, Option, Some, None, position, refl, sym, ap, ◌∙◌, append_assoc, arith, subst}
use Rattle.std.specs.List.{before_first, list_all, range_with_len, All}
use Rattle.std.specs.Str.{bytes_eq}
use Rattle.std.proofs.lemmas.List.{append-nil}
use Rattle.problem_text.specs.Tables.{onto, named_by, is_colon}
use Rattle.problem_text.proofs.CellLaws.{behind, behind-push}
use Rattle.problem_text.proofs.ScopeLaws.{before_colon-cons}
use Rattle.problem_text.proofs.TableLineLaws.{named-within}
use Rattle.std.proofs.lemmas.Bool.{false≢true}
use Rattle.report_reader.specs.UtilLine.{known_among}
use Rattle.report_reader.specs.UtilWords.{where_whole}

-- a scope whose first variables were read, where each word so far named one
abbrev pub wholly : Bool → List ℕ → Option (List ℕ) → Option (List ℕ)
wholly true vars later = behind vars later
wholly false vars later = None

-- variables so far, and what is left before the `:`
pub known-more : (names rest ws : List (List ℕ)) (w : List ℕ) (vars new all : List ℕ) (v : ℕ)
    → rest ≡ w ∷ ws → is_colon w ≡ false → position (bytes_eq w) names ≡ Some v → new ≡ vars ++ (v ∷ [])
    → vars ++ known_among names (before_first is_colon rest) ≡ all
    → new ++ known_among names (before_first is_colon ws) ≡ all
known-more names rest ws w vars new all v next plain found more h =
    let first = rw (next, before_colon-cons w ws plain, found) at h in
    rw (more, append_assoc vars (v ∷ []) (known_among names (before_first is_colon ws))) first

pub known-none : (names rest ws : List (List ℕ)) (w : List ℕ) (vars all : List ℕ)
    → rest ≡ w ∷ ws → is_colon w ≡ false → position (bytes_eq w) names ≡ None
    → vars ++ known_among names (before_first is_colon rest) ≡ all
    → vars ++ known_among names (before_first is_colon ws) ≡ all
known-none names rest ws w vars all next plain none h = rw (next, before_colon-cons w ws plain, none) at h

wholly-push : (whole : Bool) (vars : List ℕ) (v : ℕ) (later : Option (List ℕ)) → wholly whole (vars ++ (v ∷ [])) later ≡ wholly whole vars (onto (Some v) later)
wholly-push true vars v later = behind-push vars v later
wholly-push false vars v later = refl

wholly-none : (whole : Bool) (vars : List ℕ) (later : Option (List ℕ)) → wholly whole vars (onto None later) ≡ None
wholly-none true vars later = refl
wholly-none false vars later = refl

-- a scope so far, and what is left before the `:`
pub whole-more : (names rest ws : List (List ℕ)) (w : List ℕ) (whole : Bool) (vars new : List ℕ) (v : ℕ) (all : Option (List ℕ))
    → rest ≡ w ∷ ws → is_colon w ≡ false → position (bytes_eq w) names ≡ Some v → new ≡ vars ++ (v ∷ [])
    → wholly whole vars (named_by names (before_first is_colon rest)) ≡ all
    → wholly whole new (named_by names (before_first is_colon ws)) ≡ all
whole-more names rest ws w whole vars new v all next plain found more h =
    let first = rw (next, before_colon-cons w ws plain, found) at h in
    rw (more, wholly-push whole vars v (named_by names (before_first is_colon ws))) first

pub whole-none : (names rest ws : List (List ℕ)) (w : List ℕ) (whole : Bool) (vars : List ℕ) (all : Option (List ℕ))
    → rest ≡ w ∷ ws → is_colon w ≡ false → position (bytes_eq w) names ≡ None
    → wholly whole vars (named_by names (before_first is_colon rest)) ≡ all
    → None ≡ all
whole-none names rest ws w whole vars all next plain none h =
    let first = rw (next, before_colon-cons w ws plain, none) at h in
    sym (wholly-none whole vars (named_by names (before_first is_colon ws))) ∙ first

-- the same of all words, whether or not one is `:`
pub known-next : (names rest ws : List (List ℕ)) (w : List ℕ) (vars new all : List ℕ) (v : ℕ)
    → rest ≡ w ∷ ws → position (bytes_eq w) names ≡ Some v → new ≡ vars ++ (v ∷ [])
    → vars ++ known_among names rest ≡ all → new ++ known_among names ws ≡ all
known-next names rest ws w vars new all v next found more h =
    let first = rw (next, found) at h in
    rw (more, append_assoc vars (v ∷ []) (known_among names ws)) first

pub known-past : (names rest ws : List (List ℕ)) (w : List ℕ) (vars all : List ℕ)
    → rest ≡ w ∷ ws → position (bytes_eq w) names ≡ None
    → vars ++ known_among names rest ≡ all → vars ++ known_among names ws ≡ all
known-past names rest ws w vars all next none h = rw (next, none) at h

pub whole-next : (names rest ws : List (List ℕ)) (w : List ℕ) (whole : Bool) (vars new : List ℕ) (v : ℕ) (all : Option (List ℕ))
    → rest ≡ w ∷ ws → position (bytes_eq w) names ≡ Some v → new ≡ vars ++ (v ∷ [])
    → wholly whole vars (named_by names rest) ≡ all → wholly whole new (named_by names ws) ≡ all
whole-next names rest ws w whole vars new v all next found more h =
    let first = rw (next, found) at h in
    rw (more, wholly-push whole vars v (named_by names ws)) first

pub whole-past : (names rest ws : List (List ℕ)) (w : List ℕ) (whole : Bool) (vars : List ℕ) (all : Option (List ℕ))
    → rest ≡ w ∷ ws → position (bytes_eq w) names ≡ None
    → wholly whole vars (named_by names rest) ≡ all → None ≡ all
whole-past names rest ws w whole vars all next none h =
    let first = rw (next, none) at h in
    sym (wholly-none whole vars (named_by names ws)) ∙ first

-- a scope of which nothing is left
pub wholly-end : (whole : Bool) (vars : List ℕ) (all : Option (List ℕ)) → wholly whole vars (Some []) ≡ all → all ≡ where_whole whole vars
wholly-end true vars all h = sym h ∙ ap (λ (vs : List ℕ). Some vs) (append-nil vars)
wholly-end false vars all h = sym h

-- so many numbers, and those that are left
abbrev pub counted : ℕ → Option (List ℕ) → Option ℕ
counted count (Some later) = Some (count + length later)
counted count None = None

pub counted-more : (count n : ℕ) (later : Option (List ℕ)) → counted (count + 1) later ≡ counted count (onto (Some n) later)
counted-more count n None = refl
counted-more count n (Some ns) = let e : (count + 1) + length ns ≡ count + suc (length ns) = omega arith in rw e refl

range-first : (a n : ℕ) → a < n → range_with_len a (n - a) ≡ a ∷ range_with_len (a + 1) (n - (a + 1))
range-first a n h = let e : n - a ≡ suc (n - (a + 1)) = omega (arith, h) in rw e refl

-- numbers from here on, of which the first fails
pub range-fails : (p : ℕ → Bool) (a n : ℕ) (all : Bool) → a < n → p a ≡ false → list_all p (range_with_len a (n - a)) ≡ all → all ≡ false
range-fails p a n all h none e = sym e ∙ rw (range-first a n h, none) refl

-- numbers from here on, of which the first passes
pub range-passes : (p : ℕ → Bool) (a n : ℕ) (all : Bool) → a < n → p a ≡ true → list_all p (range_with_len a (n - a)) ≡ all → list_all p (range_with_len (a + 1) (n - (a + 1))) ≡ all
range-passes p a n all h one e = rw (range-first a n h, one) at e

-- no numbers
pub range-end : (p : ℕ → Bool) (a n : ℕ) (all : Bool) → n ≤ a → list_all p (range_with_len a (n - a)) ≡ all → all ≡ true
range-end p a n all h e = let z : n - a ≡ 0 = omega (arith, h) in sym (rw z at e)

-- a whole scope names variables that are there
pub whole-within : (names ws : List (List ℕ)) (whole : Bool) (known : List ℕ) (n : ℕ) → named_by names ws ≡ where_whole whole known → whole ≡ true → length names ≡ n → All (λ v. v < n) known
whole-within names ws true known n e is many = subst (λ (n : ℕ). All (λ v. v < n) known) many (named-within names ws known e)
whole-within names ws false known n e is many = absurd (false≢true is)
