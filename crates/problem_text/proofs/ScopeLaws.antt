-- Names among words, as they are read.
use Rattle.std.proofs.Common.{◌≡◌, ℕ, ◌+◌, suc, Bool, true, false, List, [], ◌∷◌, ◌++◌, Option, Some, None, position, refl, sym, ap, ◌∙◌, arith}
use Rattle.std.specs.List.{list_any, list_all, position_or_len, before_first}
use Rattle.std.specs.Prelude.{is_some}
use Rattle.std.specs.Str.{bytes_eq}
use Rattle.std.specs.Cmp.{first_so, second_so}
use Rattle.std.proofs.lemmas.Bool.{false≢true}
use Rattle.std.proofs.lemmas.Slice.Eq.{bytes_eq-Decides}
use Rattle.std.specs.Bool.{Decides}
use Rattle.problem_text.specs.Name.{is_name}
use Rattle.problem_text.specs.Tables.{named_by, is_colon}
use Rattle.problem_text.proofs.CellLaws.{behind, behind-push}
use Rattle.problem_text.proofs.NameLaws.{is_some-position}

none-from : (o : Option ℕ) → is_some o ≡ false → o ≡ None
none-from None h = refl
none-from (Some x) h = absurd (false≢true (sym h))

same-name : (word name : List ℕ) (t : Bool) → bytes_eq word name ≡ t → Decides t (word ≡ name) → is_name word ≡ false → is_name name ≡ true → t ≡ false
same-name word name false e d bad good = refl
same-name word name true e d bad good = absurd (false≢true (sym bad ∙ ap is_name (d.0 refl) ∙ good))

none-named : (names : List (List ℕ)) (word : List ℕ) → list_all is_name names ≡ true → is_name word ≡ false → list_any (bytes_eq word) names ≡ false
none-named [] word all bad = refl
none-named (n ∷ ns) word all bad =
    let here = same-name word n (bytes_eq word n) refl (bytes_eq-Decides word n) bad (first_so (is_name n) (list_all is_name ns) all) in
    rw (here, none-named ns word (second_so (is_name n) (list_all is_name ns) all) bad) refl

-- a word that is no name is no declared name
pub position-no_name : (names : List (List ℕ)) (word : List ℕ) → list_all is_name names ≡ true → is_name word ≡ false → position (bytes_eq word) names ≡ None
position-no_name names word all bad = none-from (position (bytes_eq word) names) (is_some-position (bytes_eq word) names ∙ none-named names word all bad)

-- words before the first `:`, one by one
pub before_colon-cons : (w : List ℕ) (ws : List (List ℕ)) → is_colon w ≡ false → before_first is_colon (w ∷ ws) ≡ w ∷ before_first is_colon ws
before_colon-cons w ws h = let e : 1 + position_or_len is_colon ws ≡ suc (position_or_len is_colon ws) = omega arith in rw (h, e) refl

-- one more variable of a scope
pub scope-more : (names : List (List ℕ)) (rest ws : List (List ℕ)) (w : List ℕ) (scope new : List ℕ) (v : ℕ) (whole : Option (List ℕ))
    → rest ≡ w ∷ ws → is_colon w ≡ false → position (bytes_eq w) names ≡ Some v → new ≡ scope ++ (v ∷ [])
    → behind scope (named_by names (before_first is_colon rest)) ≡ whole → behind new (named_by names (before_first is_colon ws)) ≡ whole
scope-more names rest ws w scope new v whole next plain found more h =
    let first = rw (next, before_colon-cons w ws plain, found) at h in
    rw (more, behind-push scope v (named_by names (before_first is_colon ws))) first
