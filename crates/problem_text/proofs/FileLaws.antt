-- The lines of a file's canonical text, one by one, as they are read.
use Rattle.std.proofs.Common.{◌≡◌, ℕ, ◌+◌, ◌^◌, ◌<◌, ◌≤◌, Bool, true, false, List, [], ◌∷◌, ◌++◌, length, nat_eq, nat_lt, nat_le, ◌||◌, ◌&&◌, ◌⊎◌, inl, inr, refl, sym, ◌∙◌, subst, arith, length-append, append_assoc, lit<}
use Rattle.std.specs.List.{list_all, list_any, AllZip, IsDistinct, AllByRecursion}
use Rattle.std.specs.Prelude.{codes}
use Rattle.std.specs.Fmt.{decimal}
use Rattle.std.specs.Str.{bytes_eq}
use Rattle.std.specs.Cmp.Lexicographic.{nat_list_eq_equiv}
use Rattle.std.proofs.lemmas.List.{append-nil}
use Rattle.std.proofs.lemmas.Fmt.{decimal_digit}
use Rattle.std.proofs.lemmas.Bool.Decides.{nat_tests}
use Rattle.std.proofs.lemmas.Bool.{and_parts, or_parts, eq-eqb}
use Rattle.dcop_base.specs.Faults.{is_bad_size}
use Rattle.problem_text.specs.Name.{is_name}
use Rattle.problem_text.specs.File.{AreLabels, has_labels}
use Rattle.problem_text.specs.Canonical.{variable_words, variable_lines}
use Rattle.problem_text.specs.Declarations.{Declared, Declares, with_variable, version_alone, is_among}
use Rattle.problem_text.specs.Variables.{header, has_twice}
use Rattle.problem_text.specs.Reading.{later_line}
use Rattle.problem_text.proofs.NameLaws.{has_twice-from_distinct}
use Rattle.problem_text.proofs.DecimalLaws.{number-decimal, decimal-colon}
use Rattle.problem_text.proofs.WalkLaws.{Walks}

-- the header of a version
pub header-version : (version : ℕ) → (version ≡ 1) ⊎ (version ≡ 2) → header (codes "dcop" ∷ decimal version ∷ []) ≡ Declares (version_alone version)
header-version version (inl e) = rw (e, decimal_digit 1 (lit< tt)) refl
header-version version (inr e) = rw (e, decimal_digit 2 (lit< tt)) refl

and-no : (t : Bool) → (t && false) ≡ false
and-no true = refl
and-no false = refl

pub good-size : (size : ℕ) → is_bad_size size ≡ false → size < 10 ^ 19
good-size size h =
    let parts = or_parts (nat_eq size 0) (nat_lt 1024 size) h in
    let few : size ≤ 1024 = grind (arith, nat_tests, parts.1) in
    omega arith

-- a variable without value names
sized-line : (s : Bool) (d : Declared) (name : List ℕ) (size : ℕ) → is_name name ≡ true → is_among d.names name ≡ false → nat_le 1000 (length d.sizes) ≡ false → is_bad_size size ≡ false → later_line s d (variable_words name size []) ≡ Declares (with_variable d name [] size)
sized-line s d name size named fresh room good =
    let fits = good-size size good in
    let small : size < 2 ^ 64 = omega arith in
    rw (decimal-colon size small, and-no (nat_eq d.version 2), named, fresh, number-decimal size fits, room, good) refl

-- a variable with value names
valued-line : (s : Bool) (d : Declared) (name : List ℕ) (size : ℕ) (l : List ℕ) (ls : List (List ℕ)) → nat_eq d.version 2 ≡ true → is_name name ≡ true → is_among d.names name ≡ false → nat_le 1000 (length d.sizes) ≡ false → is_bad_size size ≡ false → list_all is_name (l ∷ ls) ≡ true → has_twice (l ∷ ls) ≡ false → length (l ∷ ls) ≡ size → later_line s d (variable_words name size (l ∷ ls)) ≡ Declares (with_variable d name (l ∷ ls) size)
valued-line s d name size l ls two named fresh room good names once many =
    rw (two, named, names, fresh, once, many, room, good) refl

two-values : (size : ℕ) (l : List ℕ) (ls : List (List ℕ)) → ((l ∷ ls) ≡ []) ⊎ (length (l ∷ ls) ≡ size) → length (l ∷ ls) ≡ size
two-values size l ls (inl e) = absurd (cc e)
two-values size l ls (inr e) = e

-- the line of a further variable
pub variable-line : (s : Bool) (d : Declared) (name : List ℕ) (size : ℕ) (labels : List (List ℕ)) → is_name name ≡ true → is_among d.names name ≡ false → length d.sizes < 1000 → is_bad_size size ≡ false → AreLabels size labels → (nat_lt 0 (length labels) ≡ true → d.version ≡ 2) → later_line s d (variable_words name size labels) ≡ Declares (with_variable d name labels size)
variable-line s d name size [] named fresh room good labels two =
    let some : nat_le 1000 (length d.sizes) ≡ false = grind (arith, nat_tests, room) in
    sized-line s d name size named fresh some good
variable-line s d name size (l ∷ ls) named fresh room good labels two =
    let some : nat_le 1000 (length d.sizes) ≡ false = grind (arith, nat_tests, room) in
    let any : nat_lt 0 (length (l ∷ ls)) ≡ true = grind (arith, nat_tests) in
    valued-line s d name size l ls (eq-eqb d.version 2 (two any)) named fresh some good labels.names (has_twice-from_distinct (l ∷ ls) labels.distinct) (two-values size l ls labels.many)

all-at : (x n : List ℕ) (xs ys : List (List ℕ)) → AllByRecursion (λ y. bytes_eq x y ≡ false) (xs ++ (n ∷ ys)) → bytes_eq x n ≡ false
all-at x n [] ys h = h.0
all-at x n (y ∷ more) ys h = all-at x n more ys h.1

-- a name is none of those before it
distinct-fresh : (xs : List (List ℕ)) (n : List ℕ) (ys : List (List ℕ)) → IsDistinct bytes_eq (xs ++ (n ∷ ys)) → is_among xs n ≡ false
unfolding IsDistinct
distinct-fresh [] n ys h = refl
distinct-fresh (x ∷ xs) n ys h = rw (nat_list_eq_equiv.symm n x ∙ all-at x n xs ys h.0, distinct-fresh xs n ys h.1) refl

-- the lines of variables, behind others
pub walk-variables : (d : Declared) (names : List (List ℕ)) (sizes : List ℕ) (labels : List (List (List ℕ))) → IsDistinct bytes_eq (d.names ++ names) → list_all is_name names ≡ true → length names ≡ length sizes → AllZip AreLabels sizes labels → length d.sizes + length sizes ≤ 1000 → list_any is_bad_size sizes ≡ false → (has_labels labels ≡ true → d.version ≡ 2) → Walks d (variable_lines names sizes labels) (record d { names = d.names ++ names; labels = d.labels ++ labels; sizes = d.sizes ++ sizes })
walk-variables d [] [] [] apart named many fit few good two = rw (append-nil d.names, append-nil d.labels, append-nil d.sizes) refl
walk-variables d [] [] (l ∷ ls) apart named many fit few good two = absurd fit
walk-variables d [] (s ∷ ss) labels apart named many fit few good two = absurd (omega (arith, many))
walk-variables d (n ∷ ns) [] labels apart named many fit few good two = absurd (omega (arith, many))
walk-variables d (n ∷ ns) (s ∷ ss) [] apart named many fit few good two = absurd fit
walk-variables d (n ∷ ns) (s ∷ ss) (l ∷ ls) apart named many fit few good two =
    let names = and_parts (is_name n) (list_all is_name ns) named in
    let sizes = or_parts (is_bad_size s) (list_any is_bad_size ss) good in
    let fresh = distinct-fresh d.names n ns apart in
    let room : length d.sizes < 1000 = omega arith in
    let same : length ns ≡ length ss = omega (arith, many) in
    let next : length (d.sizes ++ (s ∷ [])) + length ss ≤ 1000 = omega (arith, length-append d.sizes (s ∷ [])) in
    let own = λ (h : nat_lt 0 (length l) ≡ true). two (rw h refl) in
    let later = λ (h : has_labels ls ≡ true). two (rw h (or-yes (nat_lt 0 (length l)))) in
    let rest = walk-variables (with_variable d n l s) ns ss ls (subst (λ (xs : List (List ℕ)). IsDistinct bytes_eq xs) (sym (append_assoc d.names (n ∷ []) ns)) apart) names.1 same fit.1 next sizes.1 later in
    let together : record d { names = (d.names ++ (n ∷ [])) ++ ns; labels = (d.labels ++ (l ∷ [])) ++ ls; sizes = (d.sizes ++ (s ∷ [])) ++ ss } ≡ record d { names = d.names ++ (n ∷ ns); labels = d.labels ++ (l ∷ ls); sizes = d.sizes ++ (s ∷ ss) } = rw (append_assoc d.names (n ∷ []) ns, append_assoc d.labels (l ∷ []) ls, append_assoc d.sizes (s ∷ []) ss) refl in
    (with_variable d n l s, (λ sec. variable-line sec d n s l names.0 fresh room sizes.0 fit.0 own), subst (λ (last : Declared). Walks (with_variable d n l s) (variable_lines ns ss ls) last) together rest)
  where
    or-yes : (t : Bool) → (t || true) ≡ true
    or-yes true = refl
    or-yes false = refl
