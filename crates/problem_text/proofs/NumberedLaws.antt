-- Names by numbers: they are names, they are distinct, and with them a problem is a file.
use Rattle.std.proofs.Common.{◌≡◌, ℕ, ◌<◌, ◌≤◌, ◌+◌, ◌^◌, ◌%◌, suc, zero, Bool, true, false, true≢false, cond, List, [], ◌∷◌, ◌++◌, map, length, drop, replicate, refl, sym, ap, ◌∙◌, subst, inl, inr, ◌⊎◌, add-one, arith}
use Rattle.std.specs.List.{list_any, list_all, AllZip, IsDistinct, range_with_len}
use Rattle.std.specs.Str.{bytes_eq}
use Rattle.std.specs.Fmt.{decimal}
use Rattle.std.specs.Cmp.Lexicographic.{bytes_decides}
use Rattle.std.proofs.lemmas.Bool.Decides.{nat_tests}
use Rattle.std.proofs.lemmas.Fmt.{decimal_injective, decimal_by_steps, length-decimal-le}
use Rattle.std.proofs.lemmas.List.Folds.{list_any_none, list_all-append}
use Rattle.std.proofs.lemmas.List.FromFn.{get_or-map-range_with_len, length-map-range_with_len, map-range_with_len_more}
use Rattle.dcop_base.specs.Problem.{Dcop}
use Rattle.problem_text.specs.Name.{is_name, is_name_byte}
use Rattle.problem_text.specs.Names.{with_name}
use Rattle.problem_text.specs.File.{IsFile, AreLabels, has_labels, has_wide_table, needs_second}
use Rattle.problem_text.specs.Numbered.{numbered_name, numbered_names, numbered_file, lower_version}
use Rattle.problem_text.specs.declared.file.Goal.TheVariants.{Min}
use Rattle.problem_text.proofs.NamesLaws.{IsDistinct-with_name}

-- different numbers give different names
pub numbered-apart : (n k : ℕ) → n < 2 ^ 64 → k < n → bytes_eq (numbered_name n) (numbered_name k) ≡ false
numbered-apart n k small below = by (bytes_eq (numbered_name n) (numbered_name k)) refl
  where
    by : (b : Bool) → bytes_eq (numbered_name n) (numbered_name k) ≡ b → b ≡ false
    by false e = refl
    by true e =
        let same : decimal n ≡ decimal k = ap (drop 1) ((bytes_decides (numbered_name n) (numbered_name k)).0 e) in
        let equal : n ≡ k = decimal_injective n k small (omega arith) same in
        absurd (omega arith)

-- the next name is new
pub numbered-new : (n : ℕ) → n < 2 ^ 64 → list_any (bytes_eq (numbered_name n)) (numbered_names n) ≡ false
numbered-new n small =
    list_any_none (bytes_eq (numbered_name n)) (numbered_names n)
    (λ k d h. let within : k < n = subst (λ m. k < m) (length-map-range_with_len numbered_name 0 n) h in
    rw (get_or-map-range_with_len numbered_name 0 n k k d within (omega arith)) (numbered-apart n k small within))

-- the names with the next one
pub numbered-next : (n : ℕ) → n < 2 ^ 64 → with_name (numbered_names n) (numbered_name n) ≡ numbered_names (n + 1)
numbered-next n small = rw (numbered-new n small) (sym (map-range_with_len_more numbered_name 0 n n (omega arith)))

-- numbered names are distinct
pub numbered-distinct : (n : ℕ) → n < 2 ^ 64 → IsDistinct bytes_eq (numbered_names n)
unfolding IsDistinct
numbered-distinct zero small = tt
numbered-distinct (suc n) small =
    let less : n < 2 ^ 64 = omega arith in
    subst (λ (names : List (List ℕ)). IsDistinct bytes_eq names) (numbered-next n less ∙ ap numbered_names (add-one n))
    (IsDistinct-with_name (numbered_names n) (numbered_name n) (numbered-distinct n less))

-- a digit may stand in a name
pub digit-named : (d : ℕ) → d < 10 → is_name_byte (48 + d) ≡ true
digit-named d h = grind (arith, nat_tests)

-- a number's digits may stand in a name
pub decimal-named : (n : ℕ) → n < 2 ^ 64 → list_all is_name_byte (decimal n) ≡ true
decimal-named n small = decimal_by_steps (λ m digits. list_all is_name_byte digits ≡ true) one more n small
  where
    one : (m : ℕ) → m < 10 → list_all is_name_byte ((48 + m) ∷ []) ≡ true
    one m h = rw (digit-named m h) refl

    more : (m : ℕ) (digits : List ℕ) → 10 ≤ m → list_all is_name_byte digits ≡ true → list_all is_name_byte (digits ++ ((48 + m % 10) ∷ [])) ≡ true
    more m digits h rest = rw (list_all-append is_name_byte digits ((48 + m % 10) ∷ []), rest, digit-named (m % 10) (omega arith)) refl

-- a numbered name is a name
pub numbered-named : (n : ℕ) → n ≤ 1000 → is_name (numbered_name n) ≡ true
numbered-named n few =
    let short : length (decimal n) ≤ 4 = length-decimal-le 4 n (omega arith) (omega arith) (omega arith) in
    rw (decimal-named n (omega arith)) (grind (arith, nat_tests))

-- numbered names are names
pub numbered_from-named : (first count : ℕ) → first + count ≤ 1000 → list_all is_name (map numbered_name (range_with_len first count)) ≡ true
numbered_from-named first zero few = refl
numbered_from-named first (suc count) few = rw (numbered-named first (omega arith), numbered_from-named (first + 1) count (omega arith)) refl

-- no value names fit any sizes
pub no-labels : (sizes : List ℕ) → AllZip AreLabels sizes (replicate (length sizes) [])
unfolding IsDistinct
no-labels [] = tt
no-labels (size ∷ sizes) = (record { many = inl refl; distinct = tt; names = refl }, no-labels sizes)

-- where no value has a name, no variable has value names
pub has_labels-none : (count : ℕ) → has_labels (replicate count []) ≡ false
has_labels-none zero = refl
has_labels-none (suc count) = has_labels-none count

-- the lower version is version 2 where the file needs it
pub lower-second : (p : Dcop) → needs_second (numbered_file p) ≡ true → lower_version p.tables ≡ 2
lower-second p h = by (has_wide_table p.tables) refl
  where
    by : (b : Bool) → has_wide_table p.tables ≡ b → lower_version p.tables ≡ 2
    by true e = rw e refl
    by false e = absurd (true≢false (sym h ∙ rw (e, has_labels-none (length p.sizes)) refl))

-- the lower version is one of the two
pub lower-version : (p : Dcop) → (lower_version p.tables ≡ 1) ⊎ (lower_version p.tables ≡ 2)
lower-version p = by (has_wide_table p.tables)
  where
    by : (b : Bool) → (cond {A = ℕ} b 2 1 ≡ 1) ⊎ (cond {A = ℕ} b 2 1 ≡ 2)
    by true = inr refl
    by false = inl refl

-- a problem with numbered names is a file
pub IsFile-numbered : (p : Dcop) → length p.sizes ≤ 1000 → IsFile (numbered_file p)
IsFile-numbered p few = record {
  version = lower-version p;
  second = lower-second p;
  named = length-map-range_with_len numbered_name 0 (length p.sizes);
  distinct = numbered-distinct (length p.sizes) (omega arith);
  names = numbered_from-named 0 (length p.sizes) (omega arith);
  labels = no-labels p.sizes;
}

-- parts that are those of the numbered file make a file
pub IsFile-parts : (p : Dcop) (version : ℕ) (names : List (List ℕ)) (labels : List (List (List ℕ))) → length p.sizes ≤ 1000
    → version ≡ lower_version p.tables → names ≡ numbered_names (length p.sizes) → labels ≡ replicate (length p.sizes) []
    → IsFile (record { version = version; goal = Min; names = names; labels = labels; problem = p })
IsFile-parts p version names labels few is-version is-names is-labels = rw (is-version, is-names, is-labels) (IsFile-numbered p few)
