-- The lines of tables of a canonical text, as they are read.
use Rattle.std.proofs.Common.{◌≡◌, ℕ, ◌+◌, ◌^◌, ◌<◌, ◌≤◌, zero, suc, Bool, true, false, cond, List, [], ◌∷◌, ◌++◌, length, map, get_or, Some, None, position, nat_eq, nat_lt, nat_le, ◌&&◌, refl, sym, ap, ◌∙◌, subst, arith, append_assoc}
use Rattle.std.specs.List.{list_all, list_any, position_or_len, before_first, after_first, All, IsDistinct}
use Rattle.std.specs.Prelude.{codes}
use Rattle.std.specs.Fmt.{decimal}
use Rattle.std.specs.Str.{bytes_eq}
use Rattle.std.specs.Cmp.Lexicographic.{nat_list_eq_equiv}
use Rattle.std.proofs.lemmas.List.{append-nil, length-map}
use Rattle.std.proofs.lemmas.List.Folds.{list_any-append, list_any_none}
use Rattle.std.proofs.lemmas.List.Elements.{All-head, All-tail}
use Rattle.std.proofs.lemmas.List.Sums.{position_or_len_is}
use Rattle.std.proofs.lemmas.Map.Keys.{apart_from_distinct}
use Rattle.std.proofs.lemmas.Bool.Decides.{nat_tests}
use Rattle.std.proofs.lemmas.Bool.{and_parts, or_parts, le-ltb, eq-eqb, ne_eqb}
use Rattle.dcop_base.specs.Table.{CostTable, product, greatest}
use Rattle.dcop_base.specs.Faults.{next_fault, tables_fault, cell_count, greatest_sum}
use Rattle.dcop_base.proofs.FaultLaws.{IsNext, next-none}
use Rattle.problem_text.specs.Name.{is_name, is_name_start, is_name_byte}
use Rattle.problem_text.specs.File.{has_wide_table}
use Rattle.problem_text.specs.Canonical.{table_words}
use Rattle.problem_text.specs.Declarations.{Declared, Declares, with_table}
use Rattle.problem_text.specs.Tables.{is_colon, named_by}
use Rattle.problem_text.specs.Reading.{later_line}
use Rattle.problem_text.proofs.DecimalLaws.{numbers-decimals}
use Rattle.problem_text.proofs.DraftLaws.{first-none}
use Rattle.problem_text.proofs.WalkLaws.{Walks}

-- what stands around the first `:`
pub before-colon : (xs : List (List ℕ)) (ys : List (List ℕ)) → list_any is_colon xs ≡ false → before_first is_colon (xs ++ (codes ":" ∷ ys)) ≡ xs
before-colon [] ys h = refl
before-colon (x ∷ xs) ys h =
    let parts = or_parts (is_colon x) (list_any is_colon xs) h in
    let e : 1 + position_or_len is_colon (xs ++ (codes ":" ∷ ys)) ≡ suc (position_or_len is_colon (xs ++ (codes ":" ∷ ys))) = omega arith in
    rw (parts.0, e, before-colon xs ys parts.1) refl

pub after-colon : (xs : List (List ℕ)) (ys : List (List ℕ)) → list_any is_colon xs ≡ false → after_first is_colon (xs ++ (codes ":" ∷ ys)) ≡ ys
after-colon [] ys h = refl
after-colon (x ∷ xs) ys h =
    let parts = or_parts (is_colon x) (list_any is_colon xs) h in
    let e : (1 + position_or_len is_colon (xs ++ (codes ":" ∷ ys))) + 1 ≡ suc (position_or_len is_colon (xs ++ (codes ":" ∷ ys)) + 1) = omega arith in
    rw (parts.0, e) (after-colon xs ys parts.1)

pub any-colon : (xs : List (List ℕ)) (ys : List (List ℕ)) → list_any is_colon xs ≡ false → list_any is_colon (xs ++ (codes ":" ∷ ys)) ≡ true
any-colon xs ys h = rw (list_any-append is_colon xs (codes ":" ∷ ys), h) refl

name-start : (b : ℕ) (bs : List ℕ) → is_name (b ∷ bs) ≡ true → nat_eq b 58 ≡ false
name-start b bs h =
    let parts = and_parts (is_name_start b && list_all is_name_byte bs) (nat_le (length (b ∷ bs)) 32) h in
    let start = and_parts (is_name_start b) (list_all is_name_byte bs) parts.0 in
    other b start.0
  where
    other : (b : ℕ) → is_name_start b ≡ true → nat_eq b 58 ≡ false
    other b h = grind (arith, nat_tests)

-- a name is no `:`
pub name-colon : (word : List ℕ) → is_name word ≡ true → is_colon word ≡ false
name-colon [] h = refl
name-colon (b ∷ bs) h = rw (name-start b bs h) refl

pub name-at : (names : List (List ℕ)) (v : ℕ) → list_all is_name names ≡ true → v < length names → is_name (get_or names v []) ≡ true
name-at [] v all h = absurd (omega arith)
name-at (n ∷ ns) zero all h = (and_parts (is_name n) (list_all is_name ns) all).0
name-at (n ∷ ns) (suc v) all h = name-at ns v (and_parts (is_name n) (list_all is_name ns) all).1 (omega arith)

pub scope-names : (names : List (List ℕ)) (scope : List ℕ) → list_all is_name names ≡ true → All (λ v. v < length names) scope → list_any is_colon (map (λ v. get_or names v []) scope) ≡ false
scope-names names [] all within = refl
scope-names names (v ∷ vs) all within =
    rw (name-colon (get_or names v []) (name-at names v all (All-head (λ v. v < length names) v vs within)), scope-names names vs all (All-tail (λ v. v < length names) v vs within)) refl

place-step : (p n : ℕ) → p < n → cond (nat_lt p n) (Some p) None ≡ Some p
place-step p n h = let below : nat_lt p n ≡ true = grind (arith, nat_tests) in rw below refl

-- a name is found at its place
pub own-place : (names : List (List ℕ)) (v : ℕ) → IsDistinct bytes_eq names → v < length names → position (bytes_eq (get_or names v [])) names ≡ Some v
own-place names v apart h =
    let own = get_or names v [] in
    let place : position_or_len (bytes_eq own) names ≡ v = position_or_len_is (bytes_eq own) names v [] (omega arith) (λ k lt. nat_list_eq_equiv.symm own (get_or names k []) ∙ apart_from_distinct bytes_eq names k v [] apart lt h) (λ lt. nat_list_eq_equiv.refl own) in
    rw place (place-step v (length names) h)

-- the names of a scope's variables name them
pub scope-named : (names : List (List ℕ)) (scope : List ℕ) → IsDistinct bytes_eq names → All (λ v. v < length names) scope → named_by names (map (λ v. get_or names v []) scope) ≡ Some scope
scope-named names [] apart within = refl
scope-named names (v ∷ vs) apart within =
    rw (own-place names v apart (All-head (λ v. v < length names) v vs within), scope-named names vs apart (All-tail (λ v. v < length names) v vs within)) refl

most-step : (t : Bool) (n : ℕ) → n ≤ 4 → (t ≡ true → n ≤ 2) → nat_lt (cond t 2 4) n ≡ false
most-step true n few two = le-ltb 2 n (two refl)
most-step false n few two = le-ltb 4 n few

-- the line of a further table
pub table-line-declares : (s : Bool) (d : Declared) (t : CostTable) → IsDistinct bytes_eq d.names → list_all is_name d.names ≡ true → length d.names ≡ length d.sizes → IsNext d.sizes d.tables t → length t.cells ≡ product t.sizes → (nat_eq d.version 1 ≡ true → length t.scope ≤ 2) → later_line s d (table_words d.names t) ≡ Declares (with_table d t)
table-line-declares s d t apart named many next counted two =
    let xs = map (λ v. get_or d.names v []) t.scope in
    let ys = map decimal t.cells in
    let within : All (λ v. v < length d.names) t.scope = subst (λ (n : ℕ). All (λ v. v < n) t.scope) (sym many) next.within in
    let plain = scope-names d.names t.scope named within in
    let long : length xs ≡ length t.scope = length-map t.scope (λ v. get_or d.names v []) in
    let some : nat_eq (length t.scope) 0 ≡ false = ne_eqb (length t.scope) 0 (λ e. absurd (omega (arith, e, next.some))) in
    let few = most-step (nat_eq d.version 1) (length t.scope) next.few two in
    let found = scope-named d.names t.scope apart within in
    let cheap = λ (k v : ℕ) (h : k < length t.cells). let c : get_or t.cells k v ≤ 1125899906842624 = next.cheap k v h in let r : get_or t.cells k v < 10 ^ 19 = omega arith in r in
    let numbers = numbers-decimals t.cells cheap in
    let same : nat_eq (length t.cells) (product (map (λ v. get_or d.sizes v 0) t.scope)) ≡ true = eq-eqb _ _ (counted ∙ ap product next.sized) in
    let none = list_any_none (λ c. nat_lt 1125899906842624 c) t.cells (λ k v h. le-ltb 1125899906842624 (get_or t.cells k v) (next.cheap k v h)) in
    let cells = le-ltb 4194304 (cell_count d.tables + length t.cells) next.cells in
    let sums = le-ltb 4611686018427387904 (greatest_sum d.tables + greatest t.cells) next.sums in
    rw (any-colon xs ys plain, before-colon xs ys plain, after-colon xs ys plain, long, some, few, found, next.apart, numbers, same, none, cells, sums, ← next.sized) refl

-- the lines of tables, behind others
pub walk-tables : (d : Declared) (ts : List CostTable) → IsDistinct bytes_eq d.names → list_all is_name d.names ≡ true → length d.names ≡ length d.sizes → tables_fault d.sizes d.tables ts ≡ None → All (λ t. length t.cells ≡ product t.sizes) ts → (nat_eq d.version 1 ≡ true → has_wide_table ts ≡ false) → Walks d (map (table_words d.names) ts) (record d { tables = d.tables ++ ts })
walk-tables d [] apart named many none counted two = rw (append-nil d.tables) refl
walk-tables d (t ∷ ts) apart named many none counted two =
    let parts = first-none (next_fault d.sizes d.tables t) (tables_fault d.sizes (d.tables ++ (t ∷ [])) ts) none in
    let next = next-none d.sizes d.tables t parts.0 in
    let narrow = λ (h : nat_eq d.version 1 ≡ true). let n = or_parts (nat_lt 2 (length t.scope)) (has_wide_table ts) (two h) in let r : length t.scope ≤ 2 = grind (arith, nat_tests, n.0) in r in
    let later = λ (h : nat_eq d.version 1 ≡ true). (or_parts (nat_lt 2 (length t.scope)) (has_wide_table ts) (two h)).1 in
    let rest = walk-tables (with_table d t) ts apart named many parts.1 (All-tail (λ (t : CostTable). length t.cells ≡ product t.sizes) t ts counted) later in
    let together : record d { tables = (d.tables ++ (t ∷ [])) ++ ts } ≡ record d { tables = d.tables ++ (t ∷ ts) } = rw (append_assoc d.tables (t ∷ []) ts) refl in
    (with_table d t, (λ s. table-line-declares s d t apart named many next (All-head (λ (t : CostTable). length t.cells ≡ product t.sizes) t ts counted) narrow), subst (λ (last : Declared). Walks (with_table d t) (map (table_words d.names) ts) last) together rest)
