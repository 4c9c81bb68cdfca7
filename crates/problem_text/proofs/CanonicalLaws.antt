-- The canonical text of a file is read as that file.
use Rattle.std.proofs.Common.{◌≡◌, ℕ, ◌+◌, ◌^◌, ◌<◌, ◌≤◌, Bool, true, false, not, cond, List, [], ◌∷◌, ◌++◌, length, map, get_or, Option, Some, None, Ok, nat_eq, nat_lt, nat_le, ◌||◌, ◌&&◌, ◌⊎◌, inl, inr, refl, sym, ap, ◌∙◌, subst, arith, length-append, append_assoc, position, lit<}
use Rattle.std.specs.List.{list_all, list_any, flat_map, All, AllZip}
use Rattle.std.specs.Prelude.{codes, count_by}
use Rattle.std.specs.Fmt.{decimal}
use Rattle.std.proofs.lemmas.List.Folds.{list_all-append, list_any_none}
use Rattle.std.proofs.lemmas.List.Elements.{All-head, All-tail}
use Rattle.std.proofs.lemmas.Bool.Decides.{nat_tests}
use Rattle.std.proofs.lemmas.Bool.{and_parts, not-false, eqb-true, ne_eqb, eq-eqb, false≢true}
use Rattle.dcop_base.specs.Table.{CostTable, product, has_repeat, IsTable}
use Rattle.dcop_base.specs.Whole.{IsProblem, IsTableOf}
use Rattle.dcop_base.specs.Faults.{is_bad_size, sizes_fault, tables_fault}
use Rattle.dcop_base.specs.declared.problem.ProblemFault.{ProblemFault}
use Rattle.dcop_base.specs.declared.problem.ProblemFault.TheVariants.{NoVariables, TooManyVariables}
use Rattle.dcop_base.specs.declared.table.TableFault.TheVariants.{Repeat, Sizes, CellCount, CellTooLarge}
use Rattle.dcop_base.proofs.TableLaws.{four-fail}
use Rattle.dcop_base.proofs.ProblemLaws.{problem_fault-whole}
use Rattle.problem_text.specs.declared.file.Goal.{Goal}
use Rattle.problem_text.specs.declared.file.Goal.TheVariants.{Min, Max}
use Rattle.problem_text.specs.Name.{is_name, is_name_start, is_name_byte}
use Rattle.problem_text.specs.File.{TextFile, IsFile, AreLabels, has_wide_table, has_labels, is_max}
use Rattle.problem_text.specs.Canonical.{line, goal_lines, variable_lines, value_words, table_words, canonical_lines, canonical}
use Rattle.problem_text.specs.Declarations.{Declared, Ends, version_alone}
use Rattle.problem_text.specs.Reading.{later_line, lines_read, text_read}
use Rattle.problem_text.specs.Steps.{declared_by}
use Rattle.problem_text.proofs.DraftLaws.{first-none}
use Rattle.problem_text.proofs.RoundTripLaws.{is_plain, is_word, is_line, worded, lines-of-words}
use Rattle.problem_text.proofs.DecimalLaws.{decimal-word}
use Rattle.problem_text.proofs.WalkLaws.{Walks, Walks-append, walk-read}
use Rattle.problem_text.proofs.FileLaws.{header-version, walk-variables}
use Rattle.problem_text.proofs.TableTextLaws.{walk-tables, name-at}

byte-plain : (b : ℕ) → is_name_byte b ≡ true → is_plain b ≡ true
byte-plain b h = grind (arith, nat_tests)

start-plain : (b : ℕ) → is_name_start b ≡ true → is_plain b ≡ true
start-plain b h = grind (arith, nat_tests)

bytes-plain : (bs : List ℕ) → list_all is_name_byte bs ≡ true → list_all is_plain bs ≡ true
bytes-plain [] h = refl
bytes-plain (b ∷ bs) h =
    let parts = and_parts (is_name_byte b) (list_all is_name_byte bs) h in
    rw (byte-plain b parts.0, bytes-plain bs parts.1) refl

-- a name is a plain word
pub name-word : (word : List ℕ) → is_name word ≡ true → is_word word ≡ true
name-word [] h = h
name-word (b ∷ bs) h =
    let parts = and_parts (is_name_start b && list_all is_name_byte bs) (nat_le (length (b ∷ bs)) 32) h in
    let bytes = and_parts (is_name_start b) (list_all is_name_byte bs) parts.0 in
    rw (start-plain b bytes.0, bytes-plain bs bytes.1) refl

names-words : (ws : List (List ℕ)) → list_all is_name ws ≡ true → list_all is_word ws ≡ true
names-words [] h = refl
names-words (w ∷ ws) h =
    let parts = and_parts (is_name w) (list_all is_name ws) h in
    rw (name-word w parts.0, names-words ws parts.1) refl

values-words : (size : ℕ) (labels : List (List ℕ)) → size < 2 ^ 64 → list_all is_name labels ≡ true → list_all is_word (value_words size labels) ≡ true
values-words size [] h names = rw (decimal-word size h) refl
values-words size (l ∷ ls) h names = names-words (l ∷ ls) names

variables-plain : (names : List (List ℕ)) (sizes : List ℕ) (labels : List (List (List ℕ))) → list_all is_name names ≡ true → All (λ s. s < 2 ^ 64) sizes → AllZip AreLabels sizes labels → list_all is_line (variable_lines names sizes labels) ≡ true
variables-plain [] sizes labels named small fit = refl
variables-plain (n ∷ ns) [] labels named small fit = refl
variables-plain (n ∷ ns) (s ∷ ss) [] named small fit = refl
variables-plain (n ∷ ns) (s ∷ ss) (l ∷ ls) named small fit =
    let parts = and_parts (is_name n) (list_all is_name ns) named in
    rw (name-word n parts.0, values-words s l (All-head (λ s. s < 2 ^ 64) s ss small) fit.0.names, variables-plain ns ss ls parts.1 (All-tail (λ s. s < 2 ^ 64) s ss small) fit.1) refl

pub scope-words : (names : List (List ℕ)) (scope : List ℕ) → list_all is_name names ≡ true → All (λ v. v < length names) scope → list_all is_word (map (λ v. get_or names v []) scope) ≡ true
scope-words names [] named within = refl
scope-words names (v ∷ vs) named within =
    rw (name-word (get_or names v []) (name-at names v named (All-head (λ v. v < length names) v vs within)), scope-words names vs named (All-tail (λ v. v < length names) v vs within)) refl

pub cells-words : (cells : List ℕ) → All (λ c. c < 2 ^ 64) cells → list_all is_word (map decimal cells) ≡ true
cells-words [] small = refl
cells-words (c ∷ cs) small = rw (decimal-word c (All-head (λ c. c < 2 ^ 64) c cs small), cells-words cs (All-tail (λ c. c < 2 ^ 64) c cs small)) refl

table-plain : (names : List (List ℕ)) (t : CostTable) → list_all is_name names ≡ true → All (λ v. v < length names) t.scope → All (λ c. c < 2 ^ 64) t.cells → is_line (table_words names t) ≡ true
table-plain names t named within small =
    rw (list_all-append is_word (map (λ v. get_or names v []) t.scope) (codes ":" ∷ map decimal t.cells), scope-words names t.scope named within, cells-words t.cells small) refl

tables-plain : (names : List (List ℕ)) (sizes : List ℕ) (ts : List CostTable) → list_all is_name names ≡ true → length names ≡ length sizes → All (IsTableOf sizes) ts → list_all is_line (map (table_words names) ts) ≡ true
tables-plain names sizes [] named many all = refl
tables-plain names sizes (t ∷ ts) named many all =
    let own = All-head (IsTableOf sizes) t ts all in
    let within = subst (λ (n : ℕ). All (λ v. v < n) t.scope) (sym many) own.within in
    let small = λ (k v : ℕ) (h : k < length t.cells). let c : get_or t.cells k v ≤ 1125899906842624 = own.cheap k v h in let r : get_or t.cells k v < 2 ^ 64 = omega arith in r in
    rw (table-plain names t named within small, tables-plain names sizes ts named many (All-tail (IsTableOf sizes) t ts all)) refl

-- what the lines before the variables declare
abbrev opened : ℕ → Goal → Declared
opened version goal = record { version = version; goal = goal; names = []; labels = []; sizes = []; tables = [] }

two-late : (a b : Bool) (x y : ProblemFault) (o : Option ProblemFault) → cond a (Some x) (cond b (Some y) o) ≡ None → o ≡ None
two-late true b x y o e = absurd (cc e)
two-late false true x y o e = absurd (cc e)
two-late false false x y o e = e

whole-counted : (t : CostTable) → IsTable t → length t.cells ≡ product t.sizes
whole-counted t whole =
    let tests = four-fail (has_repeat t.scope) (not (nat_eq (length t.sizes) (length t.scope)) || list_any (λ s. nat_eq s 0) t.sizes) (not (nat_eq (length t.cells) (product t.sizes))) (list_any (λ c. nat_lt 4611686018427387904 c) t.cells) Repeat Sizes CellCount CellTooLarge None whole in
    eqb-true (length t.cells) (product t.sizes) (not-false (nat_eq (length t.cells) (product t.sizes)) tests.2)

wide-no : (w m l : Bool) (v : ℕ) → (w || m || l ≡ true → v ≡ 2) → nat_eq v 1 ≡ true → w ≡ false
wide-no false m l v f h = refl
wide-no true m l v f h = let one = eqb-true v 1 h in let two = f refl in absurd (omega (arith, one, two))

labels-two : (w m : Bool) (v : ℕ) → (w || m || true ≡ true → v ≡ 2) → v ≡ 2
labels-two true m v f = f refl
labels-two false true v f = f refl
labels-two false false v f = f refl

goal-two : (w l : Bool) (v : ℕ) → (w || true || l ≡ true → v ≡ 2) → v ≡ 2
goal-two true l v f = f refl
goal-two false l v f = f refl

-- the variables and the tables of a file
body-walks : (f : TextFile) → IsFile f → IsProblem f.problem → Walks (opened f.version f.goal) (variable_lines f.names f.problem.sizes f.labels ++ map (table_words f.names) f.problem.tables) (declared_by f)
body-walks f file p =
    let good : list_any is_bad_size f.problem.sizes ≡ false = list_any_none is_bad_size f.problem.sizes (λ k d h. let s = p.sizes k d h in let r : is_bad_size (get_or f.problem.sizes k d) ≡ false = grind (arith, nat_tests, s.0, s.1) in r) in
    let few : 0 + length f.problem.sizes ≤ 1000 = omega (arith, p.few) in
    let labels = λ (h : has_labels f.labels ≡ true). labels-two (has_wide_table f.problem.tables) (is_max f.goal) f.version (rw h at file.second) in
    let first = walk-variables (opened f.version f.goal) f.names f.problem.sizes f.labels file.distinct file.names file.named file.labels few good labels in
    let late = two-late (nat_eq (length f.problem.sizes) 0) (nat_lt 1000 (length f.problem.sizes)) NoVariables TooManyVariables _ (problem_fault-whole f.problem p) in
    let none = (first-none (sizes_fault (position is_bad_size f.problem.sizes)) (tables_fault f.problem.sizes [] f.problem.tables) late).1 in
    let counted = λ (k : ℕ) (t : CostTable) (h : k < length f.problem.tables). whole-counted (get_or f.problem.tables k t) ((p.tables k t h).whole) in
    let middle : Declared = record { version = f.version; goal = f.goal; names = f.names; labels = f.labels; sizes = f.problem.sizes; tables = [] } in
    let second = walk-tables middle f.problem.tables file.distinct file.names file.named none counted (λ h. wide-no (has_wide_table f.problem.tables) (is_max f.goal) (has_labels f.labels) f.version file.second h) in
    Walks-append (opened f.version f.goal) middle (declared_by f) _ _ first second

body-plain : (f : TextFile) → IsFile f → IsProblem f.problem → list_all is_line ((variable_lines f.names f.problem.sizes f.labels ++ map (table_words f.names) f.problem.tables) ++ ((codes "end" ∷ []) ∷ [])) ≡ true
body-plain f file p =
    let vars = variable_lines f.names f.problem.sizes f.labels in
    let tabs = map (table_words f.names) f.problem.tables in
    let small = λ (k d : ℕ) (h : k < length f.problem.sizes). let s = p.sizes k d h in let r : get_or f.problem.sizes k d < 2 ^ 64 = omega (arith, s.1) in r in
    rw (list_all-append is_line (vars ++ tabs) ((codes "end" ∷ []) ∷ []), list_all-append is_line vars tabs, variables-plain f.names f.problem.sizes f.labels file.names small file.labels, tables-plain f.names f.problem.sizes f.problem.tables file.names file.named p.tables) refl

pub end-line : (f : TextFile) → IsProblem f.problem → (s : Bool) → later_line s (declared_by f) (codes "end" ∷ []) ≡ Ends
end-line f p s =
    let some : nat_eq (length f.problem.sizes) 0 ≡ false = ne_eqb (length f.problem.sizes) 0 (λ e. absurd (omega (arith, e, p.some))) in
    rw some refl

-- a text that opens so, declares the rest line by line, and ends
opening-read : (over version : ℕ) (goal : Goal) (body : List (List (List ℕ))) (last : Declared) → (version ≡ 1) ⊎ (version ≡ 2) → (is_max goal ≡ true → version ≡ 2) → Walks (opened version goal) body last → ((s : Bool) → later_line s last (codes "end" ∷ []) ≡ Ends) → lines_read over 0 (version_alone 1) (worded 1 0 ((codes "dcop" ∷ decimal version ∷ []) ∷ (goal_lines goal ++ (body ++ ((codes "end" ∷ []) ∷ []))))) ≡ Ok (record { declared = last; used = length (flat_map line ((codes "dcop" ∷ decimal version ∷ []) ∷ (goal_lines goal ++ (body ++ ((codes "end" ∷ []) ∷ []))))) })
opening-read over version Min body last known two walk ends =
    let head = line (codes "dcop" ∷ decimal version ∷ []) in
    let rest = flat_map line (body ++ ((codes "end" ∷ []) ∷ [])) in
    let many : (0 + length head) + length rest ≡ length (head ++ rest) = omega (arith, length-append head rest) in
    rw (header-version version known) (walk-read over 1 2 (0 + length head) (version_alone version) last body (codes "end" ∷ []) (lit< tt) walk ends ∙ ap (λ n. Ok (record { declared = last; used = n })) many)
opening-read over version Max body last known two walk ends =
    let head = line (codes "dcop" ∷ decimal version ∷ []) in
    let goal = line (codes "goal" ∷ codes "max" ∷ []) in
    let rest = flat_map line (body ++ ((codes "end" ∷ []) ∷ [])) in
    let many : ((0 + length head) + length goal) + length rest ≡ length (head ++ (goal ++ rest)) = omega (arith, length-append head (goal ++ rest), length-append goal rest) in
    rw (header-version version known, eq-eqb version 2 (two refl)) (walk-read over 2 3 ((0 + length head) + length goal) (opened version Max) last body (codes "end" ∷ []) (lit< tt) walk ends ∙ ap (λ n. Ok (record { declared = last; used = n })) many)

goal-plain : (goal : Goal) → list_all is_line (goal_lines goal) ≡ true
goal-plain Min = refl
goal-plain Max = refl

version-small : (version : ℕ) → (version ≡ 1) ⊎ (version ≡ 2) → version < 2 ^ 64
version-small version (inl e) = omega (arith, e)
version-small version (inr e) = omega (arith, e)

max-two : (goal : Goal) (w l : Bool) (v : ℕ) → (w || is_max goal || l ≡ true → v ≡ 2) → is_max goal ≡ true → v ≡ 2
max-two Min w l v f h = absurd (false≢true h)
max-two Max w l v f h = goal-two w l v f

-- the canonical text of a file is read as that file, with all of its bytes used
pub canonical-read : (f : TextFile) → IsFile f → IsProblem f.problem → text_read (canonical f) ≡ Ok (record { declared = declared_by f; used = length (canonical f) })
canonical-read f file p =
    let head : List (List ℕ) = codes "dcop" ∷ decimal f.version ∷ [] in
    let vars = variable_lines f.names f.problem.sizes f.labels in
    let tabs = map (table_words f.names) f.problem.tables in
    let end : List (List (List ℕ)) = (codes "end" ∷ []) ∷ [] in
    let ls : List (List (List ℕ)) = head ∷ (goal_lines f.goal ++ ((vars ++ tabs) ++ end)) in
    let same : canonical_lines f ≡ ls = ap (λ wss. head ∷ wss) (ap (λ wss. wss ++ end) (append_assoc (goal_lines f.goal) vars tabs) ∙ append_assoc (goal_lines f.goal) (vars ++ tabs) end) in
    let plain : list_all is_line ls ≡ true = rw (decimal-word f.version (version-small f.version file.version), list_all-append is_line (goal_lines f.goal) ((vars ++ tabs) ++ end), goal-plain f.goal, body-plain f file p) refl in
    let over = 1 + count_by (λ b. nat_eq b 10) (flat_map line ls) in
    let read = opening-read over f.version f.goal (vars ++ tabs) (declared_by f) file.version (max-two f.goal (has_wide_table f.problem.tables) (has_labels f.labels) f.version file.second) (body-walks f file p) (end-line f p) in
    let whole : text_read (flat_map line ls) ≡ Ok (record { declared = declared_by f; used = length (flat_map line ls) }) = rw (lines-of-words 1 0 ls plain) read in
    subst (λ (wss : List (List (List ℕ))). text_read (flat_map line wss) ≡ Ok (record { declared = declared_by f; used = length (flat_map line wss) })) (sym same) whole
