-- What a text declares has names, and its first fault has small numbers.
use Rattle.std.proofs.Common.{◌≡◌, ℕ, suc, ◌+◌, ◌≤◌, Bool, true, false, not, ◌||◌, ◌&&◌, ◌==◌, List, [], ◌∷◌, ◌++◌, length, All, Option, Some, None, Result, Ok, Err, refl, arith, codes, if◌then◌else◌, count_by, find, nat_lt, nat_le, map, slice_index}
use Rattle.std.proofs.lemmas.List.Elements.{All-nil, All-cons, All-head, All-tail}
use Rattle.std.proofs.lemmas.List.Folds.{list_all-append}
use Rattle.std.proofs.lemmas.List.Sums.{count_by-le-length}
use Rattle.std.specs.List.{list_all, list_any, before_first, after_first}
use Rattle.std.specs.Str.{bytes_eq}
use Rattle.dcop_base.specs.Table.{CostTable, has_repeat, product, greatest}
use Rattle.dcop_base.specs.Faults.{is_bad_size, cell_count, greatest_sum}
use Rattle.dcop_base.specs.NumberWord.{number_of}
use Rattle.dcop_base.specs.Limits.{variable_limit, amount_limit, cost_limit, cell_limit}
use Rattle.problem_text.specs.Bytes.{line_feed}
use Rattle.problem_text.specs.Declarations.{Declared, Outcome, Declares, Ends, Fails, version_alone, with_variable, with_table, unless, is_among}
use Rattle.problem_text.specs.Kinds.{number_of_problem}
use Rattle.problem_text.specs.Lines.{Line, lines, numbered, with_words, has_some, words, content, onto_first}
use Rattle.problem_text.specs.Name.{is_name}
use Rattle.problem_text.specs.Reading.{Parts, Fault, later_line, line_outcome, read_on, lines_read, text_read}
use Rattle.problem_text.specs.Tables.{cells_fault, with_cells, with_scope, named_by, numbers_of, table_line, is_colon, most_names}
use Rattle.problem_text.specs.Variables.{header, goal_line, size_fault, variable, sized, with_values, with_size, var_line, end_line, has_twice}
use Rattle.answer_io.specs.Whole.{unless_after, read_to_last, whole_read}
use Rattle.problem_text.specs.declared.fault.TextKind.{TextKind}
use Rattle.problem_text.specs.declared.fault.TextKind.TheVariants as texts

-- what is declared has names
pub record IsNamed (d : Declared) : Type 0 where
  pub names : list_all is_name d.names ≡ true
  pub labels : list_all (λ ls. list_all is_name ls) d.labels ≡ true

-- what a line declares has names, or the line is refused with a small number
abbrev pub IsKept : Outcome → Type 0
IsKept (Declares d) = IsNamed d
IsKept Ends = Unit {0}
IsKept (Fails kind) = number_of_problem kind ≤ 10

abbrev pub IsLow : Option TextKind → Type 0
IsLow None = Unit {0}
IsLow (Some kind) = number_of_problem kind ≤ 10

pick : (b : Bool) (x y : Outcome) → IsKept x → IsKept y → IsKept (if b then x else y)
pick true x y p q = p
pick false x y p q = q

pick_on : (b : Bool) (x y : Outcome) → IsKept x → (b ≡ false → IsKept y) → IsKept (if b then x else y)
pick_on true x y p q = p
pick_on false x y p q = q refl

low_if : (b : Bool) (x y : Option TextKind) → IsLow x → IsLow y → IsLow (if b then x else y)
low_if true x y p q = p
low_if false x y p q = q

unless_kept : (fault : Option TextKind) (d : Declared) → IsLow fault → IsNamed d → IsKept (unless fault d)
unless_kept None d low named = named
unless_kept (Some kind) d low named = low

both_not : (a b : Bool) → (not a || not b) ≡ false → (a ≡ true) × (b ≡ true)
both_not true true e = (refl, refl)
both_not true false e = absurd cc
both_not false b e = absurd cc

second_not : (a b : Bool) → (a || not b) ≡ false → b ≡ true
second_not a true e = refl
second_not true false e = absurd cc
second_not false false e = absurd cc

list_all-push : {X : Type 0} (f : X → Bool) (xs : List X) (x : X) → list_all f xs ≡ true → f x ≡ true → list_all f (xs ++ x ∷ []) ≡ true
list_all-push f xs x all is = rw (list_all-append f xs (x ∷ []), all, is) refl

named_more : (d : Declared) (name : List ℕ) (values : List (List ℕ)) (size : ℕ) → IsNamed d → is_name name ≡ true → list_all is_name values ≡ true → IsNamed (with_variable d name values size)
named_more d name values size named is are = record {
  names = list_all-push is_name d.names name named.names is;
  labels = list_all-push (λ ls. list_all is_name ls) d.labels values named.labels are;
}

variable_kept : (d : Declared) (name : List ℕ) (values : List (List ℕ)) (size : ℕ) → IsNamed d → is_name name ≡ true → list_all is_name values ≡ true → IsKept (variable d name values size)
variable_kept d name values size named is are =
    unless_kept (size_fault (length d.sizes) size) (with_variable d name values size)
    (low_if (nat_le variable_limit (length d.sizes)) (Some (texts.Problem 10)) _ (omega arith) (low_if (is_bad_size size) (Some (texts.Problem 2)) None (omega arith) tt))
    (named_more d name values size named is are)

sized_kept : (d : Declared) (name : List ℕ) (size : Option ℕ) → IsNamed d → is_name name ≡ true → IsKept (sized d name size)
sized_kept d name None named is = omega arith
sized_kept d name (Some size) named is = variable_kept d name [] size named is refl

var_kept : (d : Declared) (further : List (List ℕ)) → IsNamed d → IsKept (var_line d further)
var_kept d [] named = omega arith
var_kept d (name ∷ []) named = omega arith
var_kept d (name ∷ third ∷ further) named =
    pick (d.version == 2 && bytes_eq third (codes ":")) (with_values d name further) (with_size d name third further)
    (pick_on (not (is_name name) || not (list_all is_name further)) (Fails texts.BadWord) _ (omega arith)
    (λ e. let both = both_not (is_name name) (list_all is_name further) e in
    pick (is_among d.names name || has_twice further) (Fails texts.NameTwice) _ (omega arith) (variable_kept d name further (length further) named both.0 both.1)))
    (pick_on (has_some further || not (is_name name)) (Fails texts.BadWord) _ (omega arith)
    (λ e. pick (is_among d.names name) (Fails texts.NameTwice) _ (omega arith) (sized_kept d name (number_of third) named (second_not (has_some further) (is_name name) e))))

four_low : (a b c d : Bool) → IsLow (if a then Some (texts.Problem 6) else (if b then Some (texts.Problem 7) else (if c then Some (texts.Problem 9) else (if d then Some (texts.Problem 8) else None))))
four_low true b c d = omega arith
four_low false true c d = omega arith
four_low false false true d = omega arith
four_low false false false true = omega arith
four_low false false false false = tt

cells_low : (ts : List CostTable) (t : CostTable) → IsLow (cells_fault ts t)
cells_low ts t =
    four_low (not (length t.cells == product t.sizes)) (list_any (λ c. nat_lt cost_limit c) t.cells)
    (nat_lt cell_limit (cell_count ts + length t.cells)) (nat_lt amount_limit (greatest_sum ts + greatest t.cells))

cells_kept : (d : Declared) (scope : List ℕ) (cells : Option (List ℕ)) → IsNamed d → IsKept (with_cells d scope cells)
cells_kept d scope None named = omega arith
cells_kept d scope (Some cells) named =
    let t : CostTable = record { scope = scope; sizes = map (λ v. slice_index d.sizes v) scope; cells = cells } in
    unless_kept (cells_fault d.tables t) (with_table d t) (cells_low d.tables t) (record { names = named.names; labels = named.labels })

scope_kept : (d : Declared) (scope : Option (List ℕ)) (cells : List (List ℕ)) → IsNamed d → IsKept (with_scope d scope cells)
scope_kept d None cells named = omega arith
scope_kept d (Some scope) cells named = pick (has_repeat scope) (Fails (texts.Problem 5)) _ (omega arith) (cells_kept d scope (numbers_of cells) named)

table_kept : (d : Declared) (further : List (List ℕ)) → IsNamed d → IsKept (table_line d further)
table_kept d further named =
    pick (not (list_any is_colon further)) (Fails texts.BadWord) _ (omega arith)
    (pick (length (before_first is_colon further) == 0 || nat_lt (most_names d.version) (length (before_first is_colon further))) (Fails (texts.Problem 3)) _ (omega arith) (scope_kept d (named_by d.names (before_first is_colon further)) (after_first is_colon further) named))

end_kept : (d : Declared) (further : List (List ℕ)) → IsKept (end_line d further)
end_kept d further = pick (has_some further) (Fails texts.BadWord) _ (omega arith) (pick (length d.sizes == 0) (Fails (texts.Problem 1)) Ends (omega arith) tt)

goal_kept : (second : Bool) (d : Declared) (further : List (List ℕ)) → IsNamed d → IsKept (goal_line second d further)
goal_kept second d [] named = omega arith
goal_kept second d (word ∷ []) named =
    pick (not second) (Fails texts.BadWord) _ (omega arith)
    (pick (bytes_eq word (codes "min")) (Declares _) _ (record { names = named.names; labels = named.labels })
    (pick (bytes_eq word (codes "max")) (Declares _) (Fails texts.BadWord) (record { names = named.names; labels = named.labels }) (omega arith)))
goal_kept second d (word ∷ w ∷ ws) named = omega arith

header_kept : (ws : List (List ℕ)) → IsKept (header ws)
header_kept [] = omega arith
header_kept (first ∷ []) = omega arith
header_kept (first ∷ second ∷ []) =
    pick (not (bytes_eq first (codes "dcop"))) (Fails texts.BadHeader) _ (omega arith)
    (pick (bytes_eq second (codes "1")) (Declares (version_alone 1)) _ (record { names = refl; labels = refl })
    (pick (bytes_eq second (codes "2")) (Declares (version_alone 2)) (Fails texts.BadHeader) (record { names = refl; labels = refl }) (omega arith)))
header_kept (first ∷ second ∷ w ∷ ws) = omega arith

later_kept : (second : Bool) (d : Declared) (ws : List (List ℕ)) → IsNamed d → IsKept (later_line second d ws)
later_kept second d [] named = omega arith
later_kept second d (first ∷ further) named =
    pick (bytes_eq first (codes "var")) (var_line d further) _ (var_kept d further named)
    (pick (bytes_eq first (codes "table")) (table_line d further) _ (table_kept d further named)
    (pick (bytes_eq first (codes "end")) (end_line d further) _ (end_kept d further)
    (pick (d.version == 2 && bytes_eq first (codes "goal")) (goal_line second d further) (Fails texts.BadWord) (goal_kept second d further named) (omega arith))))

outcome_kept : (before : ℕ) (d : Declared) (ws : List (List ℕ)) → IsNamed d → IsKept (line_outcome before d ws)
outcome_kept before d ws named = pick (before == 0) (header ws) (later_line (before == 1) d ws) (header_kept ws) (later_kept (before == 1) d ws named)

-- a fault in one of the first `most` lines
pub record IsTold (most : ℕ) (fault : Fault) : Type 0 where
  pub line : fault.line ≤ most
  pub problem : number_of_problem fault.kind ≤ 10

-- what a text is read as has names, or is a fault in one of the first `most` lines
abbrev pub IsReadSo : ℕ → Result Parts Fault → Type 0
IsReadSo most (Ok parts) = IsNamed parts.declared
IsReadSo most (Err fault) = IsTold most fault

abbrev pub IsWholeSo : ℕ → Result Declared Fault → Type 0
IsWholeSo most (Ok d) = IsNamed d
IsWholeSo most (Err fault) = IsTold most fault

on_so : (most : ℕ) (line : Line) (d : Declared) (outcome : Outcome) (later : Declared → Result Parts Fault) → line.number ≤ most → IsNamed d → IsKept outcome
    → ((more : Declared) → IsNamed more → IsReadSo most (later more)) → IsReadSo most (read_on line d outcome later)
on_so most line d (Declares more) later le named kept on = on more kept
on_so most line d Ends later le named kept on = named
on_so most line d (Fails kind) later le named kept on = record { line = le; problem = kept }

lines_so : (most over before : ℕ) (d : Declared) (ls : List Line) → over ≤ most → All (λ l. l.number ≤ most) ls → IsNamed d → IsReadSo most (lines_read over before d ls)
lines_so most over before d [] le all named = record { line = le; problem = omega arith }
lines_so most over before d (l ∷ ls) le all named =
    on_so most l d (line_outcome before d l.words) (λ more. lines_read over (before + 1) more ls) (All-head (λ l. l.number ≤ most) l ls all) named (outcome_kept before d l.words named)
    (λ more still. lines_so most over (before + 1) more ls le (All-tail (λ l. l.number ≤ most) l ls all) still)

keep_all : (P : Line → Type 0) (b : Bool) (x : Line) (xs : List Line) → P x → All P xs → All P (if b then x ∷ xs else xs)
keep_all P true x xs p all = All-cons P x xs p all
keep_all P false x xs p all = all

numbers_so : (most number used : ℕ) (ls : List (List ℕ)) → number + length ls ≤ most + 1 → All (λ l. l.number ≤ most) (with_words (numbered number used ls))
numbers_so most number used [] le = All-nil (λ l. l.number ≤ most)
numbers_so most number used (l ∷ ls) le =
    keep_all (λ l. l.number ≤ most) (has_some (words (content l))) (record { number = number; words = words (content l); used = used + length l }) (with_words (numbered (number + 1) (used + length l) ls))
    (omega (arith, le)) (numbers_so most (number + 1) (used + length l) ls (omega (arith, le)))

onto_few : (b : ℕ) (pieces : List (List ℕ)) (n : ℕ) → length pieces ≤ n → length (onto_first b pieces) ≤ suc n
onto_few b [] n le = omega arith
onto_few b (p ∷ ps) n le = omega (arith, le)

few_if : (b : Bool) (x y : List (List ℕ)) (n : ℕ) → length x ≤ n → length y ≤ n → length (if b then x else y) ≤ n
few_if true x y n p q = p
few_if false x y n p q = q

lines_few : (bytes : List ℕ) → length (lines bytes) ≤ length bytes
lines_few [] = omega arith
lines_few (b ∷ bs) =
    let few = lines_few bs in
    few_if (b == line_feed) ((b ∷ []) ∷ lines bs) (onto_first b (lines bs)) (suc (length bs)) (omega (arith, few)) (onto_few b (lines bs) (length bs) few)

text_so : (bytes : List ℕ) → IsReadSo (1 + length bytes) (text_read bytes)
text_so bytes =
    let feeds = count_by-le-length (λ b. b == line_feed) bytes in
    let few = lines_few bytes in
    lines_so (1 + length bytes) (1 + count_by (λ b. b == line_feed) bytes) 0 (version_alone 1) (with_words (numbered 1 0 (lines bytes))) (omega (arith, feeds))
    (numbers_so (1 + length bytes) 1 0 (lines bytes) (omega (arith, few))) (record { names = refl; labels = refl })

found_so : (most : ℕ) (d : Declared) (b : Bool) (l : Line) (rest : Option Line) → l.number ≤ most → IsWholeSo most (unless_after d rest) → IsWholeSo most (unless_after d (if b then Some l else rest))
found_so most d true l rest le later = record { line = le; problem = omega arith }
found_so most d false l rest le later = later

after_so : (most : ℕ) (d : Declared) (f : Line → Bool) (ls : List Line) → All (λ l. l.number ≤ most) ls → IsNamed d → IsWholeSo most (unless_after d (find f ls))
after_so most d f [] all named = named
after_so most d f (l ∷ ls) all named =
    found_so most d (f l) l (find f ls) (All-head (λ l. l.number ≤ most) l ls all) (after_so most d f ls (All-tail (λ l. l.number ≤ most) l ls all) named)

last_so : (bytes : List ℕ) (read : Result Parts Fault) → IsReadSo (1 + length bytes) read → IsWholeSo (1 + length bytes) (read_to_last bytes read)
last_so bytes (Ok parts) named =
    let few = lines_few bytes in
    after_so (1 + length bytes) parts.declared (λ line. nat_lt parts.used line.used) (with_words (numbered 1 0 (lines bytes))) (numbers_so (1 + length bytes) 1 0 (lines bytes) (omega (arith, few))) named
last_so bytes (Err fault) told = told

-- what a whole input declares has names, and its first fault is in one of its lines
pub read_so : (bytes : List ℕ) → IsWholeSo (1 + length bytes) (whole_read bytes)
read_so bytes = last_so bytes (text_read bytes) (text_so bytes)
