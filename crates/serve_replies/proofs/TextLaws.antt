-- Texts of DPOP's answers are short.
use Rattle.std.proofs.Common.{◌≡◌, ℕ, zero, suc, ◌+◌, ◌*◌, ◌≤◌, Bool, true, false, ◌&&◌, List, [], ◌∷◌, ◌++◌, length, All, refl, ap, ◌∙◌, arith, length-append, codes, if◌then◌else◌, nat_le, nat_eq}
use Rattle.std.proofs.lemmas.Bool.{leb-true}
use Rattle.std.proofs.lemmas.Fmt.{length-decimal-le}
use Rattle.std.proofs.lemmas.Grind.{flat_map-append}
use Rattle.std.proofs.lemmas.List.Elements.{All-nil, All-cons, All-head, All-tail}
use Rattle.std.specs.Fmt.{decimal}
use Rattle.std.specs.List.{list_all, flat_map, join_with_byte, slice_index_or}
use Rattle.dcop_base.specs.Limits.{name_limit, count_limit, joined_limit, sent_limit}
use Rattle.dcop_base.specs.Table.{AreWithin}
use Rattle.problem_text.specs.Bytes.{space, line_feed}
use Rattle.problem_text.specs.Canonical.{line}
use Rattle.problem_text.specs.Kinds.{problem_kind}
use Rattle.problem_text.specs.Name.{is_name, is_name_start, is_name_byte}
use Rattle.certificate_text.specs.ReportText.{head_lines, bound_lines, value_word, value_words, value_lines}
use Rattle.solve_report.specs.Refusal.{text_refusal, wide_refusal, total_refusal}
use Rattle.problem_text.specs.declared.file.Goal.{Goal}
use Rattle.problem_text.specs.declared.file.Goal.TheVariants.{Min, Max}
use Rattle.certificate_text.specs.declared.report.Report.{Report}
use Rattle.certificate_text.specs.declared.report.Ending.TheVariants.{Solved}
use Rattle.certificate_text.specs.declared.report.Method.TheVariants.{Dpop}

-- how many bytes words have, each with one byte after it, and one more
abbrev width : List (List ℕ) → ℕ
width [] = 1
width (w ∷ ws) = length w + 1 + width ws

join_width : (ws : List (List ℕ)) → length (join_with_byte space ws) + 1 ≤ width ws
join_width [] = omega arith
join_width (w ∷ []) = omega arith
join_width (w ∷ v ∷ ws) =
    let more = join_width (v ∷ ws) in
    omega (arith, more, length-append w (space ∷ join_with_byte space (v ∷ ws)))

line_width : (ws : List (List ℕ)) → length (line ws) ≤ width ws
line_width ws = let join = join_width ws in omega (arith, join, length-append (join_with_byte space ws) (line_feed ∷ []))

-- a line of at most eighty bytes
abbrev pub IsShort : List (List ℕ) → Type 0
IsShort ws = length (line ws) ≤ 80

short_by : (ws : List (List ℕ)) → width ws ≤ 80 → IsShort ws
short_by ws le = let line = line_width ws in omega (arith, line, le)

number_short : (n : ℕ) → n ≤ count_limit → length (decimal n) ≤ 20
number_short n le = length-decimal-le 20 n (omega arith) (omega (arith, le)) (omega (arith, le))

number_line : (word : List ℕ) (n : ℕ) → length word ≤ 10 → n ≤ count_limit → IsShort (word ∷ decimal n ∷ [])
number_line word n few le = let digits = number_short n le in short_by (word ∷ decimal n ∷ []) (omega (arith, few, digits))

and_second : (a b : Bool) → (a && b) ≡ true → b ≡ true
and_second true b e = e
and_second false b e = absurd cc

and_first : (a b : Bool) → (a && b) ≡ true → a ≡ true
and_first true b e = refl
and_first false b e = absurd cc

name_short : (name : List ℕ) → is_name name ≡ true → length name ≤ name_limit
name_short [] e = absurd cc
name_short (b ∷ bs) e = leb-true (length (b ∷ bs)) name_limit (and_second (is_name_start b && list_all is_name_byte bs) (nat_le (length (b ∷ bs)) name_limit) e)

-- the first of many
names_first : {X : Type 0} (f : X → Bool) (x : X) (xs : List X) → list_all f (x ∷ xs) ≡ true → (f x ≡ true) × (list_all f xs ≡ true)
names_first f x xs e = by (f x) refl
  where
    by : (b : Bool) → f x ≡ b → (f x ≡ true) × (list_all f xs ≡ true)
    by true is = (is, rw is at e)
    by false is = absurd (let h = rw is at e in cc)

pub named_short : (names : List (List ℕ)) (i : ℕ) → list_all is_name names ≡ true → length (slice_index_or names i []) ≤ name_limit
named_short [] i e = omega arith
named_short (n ∷ ns) zero e = name_short n (names_first is_name n ns e).0
named_short (n ∷ ns) (suc i) e = named_short ns i (names_first is_name n ns e).1

value_short : (labels : List (List ℕ)) (value : ℕ) → list_all is_name labels ≡ true → value ≤ count_limit → length (value_word labels value) ≤ 32
value_short [] value e le = let digits = number_short value le in omega (arith, digits)
value_short (label ∷ labels) value e le = named_short (label ∷ labels) value e

value_line : (name : List ℕ) (labels : List (List ℕ)) (value : ℕ) → is_name name ≡ true → list_all is_name labels ≡ true → value ≤ count_limit → IsShort (value_words name labels value)
value_line name labels value is are le =
    let n = name_short name is in
    let v = value_short labels value are le in
    short_by (value_words name labels value) (omega (arith, n, v))

pub lines_short : (ls : List (List (List ℕ))) → All IsShort ls → length (flat_map line ls) ≤ 80 * length ls
lines_short [] all = omega arith
lines_short (l ∷ ls) all =
    let first : length (line l) ≤ 80 = All-head IsShort l ls all in
    let rest = lines_short ls (All-tail IsShort l ls all) in
    omega (arith, first, rest, length-append (line l) (flat_map line ls))

-- the lines of values
pub record AreShort (most : ℕ) (ls : List (List (List ℕ))) : Type 0 where
  pub few : length ls ≤ most
  pub short : All IsShort ls

pub values_short : (sizes : List ℕ) (names : List (List ℕ)) (labels : List (List (List ℕ))) (values : List ℕ) → list_all is_name names ≡ true → list_all (λ ls. list_all is_name ls) labels ≡ true
    → All (λ s. s ≤ count_limit) sizes → AreWithin sizes values → AreShort (length sizes) (value_lines names labels values)
values_short sizes [] labels values named labelled sized within = record { few = omega arith; short = All-nil IsShort }
values_short sizes (n ∷ ns) [] values named labelled sized within = record { few = omega arith; short = All-nil IsShort }
values_short sizes (n ∷ ns) (l ∷ ls) [] named labelled sized within = record { few = omega arith; short = All-nil IsShort }
values_short [] (n ∷ ns) (l ∷ ls) (v ∷ vs) named labelled sized within = absurd within
values_short (s ∷ ss) (n ∷ ns) (l ∷ ls) (v ∷ vs) named labelled sized within =
    let name = names_first is_name n ns named in
    let label = names_first (λ ws. list_all is_name ws) l ls labelled in
    let most : s ≤ count_limit = All-head (λ s. s ≤ count_limit) s ss sized in
    let le : v ≤ count_limit = omega (arith, most, within.0) in
    let rest = values_short ss ns ls vs name.1 label.1 (All-tail (λ s. s ≤ count_limit) s ss sized) within.1 in record {
      few = omega (arith, rest.few);
      short = All-cons IsShort (value_words n l v) (value_lines ns ls vs) (value_line n l v name.0 label.0 le) rest.short;
    }

four_lines : (a b c d : List (List ℕ)) → IsShort a → IsShort b → IsShort c → IsShort d → All IsShort (a ∷ b ∷ c ∷ d ∷ [])
four_lines a b c d of_a of_b of_c of_d =
    All-cons IsShort a (b ∷ c ∷ d ∷ []) of_a (All-cons IsShort b (c ∷ d ∷ []) of_b (All-cons IsShort c (d ∷ []) of_c (All-cons IsShort d [] of_d (All-nil IsShort))))

pub head_short : (goal : Goal) (report : Report) → report.status ≡ Solved → report.method ≡ Dpop → report.goal ≡ goal → report.error ≤ count_limit → report.deliveries ≤ count_limit
    → length (flat_map line (head_lines report)) ≤ 400
head_short Min report status method goal error deliveries =
    let ls : List (List (List ℕ)) = (codes "status" ∷ codes "solved" ∷ []) ∷ (codes "method" ∷ codes "dpop" ∷ []) ∷ (codes "error" ∷ decimal report.error ∷ []) ∷ (codes "deliveries" ∷ decimal report.deliveries ∷ []) ∷ [] in
    let short = lines_short ls (four_lines (codes "status" ∷ codes "solved" ∷ []) (codes "method" ∷ codes "dpop" ∷ []) (codes "error" ∷ decimal report.error ∷ []) (codes "deliveries" ∷ decimal report.deliveries ∷ [])
    (short_by (codes "status" ∷ codes "solved" ∷ []) (omega arith)) (short_by (codes "method" ∷ codes "dpop" ∷ []) (omega arith))
    (number_line (codes "error") report.error (omega arith) error) (number_line (codes "deliveries") report.deliveries (omega arith) deliveries)) in
    let few : length (flat_map line ls) ≤ 400 = omega (arith, short) in
    rw (status, method, goal) few
head_short Max report status method goal error deliveries =
    let tail : List (List (List ℕ)) = (codes "method" ∷ codes "dpop" ∷ []) ∷ (codes "goal" ∷ codes "max" ∷ []) ∷ (codes "error" ∷ decimal report.error ∷ []) ∷ (codes "deliveries" ∷ decimal report.deliveries ∷ []) ∷ [] in
    let short = lines_short ((codes "status" ∷ codes "solved" ∷ []) ∷ tail) (All-cons IsShort (codes "status" ∷ codes "solved" ∷ []) tail (short_by (codes "status" ∷ codes "solved" ∷ []) (omega arith))
    (four_lines (codes "method" ∷ codes "dpop" ∷ []) (codes "goal" ∷ codes "max" ∷ []) (codes "error" ∷ decimal report.error ∷ []) (codes "deliveries" ∷ decimal report.deliveries ∷ [])
    (short_by (codes "method" ∷ codes "dpop" ∷ []) (omega arith)) (short_by (codes "goal" ∷ codes "max" ∷ []) (omega arith))
    (number_line (codes "error") report.error (omega arith) error) (number_line (codes "deliveries") report.deliveries (omega arith) deliveries))) in
    let few : length (flat_map line ((codes "status" ∷ codes "solved" ∷ []) ∷ tail)) ≤ 400 = omega (arith, short) in
    rw (status, method, goal) few

pub bounds_short : (report : Report) → report.cost ≤ count_limit → report.lower ≤ count_limit → report.upper ≤ count_limit → length (flat_map line (bound_lines report)) ≤ 240
bounds_short report cost lower upper =
    let c : List (List ℕ) = codes "cost" ∷ decimal report.cost ∷ [] in
    let l : List (List ℕ) = codes "lower" ∷ decimal report.lower ∷ [] in
    let u : List (List ℕ) = codes "upper" ∷ decimal report.upper ∷ [] in
    let short = lines_short (c ∷ l ∷ u ∷ []) (All-cons IsShort c (l ∷ u ∷ []) (number_line (codes "cost") report.cost (omega arith) cost)
    (All-cons IsShort l (u ∷ []) (number_line (codes "lower") report.lower (omega arith) lower) (All-cons IsShort u [] (number_line (codes "upper") report.upper (omega arith) upper) (All-nil IsShort)))) in
    omega (arith, short)

two_parts : (x y : List (List (List ℕ))) → length (flat_map line (x ++ y)) ≡ length (flat_map line x) + length (flat_map line y)
two_parts x y = ap (λ (bs : List ℕ). length bs) (flat_map-append line x y) ∙ length-append (flat_map line x) (flat_map line y)

-- a text of lines in five parts
pub five_parts : (a b c d e : List (List (List ℕ)))
    → length (flat_map line (a ++ b ++ c ++ d ++ e)) ≡ length (flat_map line a) + length (flat_map line b) + length (flat_map line c) + length (flat_map line d) + length (flat_map line e)
five_parts a b c d e =
    let one = two_parts a b in
    let two = two_parts (a ++ b) c in
    let three = two_parts (a ++ b ++ c) d in
    let four = two_parts (a ++ b ++ c ++ d) e in
    omega (arith, one, two, three, four)

-- the last line
pub end_short : length (flat_map line ((codes "end" ∷ []) ∷ [])) ≤ 80
end_short = omega arith

-- the words after a kind
problem_width : (b : Bool) (problem : ℕ) → problem ≤ count_limit → width (if b then codes "problem" ∷ decimal problem ∷ [] else []) ≤ 40
problem_width true problem le = let digits = number_short problem le in omega (arith, digits)
problem_width false problem le = omega arith

pub text_refusal_short : (at kind problem : ℕ) → at ≤ count_limit → kind ≤ count_limit → problem ≤ count_limit → length (line (text_refusal at kind problem)) ≤ 1000
text_refusal_short at kind problem le-at le-kind le-problem =
    let a = number_short at le-at in
    let k = number_short kind le-kind in
    let p = problem_width (nat_eq kind problem_kind) problem le-problem in
    let whole = line_width (text_refusal at kind problem) in
    omega (arith, a, k, p, whole)

pub wide_refusal_short : (name : List ℕ) (cells : ℕ) → length name ≤ name_limit → cells ≤ count_limit → length (line (wide_refusal name cells)) ≤ 1000
wide_refusal_short name cells short le =
    let c = number_short cells le in
    let l = number_short joined_limit (omega arith) in
    let whole = line_width (wide_refusal name cells) in
    omega (arith, short, c, l, whole)

pub total_refusal_short : (cells : ℕ) → cells ≤ count_limit → length (line (total_refusal cells)) ≤ 1000
total_refusal_short cells le =
    let c = number_short cells le in
    let l = number_short sent_limit (omega arith) in
    let whole = line_width (total_refusal cells) in
    omega (arith, c, l, whole)
