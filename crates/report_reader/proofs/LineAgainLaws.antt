-- Lines of a report as they are written, read again one by one.
use Rattle.std.proofs.Common.{◌≡◌, ℕ, ◌+◌, ◌<◌, ◌≤◌, zero, suc, Bool, true, false, cond, List, [], ◌∷◌, ◌++◌, length, map, get_or, Option, Some, None, Ok, nat_eq, nat_le, ◌&&◌, ◌||◌, refl, sym, ◌∙◌, subst, arith}
use Rattle.std.specs.List.{list_all, list_any, All, IsDistinct, count_by, range_with_len}
use Rattle.std.specs.Prelude.{codes, IfSome, ◌⊎◌}
use Rattle.std.proofs.Common.{inl, inr}
use Rattle.std.specs.Fmt.{decimal}
use Rattle.std.specs.Str.{bytes_eq}
use Rattle.std.specs.Cmp.Lexicographic.{nat_list_eq_equiv}
use Rattle.std.proofs.lemmas.List.{length-map}
use Rattle.std.proofs.lemmas.List.Folds.{list_any_none}
use Rattle.std.proofs.lemmas.List.Elements.{All-head, All-tail, length_all_zip}
use Rattle.std.proofs.lemmas.List.Sums.{sum_by-cons}
use Rattle.std.proofs.lemmas.Bool.Decides.{nat_tests}
use Rattle.std.proofs.lemmas.Bool.{and_parts, le-ltb, lt-ltb, eq-eqb, eqb-true}
use Rattle.dcop_base.specs.Table.{product, has_repeat, AreWithin, cell_place}
use Rattle.problem_text.specs.Name.{is_name, is_name_start, is_name_byte}
use Rattle.problem_text.specs.File.{AreLabels}
use Rattle.problem_text.proofs.DecimalLaws.{number-decimal}
use Rattle.problem_text.proofs.TableTextLaws.{before-colon, after-colon, any-colon, name-at, scope-names, own-place, scope-named}
use Rattle.certificate_text.specs.declared.certificate.Util.{Util}
use Rattle.certificate_text.specs.declared.report.Ending.{Ending}
use Rattle.certificate_text.specs.declared.report.Ending.TheVariants.{Solved, Spent}
use Rattle.certificate_text.specs.declared.report.Method.{Method}
use Rattle.certificate_text.specs.declared.report.Method.TheVariants.{Plain, Dpop, Adopt, Cut}
use Rattle.certificate_text.specs.CertificateText.{parent_word, util_words, cut_words, turn_words}
use Rattle.certificate_text.specs.ReportText.{ending_word, method_word, value_words}
use Rattle.dcop_base.specs.Limits.{amount_limit}
use Rattle.run_log.specs.EventLine.{number_within}
use Rattle.report_reader.specs.declared.certificate_line.Form.TheVariants as forms
use Rattle.report_reader.specs.Told.{is_alone, amounts_of}
use Rattle.report_reader.specs.CertificateLine.{certificate_line}
use Rattle.report_reader.specs.TurnLine.{values_told, turn_line}
use Rattle.report_reader.specs.TurnReading.{are_apart, tells_other}
use Rattle.report_reader.specs.HeadLines.{status_line, method_line, number_line}
use Rattle.report_reader.specs.ValueLine.{value_line}
use Rattle.report_reader.specs.UtilLine.{has_util, known_among, parent_told, util_line}
use Rattle.certificate_text.specs.Fits.{FitsUtil}
use Rattle.report_reader.proofs.TurnFitsLaws.{IsNumbered}

-- a word is itself
pub same-word : (word : List ℕ) → bytes_eq word word ≡ true
same-word word = nat_list_eq_equiv.refl word

pub status-again : (status : Ending) → status_line (codes "status" ∷ ending_word status ∷ []) ≡ Ok status
status-again Solved = refl
status-again Spent = refl

pub method-again : (method : Method) → method_line (codes "method" ∷ method_word method ∷ []) ≡ Ok method
method-again Plain = refl
method-again Dpop = refl
method-again Adopt = refl
method-again Cut = refl

-- a number of at most amount_limit is read as that number
pub amount-decimal : (n : ℕ) → n ≤ 4611686018427387904 → number_within amount_limit (decimal n) ≡ Some n
amount-decimal n h = rw (number-decimal n (omega (arith, h)), le-ltb 4611686018427387904 n h) refl

pub amounts-decimals : (ns : List ℕ) → All (λ n. n ≤ 4611686018427387904) ns → amounts_of (map decimal ns) ≡ Some ns
amounts-decimals [] h = refl
amounts-decimals (n ∷ ns) h = rw (amount-decimal n (All-head (λ n. n ≤ 4611686018427387904) n ns h), amounts-decimals ns (All-tail (λ n. n ≤ 4611686018427387904) n ns h)) refl

pub number-again : (key : List ℕ) (n : ℕ) → n ≤ 4611686018427387904 → number_line key (key ∷ decimal n ∷ []) ≡ Ok n
number-again key n h = rw (same-word key, amount-decimal n h) refl

-- a value's line
pub value-again : (name : List ℕ) (labels : List (List ℕ)) (size value : ℕ) → AreLabels size labels → value < size → size ≤ 1024 → value_line name labels size (value_words name labels value) ≡ Ok value
value-again name [] size value fit below small = rw (same-word name, amount-decimal value (omega (arith, below, small)), lt-ltb value size below) refl
value-again name (label ∷ labels) size value fit below small =
    let within : value < length (label ∷ labels) = many fit.many in
    rw (same-word name, own-place (label ∷ labels) value fit.distinct within) refl
  where
    many : ((label ∷ labels) ≡ []) ⊎ (length (label ∷ labels) ≡ size) → value < length (label ∷ labels)
    many (inl e) = absurd (cc e)
    many (inr e) = omega (arith, e, below)

-- the names of a scope's variables name them
pub scope-known : (names : List (List ℕ)) (scope : List ℕ) → IsDistinct bytes_eq names → All (λ v. v < length names) scope → known_among names (map (λ v. get_or names v []) scope) ≡ scope
scope-known names [] apart within = refl
scope-known names (v ∷ vs) apart within =
    rw (own-place names v apart (All-head (λ v. v < length names) v vs within), scope-known names vs apart (All-tail (λ v. v < length names) v vs within)) refl

dash-start : (b : ℕ) → is_name_start b ≡ true → nat_eq b 45 ≡ false
dash-start b h = grind (arith, nat_tests)

-- a name is no `-`
name-dash : (word : List ℕ) → is_name word ≡ true → bytes_eq word (codes "-") ≡ false
name-dash [] h = refl
name-dash (b ∷ bs) h =
    let parts = and_parts (is_name_start b && list_all is_name_byte bs) (nat_le (length (b ∷ bs)) 32) h in
    let start = and_parts (is_name_start b) (list_all is_name_byte bs) parts.0 in
    rw (dash-start b start.0) refl

-- a parent's word
pub parent-again : (names : List (List ℕ)) (parent : Option ℕ) → IsDistinct bytes_eq names → list_all is_name names ≡ true → IfSome parent (λ p. p < length names) → parent_told names (parent_word names parent) ≡ Some parent
parent-again names None apart named within = refl
parent-again names (Some p) apart named within = rw (name-dash (get_or names p []) (name-at names p named within), own-place names p apart within) refl

-- the line of a table, behind tables of other variables
pub util-again : (names : List (List ℕ)) (sizes : List ℕ) (done : List Util) (u : Util) → IsDistinct bytes_eq names → list_all is_name names ≡ true → length names ≡ length sizes → FitsUtil sizes u → has_util done u.var ≡ false → util_line names sizes done (util_words names u) ≡ Ok u
util-again names sizes done u apart named many fit fresh =
    let xs = map (λ v. get_or names v []) u.scope in
    let ys = map decimal u.cells in
    let own : u.var < length names = subst (λ (n : ℕ). u.var < n) (sym many) fit.named.own in
    let parent : IfSome u.parent (λ p. p < length names) = subst (λ (n : ℕ). IfSome u.parent (λ p. p < n)) (sym many) fit.named.parent in
    let within : All (λ v. v < length names) u.scope = subst (λ (n : ℕ). All (λ v. v < n) u.scope) (sym many) fit.named.scope in
    let plain = scope-names names u.scope named within in
    let counted : nat_eq (length u.cells) (product (map (λ v. get_or sizes v 0) u.scope)) ≡ true = eq-eqb _ _ fit.many in
    rw (any-colon xs ys plain, before-colon xs ys plain, after-colon xs ys plain, own-place names u.var apart own, fresh, scope-known names u.scope apart within, fit.distinct, parent-again names u.parent apart named parent, scope-named names u.scope apart within, amounts-decimals u.cells fit.cells, counted) refl

count-there : (var : ℕ) (done : List Util) (u : Util) (later : List Util) → nat_eq u.var var ≡ true → 1 ≤ count_by (λ u. nat_eq u.var var) (done ++ (u ∷ later))
count-there var [] u later h =
    let cons = sum_by-cons (λ (x : Util). cond (nat_eq x.var var) 1 0) u later in
    rw (cons, h) (omega arith)
count-there var (x ∷ xs) u later h =
    let cons = sum_by-cons (λ (x : Util). cond (nat_eq x.var var) 1 0) x (xs ++ (u ∷ later)) in
    let rest = count-there var xs u later h in
    rw cons (omega (arith, rest))

fresh-step : (t : Bool) (before rest : ℕ) (any : Bool) → cond t 1 0 + rest ≡ 1 → 1 ≤ rest → (rest ≡ 1 → any ≡ false) → t || any ≡ false
fresh-step true before rest any e some ih = absurd (omega (arith, e, some))
fresh-step false before rest any e some ih = let same : 0 + rest ≡ 1 = e in ih (omega (arith, same))

-- a variable that has one table has none before that
pub fresh-before : (var : ℕ) (done : List Util) (u : Util) (later : List Util) → nat_eq u.var var ≡ true → count_by (λ u. nat_eq u.var var) (done ++ (u ∷ later)) ≡ 1 → has_util done var ≡ false
fresh-before var [] u later h e = refl
fresh-before var (x ∷ xs) u later h e =
    let cons = sum_by-cons (λ (x : Util). cond (nat_eq x.var var) 1 0) x (xs ++ (u ∷ later)) in
    fresh-step (nat_eq x.var var) 0 (count_by (λ u. nat_eq u.var var) (xs ++ (u ∷ later))) (has_util xs var) (sym cons ∙ e) (count-there var xs u later h) (fresh-before var xs u later h)

has-step : (t : Bool) (rest : ℕ) (any : Bool) → cond t 1 0 + rest ≡ 1 → (rest ≡ 1 → any ≡ true) → t || any ≡ true
has-step true rest any e ih = refl
has-step false rest any e ih = let same : 0 + rest ≡ 1 = e in ih (omega (arith, same))

-- a variable that has one table has a table
pub has-one : (var : ℕ) (utils : List Util) → count_by (λ u. nat_eq u.var var) utils ≡ 1 → has_util utils var ≡ true
has-one var [] e = absurd (omega (arith, e))
has-one var (x ∷ xs) e =
    let cons = sum_by-cons (λ (x : Util). cond (nat_eq x.var var) 1 0) x xs in
    has-step (nat_eq x.var var) (count_by (λ u. nat_eq u.var var) xs) (has_util xs var) (sym cons ∙ e) (has-one var xs)

-- a test that all numbers from here pass
pub range-all : (p : ℕ → Bool) (a n : ℕ) → ((k : ℕ) → a ≤ k → k < a + n → p k ≡ true) → list_all p (range_with_len a n) ≡ true
range-all p a zero h = refl
range-all p a (suc n) h = rw (h a (omega arith) (omega arith), range-all p (a + 1) n (λ k lo hi. h k (omega arith) (omega arith))) refl

-- values below sizes are told by their decimals
told-decimals : (sizes values : List ℕ) → AreWithin sizes values → All (λ s. s ≤ 1024) sizes → values_told sizes (map decimal values) ≡ Ok values
told-decimals [] [] within small = refl
told-decimals [] (v ∷ vs) within small = absurd within
told-decimals (s ∷ ss) [] within small = absurd within
told-decimals (s ∷ ss) (v ∷ vs) within small =
    let most : s ≤ 1024 = All-head (λ s. s ≤ 1024) s ss small in
    let below : v < s = within.0 in
    rw (amount-decimal v (omega (arith, below, most)), lt-ltb v s below, told-decimals ss vs within.1 (All-tail (λ s. s ≤ 1024) s ss small)) refl

-- the line of a turn
pub turn-again : (sizes : List ℕ) (number : ℕ) (values : List ℕ) → IsNumbered sizes number values → All (λ s. s ≤ 1024) sizes → turn_line sizes number (turn_words values) ≡ Ok values
turn-again sizes number values h small =
    let long : length (map decimal values) ≡ length values = length-map values decimal in
    let many : length values ≡ length sizes = sym (length_all_zip (λ s v. v < s) sizes values h.within) in
    rw (eq-eqb (length (map decimal values)) (length sizes) (long ∙ many), told-decimals sizes values h.within small, eq-eqb (cell_place sizes values) number h.is) refl

-- the line of a turn is no line `end`
pub turn-end : (values : List ℕ) → is_alone (codes "end") (turn_words values) ≡ false
turn-end [] = refl
turn-end (v ∷ vs) = refl

apart-none : (one other : Option ℕ) → one ≡ other → are_apart one other ≡ false
apart-none None None e = refl
apart-none None (Some b) e = absurd (cc e)
apart-none (Some a) None e = absurd (cc e)
apart-none (Some a) (Some b) e = let same : a ≡ b = cc e in rw (eq-eqb a b same) refl

other-step : (t : Bool) (o u : Util) → nat_eq o.var u.var ≡ t → (o.var ≡ u.var → o.parent ≡ u.parent) → t && are_apart o.parent u.parent ≡ false
other-step true o u is h = apart-none o.parent u.parent (h (eqb-true o.var u.var is))
other-step false o u is h = refl

other-none : (others : List Util) (u : Util) → All (λ o. o.var ≡ u.var → o.parent ≡ u.parent) others → list_any (λ o. nat_eq o.var u.var && are_apart o.parent u.parent) others ≡ false
other-none others u h = list_any_none (λ (o : Util). nat_eq o.var u.var && are_apart o.parent u.parent) others (λ k d lt. other-step _ (get_or others k d) u refl (h k d lt))

-- the line of a table that has the parent of the first turn
pub parent-kept : (names : List (List ℕ)) (sizes : List ℕ) (others : List Util) (u : Util) → IsDistinct bytes_eq names → list_all is_name names ≡ true → length names ≡ length sizes → FitsUtil sizes u → All (λ o. o.var ≡ u.var → o.parent ≡ u.parent) others
    → tells_other names others (util_words names u) ≡ false
parent-kept names sizes others u apart named many fit h =
    let own : u.var < length names = subst (λ (n : ℕ). u.var < n) (sym many) fit.named.own in
    let parent : IfSome u.parent (λ p. p < length names) = subst (λ (n : ℕ). IfSome u.parent (λ p. p < n)) (sym many) fit.named.parent in
    rw (own-place names u.var apart own, parent-again names u.parent apart named parent) (other-none others u h)

-- the first line of a certificate of a cut
pub cut-again : (names : List (List ℕ)) (cut : List ℕ) → IsDistinct bytes_eq names → has_repeat cut ≡ false → All (λ v. v < length names) cut → certificate_line names Cut (cut_words names cut) ≡ Ok (forms.Cut cut)
cut-again names cut apart distinct within = rw (scope-known names cut apart within, distinct, scope-named names cut apart within) refl
