-- A report that was read fits its file.
use Rattle.std.proofs.Common.{◌≡◌, ℕ, ◌+◌, ◌<◌, ◌≤◌, zero, suc, Bool, true, false, not, cond, List, [], ◌∷◌, ◌++◌, length, Some, None, Option, Ok, Err, Result, nat_eq, ◌||◌, refl, sym, ap, ◌∙◌, subst, arith}
use Rattle.std.specs.List.{list_all, All, AllZip, count_by, range_with_len}
use Rattle.std.specs.Prelude.{codes, IfOk}
use Rattle.std.specs.Str.{bytes_eq}
use Rattle.std.proofs.lemmas.List.Elements.{All-append, All-cons}
use Rattle.std.proofs.lemmas.List.Sums.{sum_by-cons}
use Rattle.std.proofs.lemmas.List.{length-append}
use Rattle.dcop_base.specs.Table.{product}
use Rattle.cost_table.specs.Slices.{ones_at}
use Rattle.cost_table.proofs.ProblemCutLaws.{length-ones_at}
use Rattle.std.proofs.lemmas.Bool.Decides.{nat_tests}
use Rattle.std.proofs.lemmas.Bool.{and_parts, or_parts, eqb-true, false≢true}
use Rattle.problem_text.specs.declared.fault.ReportKind.{ReportKind}
use Rattle.problem_text.specs.declared.fault.ReportKind.TheVariants.{BadLine}
use Rattle.problem_text.specs.declared.fault.ReportFault.{ReportFault}
use Rattle.problem_text.specs.declared.file.Goal.{Goal}
use Rattle.problem_text.specs.declared.file.Goal.TheVariants.{Min, Max}
use Rattle.problem_text.specs.File.{TextFile, IsFile, AreLabels}
use Rattle.problem_text.specs.PlainLines.{Plain}
use Rattle.run_log.specs.declared.log.LogEvent.{LogEvent}
use Rattle.run_log.specs.EventLine.{event_line}
use Rattle.run_log.specs.LogText.{FitsEvent}
use Rattle.run_log.proofs.EventFitsLaws.{event_fits}
use Rattle.certificate_text.specs.declared.certificate.Certificate.{Certificate}
use Rattle.certificate_text.specs.declared.certificate.Certificate.TheVariants.{Tables, Log, Cut}
use Rattle.certificate_text.specs.declared.certificate.Turn.{Turn}
use Rattle.certificate_text.specs.declared.certificate.Util.{Util}
use Rattle.report_reader.specs.declared.certificate_line.Form.{Form}
use Rattle.report_reader.specs.declared.certificate_line.Form.TheVariants as forms
use Rattle.report_reader.specs.declared.head.Head.{Head}
use Rattle.report_reader.specs.declared.head.Bounds.{Bounds}
use Rattle.certificate_text.specs.declared.report.Method.{Method}
use Rattle.certificate_text.specs.declared.report.Report.{Report}
use Rattle.report_reader.specs.declared.turns.CutSizes.{CutSizes}
use Rattle.report_reader.specs.Told.{word_behind, is_alone, begins_with}
use Rattle.report_reader.specs.HeadLines.{status_line, method_line, max_told, max_line, number_line}
use Rattle.report_reader.specs.ValueLine.{value_line}
use Rattle.report_reader.specs.UtilLine.{has_util, lacks_util, util_line}
use Rattle.report_reader.specs.CertificateLine.{certificate_line}
use Rattle.report_reader.specs.TurnLine.{turn_line}
use Rattle.certificate_text.specs.Turns.{first_tables}
use Rattle.report_reader.specs.TurnReading.{tells_other, table_in_turn, turn_behind, all_turns, turns_read, cut_sizes, cut_read}
use Rattle.report_reader.specs.ReportLines.{Fault, Left, whole, told_at, first_of, one_line, and_then}
use Rattle.report_reader.specs.ReportReading.{goal_read, head_read, bounds_read, values_read, ended, tables_read, events_read, evidence_read, certificate_read, nothing_behind, report_of, report_read}
use Rattle.certificate_text.specs.Fits.{FitsUtil, FitsTables, HasParentOf, KeepParents, FitsCut, FitsCertificate}
use Rattle.report_reader.specs.Again.{ReadsReport, HasFit}
use Rattle.report_reader.proofs.LineFitsLaws.{ok-same, one-ok, other-ok, told-cap, value-fits, AreNamedOnce, FitsForm, certificate-fits, util-fits}
use Rattle.report_reader.proofs.TurnFitsLaws.{IsNumbered, AreNumbered, not-not, turn-fits, numbered-push, numbered-all, parent-fits, keep-push}

-- what was read before what comes behind it
and-inv : {A B : Type 0} (read : Result (A × Left) Fault) (next : A → Left → Result B Fault) (r : B) → and_then read next ≡ Ok r → (x : A) × (left : Left) × (read ≡ Ok (x, left)) × (next x left ≡ Ok r)
and-inv (Ok p) next r e = (p.0, p.1, refl, e)
and-inv (Err fault) next r e = absurd (cc e)

pair-same : {A : Type 0} (x y : A) (s t : Left) → ◌≡◌ {A = Result (A × Left) Fault} (Ok (x, s)) (Ok (y, t)) → x ≡ y
pair-same {A} x y s t e = ap (λ (p : A × Left). p.0) (ok-same (x, s) (y, t) e)

told-inv : {A : Type 0} (number : ℕ) (t : Result A ReportKind) (left : Left) (x : A) (next : Left) → told_at number t left ≡ Ok (x, next) → t ≡ Ok x
told-inv {A} number (Ok y) left x next e = ap (λ (x : A). Ok x) (pair-same y x left next e)
told-inv number (Err kind) left x next e = absurd (cc e)

first-inv : {A : Type 0} (form : List (List ℕ) → Result A ReportKind) (over : ℕ) (ls : List Plain) (x : A) (next : Left) → first_of form over ls ≡ Ok (x, next) → (ws : List (List ℕ)) × (form ws ≡ Ok x)
first-inv form over [] x next e = absurd (cc e)
first-inv form over (l ∷ ls) x next e = (l.words, told-inv l.number (form l.words) (record { lines = ls; over = over }) x next e)

-- a line that was read
line-inv : {A : Type 0} (form : List (List ℕ) → Result A ReportKind) (left : Left) (x : A) (next : Left) → one_line form left ≡ Ok (x, next) → (ws : List (List ℕ)) × (form ws ≡ Ok x)
line-inv form left x next e = first-inv form left.over left.lines x next e

number-cap : (key : List ℕ) (left : Left) (n : ℕ) (next : Left) → one_line (number_line key) left ≡ Ok (n, next) → n ≤ 4611686018427387904
number-cap key left n next e = let t = line-inv (number_line key) left n next e in told-cap (word_behind key t.0) n t.1

max-is : (o : Option (List ℕ)) (goal : Goal) → max_told o ≡ Ok goal → goal ≡ Max
max-is None goal e = absurd (cc e)
max-is (Some w) goal e = let t = other-ok (bytes_eq w (codes "max")) BadLine (Ok Max) goal e in sym (ok-same Max goal t.1)

goal-is : (file_goal : Goal) (left : Left) (goal : Goal) (next : Left) → goal_read file_goal left ≡ Ok (goal, next) → goal ≡ file_goal
goal-is Min left goal next e = sym (pair-same Min goal left next e)
goal-is Max left goal next e = let t = line-inv max_line left goal next e in max-is (word_behind (codes "goal") t.0) goal t.1

-- the lines above the cost
record IsHead (file_goal : Goal) (head : Head) : Type 0 where
  goal : head.goal ≡ file_goal
  error : head.error ≤ 4611686018427387904
  deliveries : head.deliveries ≤ 4611686018427387904

head-fits : (file_goal : Goal) (left : Left) (head : Head) (next : Left) → head_read file_goal left ≡ Ok (head, next) → IsHead file_goal head
head-fits file_goal left head next e =
    let a = and-inv (one_line status_line left) _ (head, next) e in
    let b = and-inv (one_line method_line a.1) _ (head, next) a.3 in
    let c = and-inv (goal_read file_goal b.1) _ (head, next) b.3 in
    let d = and-inv (one_line (number_line (codes "error")) c.1) _ (head, next) c.3 in
    let f = and-inv (one_line (number_line (codes "deliveries")) d.1) _ (head, next) d.3 in
    let made : Head = record { status = a.0; method = b.0; goal = c.0; error = d.0; deliveries = f.0 } in
    subst (λ (head : Head). IsHead file_goal head) {x = made} (pair-same made head f.1 next f.3) (record {
      goal = goal-is file_goal b.1 c.0 c.1 c.2;
      error = number-cap (codes "error") c.1 d.0 d.1 d.2;
      deliveries = number-cap (codes "deliveries") d.1 f.0 f.1 f.2;
    })

record AreSmall (bounds : Bounds) : Type 0 where
  cost : bounds.cost ≤ 4611686018427387904
  lower : bounds.lower ≤ 4611686018427387904
  upper : bounds.upper ≤ 4611686018427387904

bounds-fit : (left : Left) (bounds : Bounds) (next : Left) → bounds_read left ≡ Ok (bounds, next) → AreSmall bounds
bounds-fit left bounds next e =
    let a = and-inv (one_line (number_line (codes "cost")) left) _ (bounds, next) e in
    let b = and-inv (one_line (number_line (codes "lower")) a.1) _ (bounds, next) a.3 in
    let c = and-inv (one_line (number_line (codes "upper")) b.1) _ (bounds, next) b.3 in
    let made : Bounds = record { cost = a.0; lower = b.0; upper = c.0 } in
    subst (λ (bounds : Bounds). AreSmall bounds) {x = made} (pair-same made bounds c.1 next c.3) (record {
      cost = number-cap (codes "cost") left a.0 a.1 a.2;
      lower = number-cap (codes "lower") a.1 b.0 b.1 b.2;
      upper = number-cap (codes "upper") b.1 c.0 c.1 c.2;
    })

values-fit : (names : List (List ℕ)) (labels : List (List (List ℕ))) (sizes : List ℕ) (left : Left) (values : List ℕ) (next : Left) → length names ≡ length sizes → AllZip AreLabels sizes labels
    → values_read names labels sizes left ≡ Ok (values, next) → AllZip (λ v s. v < s) values sizes
values-fit [] labels (s ∷ ss) left values next many fit e = absurd (omega (arith, many))
values-fit (n ∷ ns) labels [] left values next many fit e = absurd (omega (arith, many))
values-fit [] labels [] left values next many fit e = subst (λ (vs : List ℕ). AllZip (λ v s. v < s) vs []) (pair-same [] values left next e) tt
values-fit (n ∷ ns) [] (s ∷ ss) left values next many fit e = absurd fit
values-fit (n ∷ ns) (l ∷ ls) (s ∷ ss) left values next many fit e =
    let a = and-inv (one_line (value_line n l s) left) _ (values, next) e in
    let b = and-inv (values_read ns ls ss a.1) _ (values, next) a.3 in
    let line = line-inv (value_line n l s) left a.0 a.1 a.2 in
    let below = value-fits n l s line.0 a.0 fit.0 line.1 in
    let rest = values-fit ns ls ss a.1 b.0 b.1 (omega (arith, many)) fit.1 b.2 in
    subst (λ (vs : List ℕ). AllZip (λ v s. v < s) vs (s ∷ ss)) (pair-same (a.0 ∷ b.0) values b.1 next b.3) (below, rest)

-- a variable without a table counts none
count-none : (var : ℕ) (utils : List Util) → has_util utils var ≡ false → count_by (λ u. nat_eq u.var var) utils ≡ 0
count-none var [] h = refl
count-none var (x ∷ xs) h =
    let parts = or_parts (nat_eq x.var var) (has_util xs var) h in
    let cons = sum_by-cons (λ (x : Util). cond (nat_eq x.var var) 1 0) x xs in
    let rest = count-none var xs parts.1 in
    rw (cons, parts.0, rest) refl

count-push : (var : ℕ) (utils : List Util) (u : Util) → count_by (λ u. nat_eq u.var var) (utils ++ (u ∷ [])) ≡ count_by (λ u. nat_eq u.var var) utils + cond (nat_eq u.var var) 1 0
count-push var [] u =
    let cons = sum_by-cons (λ (x : Util). cond (nat_eq x.var var) 1 0) u [] in
    rw cons (omega arith)
count-push var (x ∷ xs) u =
    let cons = sum_by-cons (λ (x : Util). cond (nat_eq x.var var) 1 0) x (xs ++ (u ∷ [])) in
    let own = sum_by-cons (λ (x : Util). cond (nat_eq x.var var) 1 0) x xs in
    let rest = count-push var xs u in
    rw (cons, own, rest) (omega arith)

once-step : (t : Bool) (before : ℕ) → before ≤ 1 → (t ≡ true → before ≡ 0) → before + cond t 1 0 ≤ 1
once-step true before few none = let z : before ≡ 0 = none refl in omega (arith, z)
once-step false before few none = omega (arith, few)

-- a further table, of a variable that had none
once-push : (var : ℕ) (utils : List Util) (u : Util) → count_by (λ u. nat_eq u.var var) utils ≤ 1 → has_util utils u.var ≡ false → count_by (λ u. nat_eq u.var var) (utils ++ (u ∷ [])) ≤ 1
once-push var utils u few fresh =
    let step = once-step (nat_eq u.var var) (count_by (λ u. nat_eq u.var var) utils) few (λ h. count-none var utils (subst (λ (v : ℕ). has_util utils v ≡ false) (eqb-true u.var var h) fresh)) in
    rw (count-push var utils u) step

some-step : (t : Bool) (rest : ℕ) (any : Bool) → t || any ≡ true → (any ≡ true → 1 ≤ rest) → 1 ≤ cond t 1 0 + rest
some-step true rest any h ih = omega arith
some-step false rest any h ih = let r : 1 ≤ rest = ih h in omega (arith, r)

count-some : (var : ℕ) (utils : List Util) → has_util utils var ≡ true → 1 ≤ count_by (λ u. nat_eq u.var var) utils
count-some var [] h = absurd (false≢true h)
count-some var (x ∷ xs) h =
    let cons = sum_by-cons (λ (x : Util). cond (nat_eq x.var var) 1 0) x xs in
    let step = some-step (nat_eq x.var var) (count_by (λ u. nat_eq u.var var) xs) (has_util xs var) h (count-some var xs) in
    rw cons step

range-step : (p : ℕ → Bool) (a k : ℕ) (t : Bool) → nat_eq k a ≡ t → a ≤ k → p a ≡ true → (a + 1 ≤ k → p k ≡ true) → p k ≡ true
range-step p a k true is lo here later = subst (λ (x : ℕ). p x ≡ true) (sym (eqb-true k a is)) here
range-step p a k false is lo here later = later (grind (arith, nat_tests, is, lo))

-- a number of those that all pass
range-inv : (p : ℕ → Bool) (a n : ℕ) → list_all p (range_with_len a n) ≡ true → (k : ℕ) → a ≤ k → k < a + n → p k ≡ true
range-inv p a zero h k lo hi = absurd (omega (arith, lo, hi))
range-inv p a (suc n) h k lo hi =
    let parts = and_parts (p a) (list_all p (range_with_len (a + 1) n)) h in
    range-step p a k (nat_eq k a) refl lo parts.0 (λ more. range-inv p (a + 1) n parts.1 k more (omega (arith, hi)))

-- tables as their lines tell them, each of a variable that had none
record AreTables (sizes : List ℕ) (utils : List Util) : Type 0 where
  each : All (FitsUtil sizes) utils
  once : (var : ℕ) → count_by (λ u. nat_eq u.var var) utils ≤ 1

tables-more : (sizes : List ℕ) (utils : List Util) (u : Util) → AreTables sizes utils → FitsUtil sizes u → has_util utils u.var ≡ false → AreTables sizes (utils ++ (u ∷ []))
tables-more sizes utils u h fit fresh = record {
  each = All-append (FitsUtil sizes) utils (u ∷ []) h.each (All-cons (FitsUtil sizes) u [] fit (λ k d h. absurd (omega arith)));
  once = λ var. once-push var utils u (h.once var) fresh;
}

ended-fits : (f : TextFile) (t : Bool) (utils all : List Util) → lacks_util utils (length f.names) ≡ t → AreTables f.problem.sizes utils → cond t (Err BadLine) (Ok utils) ≡ Ok all → AreTables f.problem.sizes all × (lacks_util all (length f.names) ≡ false)
ended-fits f true utils all is h e = absurd (cc e)
ended-fits f false utils all is h e =
    subst (λ (all : List Util). AreTables f.problem.sizes all × (lacks_util all (length f.names) ≡ false)) (ok-same utils all e) (h, is)

-- a line of a table, or the line `end`
table-fits : (f : TextFile) (t : Bool) (number over : ℕ) (utils : List Util) (ws : List (List ℕ)) (ls : List Plain) (all : List Util) (next : Left) → IsFile f → AreTables f.problem.sizes utils
    → ((u : Util) → AreTables f.problem.sizes (utils ++ (u ∷ [])) → tables_read f.names f.problem.sizes over (utils ++ (u ∷ [])) ls ≡ Ok (all, next) → AreTables f.problem.sizes all × (lacks_util all (length f.names) ≡ false))
    → cond t (told_at number (ended f.names utils) (record { lines = ls; over = over })) (and_then (told_at number (util_line f.names f.problem.sizes utils ws) (record { lines = ls; over = over })) (λ util left. tables_read f.names f.problem.sizes over (utils ++ (util ∷ [])) ls)) ≡ Ok (all, next)
    → AreTables f.problem.sizes all × (lacks_util all (length f.names) ≡ false)
table-fits f true number over utils ws ls all next file h later e =
    ended-fits f (lacks_util utils (length f.names)) utils all refl h (told-inv number (ended f.names utils) (record { lines = ls; over = over }) all next e)
table-fits f false number over utils ws ls all next file h later e =
    let a = and-inv (told_at number (util_line f.names f.problem.sizes utils ws) (record { lines = ls; over = over })) _ (all, next) e in
    let line = told-inv number (util_line f.names f.problem.sizes utils ws) (record { lines = ls; over = over }) a.0 a.1 a.2 in
    let fits = util-fits f.names f.problem.sizes utils ws a.0 file.named line in
    later a.0 (tables-more f.problem.sizes utils a.0 h fits.0 fits.1) a.3

tables-fit : (f : TextFile) (over : ℕ) (utils : List Util) (ls : List Plain) (all : List Util) (next : Left) → IsFile f → AreTables f.problem.sizes utils
    → tables_read f.names f.problem.sizes over utils ls ≡ Ok (all, next) → AreTables f.problem.sizes all × (lacks_util all (length f.names) ≡ false)
tables-fit f over utils [] all next file h e = absurd (cc e)
tables-fit f over utils (l ∷ ls) all next file h e =
    table-fits f (is_alone (codes "end") l.words) l.number over utils l.words ls all next file h (λ u more rest. tables-fit f over (utils ++ (u ∷ [])) ls all next file more rest) e

-- exactly one table for each variable
tables-whole : (count : ℕ) (sizes : List ℕ) (utils : List Util) → count ≡ length sizes → AreTables sizes utils → lacks_util utils count ≡ false → FitsTables sizes utils
tables-whole count sizes utils named h whole =
    let all = not-not (list_all (λ var. has_util utils var) (range_with_len 0 count)) whole in
    let one = λ (var : ℕ) (in_sizes : var < length sizes). let has = range-inv (λ var. has_util utils var) 0 count all var (omega arith) (omega (arith, in_sizes, named)) in let some = count-some var utils has in let few = h.once var in let r : count_by (λ u. nat_eq u.var var) utils ≡ 1 = omega (arith, some, few) in r in
    record { each = h.each; one = one }

no-tables : (sizes : List ℕ) → AreTables sizes []
no-tables sizes = record { each = λ k d h. absurd (omega (arith, h)); once = λ var. omega arith }

-- events as their lines tell them
abbrev AreEvents : TextFile → List LogEvent → Type 0
AreEvents f log = All (FitsEvent (length f.names)) log

-- a line of an event, or the line `end`
event-fits : (f : TextFile) (t : Bool) (number over : ℕ) (log : List LogEvent) (ws : List (List ℕ)) (ls : List Plain) (all : List LogEvent) (next : Left) → AreEvents f log
    → ((e : LogEvent) → AreEvents f (log ++ (e ∷ [])) → events_read f.names over (log ++ (e ∷ [])) ls ≡ Ok (all, next) → AreEvents f all)
    → cond t (Ok (log, record { lines = ls; over = over })) (and_then (told_at number (event_line f.names ws) (record { lines = ls; over = over })) (λ event left. events_read f.names over (log ++ (event ∷ [])) ls)) ≡ Ok (all, next)
    → AreEvents f all
event-fits f true number over log ws ls all next fit later e =
    subst (AreEvents f) (pair-same log all (record { lines = ls; over = over }) next e) fit
event-fits f false number over log ws ls all next fit later e =
    let a = and-inv (told_at number (event_line f.names ws) (record { lines = ls; over = over })) _ (all, next) e in
    let line = told-inv number (event_line f.names ws) (record { lines = ls; over = over }) a.0 a.1 a.2 in
    let one = event_fits f.names ws a.0 line in
    later a.0 (All-append (FitsEvent (length f.names)) log (a.0 ∷ []) fit (All-cons (FitsEvent (length f.names)) a.0 [] one (λ k d h. absurd (omega arith)))) a.3

events-fit : (f : TextFile) (over : ℕ) (log : List LogEvent) (ls : List Plain) (all : List LogEvent) (next : Left) → AreEvents f log → events_read f.names over log ls ≡ Ok (all, next) → AreEvents f all
events-fit f over log [] all next fit e = absurd (cc e)
events-fit f over log (l ∷ ls) all next fit e =
    event-fits f (is_alone (codes "end") l.words) l.number over log l.words ls all next fit (λ e more rest. events-fit f over (log ++ (e ∷ [])) ls all next more rest) e

-- a turn behind these, with its tables so far
record IsTurn (sizes : CutSizes) (turns : List Turn) (turn : Turn) : Type 0 where
  values : IsNumbered sizes.own (length turns) turn.values
  tables : AreTables sizes.slice turn.tables
  parents : All (HasParentOf (first_tables turns)) turn.tables

-- whole turns, from the first one on
record AreTurns (sizes : CutSizes) (turns : List Turn) : Type 0 where
  values : AreNumbered sizes.own 0 turns
  tables : All (λ t. FitsTables sizes.slice t.tables) turns
  parents : KeepParents turns

-- the turns of a whole cut
abbrev AllTurns : CutSizes → List Turn → Type 0
AllTurns sizes turns = AreTurns sizes turns × (length turns ≡ product sizes.own)

turn-begins : (sizes : CutSizes) (turns : List Turn) (values : List ℕ) → IsNumbered sizes.own (length turns) values → IsTurn sizes turns (record { values = values; tables = [] })
turn-begins sizes turns values h = record { values = h; tables = no-tables sizes.slice; parents = λ k d lt. absurd (omega (arith, lt)) }

turn-grows : (sizes : CutSizes) (turns : List Turn) (turn : Turn) (u : Util) → IsTurn sizes turns turn → FitsUtil sizes.slice u → has_util turn.tables u.var ≡ false → HasParentOf (first_tables turns) u
    → IsTurn sizes turns (record { values = turn.values; tables = turn.tables ++ (u ∷ []) })
turn-grows sizes turns turn u h fit fresh parent = record {
  values = h.values;
  tables = tables-more sizes.slice turn.tables u h.tables fit fresh;
  parents = All-append (HasParentOf (first_tables turns)) turn.tables (u ∷ []) h.parents (All-cons (HasParentOf (first_tables turns)) u [] parent (λ k d lt. absurd (omega (arith, lt))));
}

turns-more : (count : ℕ) (sizes : CutSizes) (turns : List Turn) (turn : Turn) → count ≡ length sizes.slice → AreTurns sizes turns → IsTurn sizes turns turn → lacks_util turn.tables count ≡ false → AreTurns sizes (turns ++ (turn ∷ []))
turns-more count sizes turns turn many h now whole = record {
  values = numbered-push sizes.own 0 (length turns) turns turn h.values (omega arith) now.values;
  tables = All-append (λ t. FitsTables sizes.slice t.tables) turns (turn ∷ []) h.tables (All-cons (λ t. FitsTables sizes.slice t.tables) turn [] (tables-whole count sizes.slice turn.tables many now.tables whole) (λ k d lt. absurd (omega (arith, lt))));
  parents = keep-push turns turn h.parents now.parents;
}

-- the line of a turn, of a table, or the line `end`
turn-fit : (names : List (List ℕ)) (sizes : CutSizes) (t b : Bool) (number over : ℕ) (turns : List Turn) (turn : Turn) (ws : List (List ℕ)) (ls : List Plain) (all : List Turn) (next : Left) → length names ≡ length sizes.slice → AreTurns sizes turns → IsTurn sizes turns turn
    → ((values : List ℕ) → AreTurns sizes (turns ++ (turn ∷ [])) → IsTurn sizes (turns ++ (turn ∷ [])) (record { values = values; tables = [] }) → turns_read names sizes over (turns ++ (turn ∷ [])) (record { values = values; tables = [] }) ls ≡ Ok (all, next) → AllTurns sizes all)
    → ((u : Util) → IsTurn sizes turns (record { values = turn.values; tables = turn.tables ++ (u ∷ []) }) → turns_read names sizes over turns (record { values = turn.values; tables = turn.tables ++ (u ∷ []) }) ls ≡ Ok (all, next) → AllTurns sizes all)
    → cond t (told_at number (all_turns names sizes turns turn) (record { lines = ls; over = over }))
    (cond b (and_then (told_at number (turn_behind names sizes turns turn.tables ws) (record { lines = ls; over = over })) (λ values left. turns_read names sizes over (turns ++ (turn ∷ [])) (record { values = values; tables = [] }) ls))
    (and_then (told_at number (table_in_turn names sizes turns turn.tables ws) (record { lines = ls; over = over })) (λ util left. turns_read names sizes over turns (record { values = turn.values; tables = turn.tables ++ (util ∷ []) }) ls))) ≡ Ok (all, next)
    → AllTurns sizes all
turn-fit names sizes true b number over turns turn ws ls all next many h now behind more e =
    let read = told-inv number (all_turns names sizes turns turn) (record { lines = ls; over = over }) all next e in
    let lacks = lacks_util turn.tables (length names) in
    let test = one-ok (lacks || not (nat_eq (length turns + 1) (product sizes.own))) BadLine (Ok (turns ++ (turn ∷ []))) all read in
    let parts = or_parts lacks (not (nat_eq (length turns + 1) (product sizes.own))) test.0 in
    let count : length turns + 1 ≡ product sizes.own = eqb-true _ _ (not-not (nat_eq (length turns + 1) (product sizes.own)) parts.1) in
    let long = length-append turns (turn ∷ []) in
    subst (AllTurns sizes) (ok-same (turns ++ (turn ∷ [])) all test.1) (turns-more (length names) sizes turns turn many h now parts.0, long ∙ count)
turn-fit names sizes false true number over turns turn ws ls all next many h now behind more e =
    let a = and-inv (told_at number (turn_behind names sizes turns turn.tables ws) (record { lines = ls; over = over })) _ (all, next) e in
    let read = told-inv number (turn_behind names sizes turns turn.tables ws) (record { lines = ls; over = over }) a.0 a.1 a.2 in
    let test = one-ok (lacks_util turn.tables (length names)) BadLine (turn_line sizes.own (length turns + 1) ws) a.0 read in
    let values = turn-fits sizes.own (length turns + 1) ws a.0 test.1 in
    let long : length turns + 1 ≡ length (turns ++ (turn ∷ [])) = sym (length-append turns (turn ∷ [])) in
    behind a.0 (turns-more (length names) sizes turns turn many h now test.0) (turn-begins sizes (turns ++ (turn ∷ [])) a.0 (subst (λ (n : ℕ). IsNumbered sizes.own n a.0) long values)) a.3
turn-fit names sizes false false number over turns turn ws ls all next many h now behind more e =
    let a = and-inv (told_at number (table_in_turn names sizes turns turn.tables ws) (record { lines = ls; over = over })) _ (all, next) e in
    let read = told-inv number (table_in_turn names sizes turns turn.tables ws) (record { lines = ls; over = over }) a.0 a.1 a.2 in
    let test = one-ok (tells_other names (first_tables turns) ws) BadLine (util_line names sizes.slice turn.tables ws) a.0 read in
    let fits = util-fits names sizes.slice turn.tables ws a.0 many test.1 in
    let parent = parent-fits names sizes.slice turn.tables (first_tables turns) ws a.0 test.1 test.0 in
    more a.0 (turn-grows sizes turns turn a.0 now fits.0 fits.1 parent) a.3

turns-fit : (names : List (List ℕ)) (sizes : CutSizes) (over : ℕ) (turns : List Turn) (turn : Turn) (ls : List Plain) (all : List Turn) (next : Left) → length names ≡ length sizes.slice → AreTurns sizes turns → IsTurn sizes turns turn
    → turns_read names sizes over turns turn ls ≡ Ok (all, next) → AllTurns sizes all
turns-fit names sizes over turns turn [] all next many h now e = absurd (cc e)
turns-fit names sizes over turns turn (l ∷ ls) all next many h now e =
    turn-fit names sizes (is_alone (codes "end") l.words) (begins_with (codes "turn") l.words) l.number over turns turn l.words ls all next many h now
    (λ values h now rest. turns-fit names sizes over (turns ++ (turn ∷ [])) (record { values = values; tables = [] }) ls all next many h now rest)
    (λ u now rest. turns-fit names sizes over turns (record { values = turn.values; tables = turn.tables ++ (u ∷ []) }) ls all next many h now rest) e

no-turns : (sizes : CutSizes) → AreTurns sizes []
no-turns sizes = record { values = tt; tables = λ k d lt. absurd (omega (arith, lt)); parents = tt }

-- the turns of a cut, all of them
cut-fits : (f : TextFile) (cut : List ℕ) (left : Left) (turns : List Turn) (next : Left) → IsFile f → AreNamedOnce f.names cut → cut_read f cut left ≡ Ok (turns, next) → FitsCut f.problem.sizes cut turns
cut-fits f cut left turns next file named e =
    let sizes : CutSizes = cut_sizes f.problem.sizes cut in
    let a = and-inv (one_line (turn_line sizes.own 0) left) _ (turns, next) e in
    let line = line-inv (turn_line sizes.own 0) left a.0 a.1 a.2 in
    let first = turn-begins sizes [] a.0 (turn-fits sizes.own 0 line.0 a.0 line.1) in
    let many : length f.names ≡ length (ones_at cut f.problem.sizes) = file.named ∙ sym (length-ones_at cut f.problem.sizes) in
    let all = turns-fit f.names sizes a.1.over [] (record { values = a.0; tables = [] }) a.1.lines turns next many (no-turns sizes) first a.3 in
    record {
      distinct = named.0;
      within = subst (λ (n : ℕ). All (λ v. v < n) cut) file.named named.1;
      values = numbered-all sizes.own turns all.0.values all.1;
      tables = all.0.tables;
      parents = all.0.parents;
    }

evidence-fits : (f : TextFile) (form : Form) (left : Left) (method : Method) (certificate : Certificate) (next : Left) → IsFile f → FitsForm f.names method form
    → evidence_read f form left ≡ Ok (certificate, next) → FitsCertificate f.problem.sizes method certificate
evidence-fits f forms.Tables left method certificate next file is e =
    let a = and-inv (tables_read f.names f.problem.sizes left.over [] left.lines) _ (certificate, next) e in
    let fit = tables-fit f left.over [] left.lines a.0 a.1 file (no-tables f.problem.sizes) a.2 in
    subst (λ (c : Certificate). FitsCertificate f.problem.sizes method c) (pair-same (Tables a.0) certificate a.1 next a.3) (is, tables-whole (length f.names) f.problem.sizes a.0 file.named fit.0 fit.1)
evidence-fits f forms.Log left method certificate next file is e =
    let a = and-inv (events_read f.names left.over [] left.lines) _ (certificate, next) e in
    let fit = events-fit f left.over [] left.lines a.0 a.1 (λ k d h. absurd (omega (arith, h))) a.2 in
    let sized : All (FitsEvent (length f.problem.sizes)) a.0 = subst (λ (n : ℕ). All (FitsEvent n) a.0) file.named fit in
    subst (λ (c : Certificate). FitsCertificate f.problem.sizes method c) (pair-same (Log a.0) certificate a.1 next a.3) (is, sized)
evidence-fits f (forms.Cut cut) left method certificate next file is e =
    let a = and-inv (cut_read f cut left) _ (certificate, next) e in
    let fit = cut-fits f cut left a.0 a.1 file is.1 a.2 in
    subst (λ (c : Certificate). FitsCertificate f.problem.sizes method c) (pair-same (Cut cut a.0) certificate a.1 next a.3) (is.0, fit)

-- a cut's variables, as the first line of its certificate tells them
pub cut-within : (names : List (List ℕ)) (method : Method) (left : Left) (cut : List ℕ) (next : Left) (count : ℕ) → length names ≡ count → one_line (certificate_line names method) left ≡ Ok (forms.Cut cut, next) → All (λ v. v < count) cut
cut-within names method left cut next count many e =
    let line = line-inv (certificate_line names method) left (forms.Cut cut) next e in
    let fits = certificate-fits names method line.0 (forms.Cut cut) line.1 in
    subst (λ (n : ℕ). All (λ v. v < n) cut) many fits.1.1

certificate-read-fits : (f : TextFile) (method : Method) (left : Left) (certificate : Certificate) (next : Left) → IsFile f
    → certificate_read f method left ≡ Ok (certificate, next) → FitsCertificate f.problem.sizes method certificate
certificate-read-fits f method left certificate next file e =
    let a = and-inv (one_line (certificate_line f.names method) left) _ (certificate, next) e in
    let line = line-inv (certificate_line f.names method) left a.0 a.1 a.2 in
    evidence-fits f a.0 a.1 method certificate next file (certificate-fits f.names method line.0 a.0 line.1) a.3

whole-same : (made : Report) (ls : List Plain) (r : Report) → nothing_behind made ls ≡ Ok r → made ≡ r
whole-same made [] r e = ok-same made r e
whole-same made (l ∷ ls) r e = absurd (cc e)

-- a report that was read fits its file
pub read-fits : (bytes : List ℕ) (f : TextFile) (r : Report) → IsFile f → report_read bytes f ≡ Ok r → HasFit f r
read-fits bytes f r file e =
    let a = and-inv (head_read f.goal (whole bytes)) _ r e in
    let b = and-inv (bounds_read a.1) _ r a.3 in
    let c = and-inv (values_read f.names f.labels f.problem.sizes b.1) _ r b.3 in
    let d = and-inv (certificate_read f a.0.method c.1) _ r c.3 in
    let head = head-fits f.goal (whole bytes) a.0 a.1 a.2 in
    let bounds = bounds-fit a.1 b.0 b.1 b.2 in
    subst (λ (r : Report). HasFit f r) (whole-same (report_of a.0 b.0 c.0 d.0) d.1.lines r d.3) (
      refl,
      record {
        values = values-fit f.names f.labels f.problem.sizes b.1 c.0 c.1 file.named file.labels c.2;
        error = head.error;
        deliveries = head.deliveries;
        cost = bounds.cost;
        lower = bounds.lower;
        upper = bounds.upper;
        certificate = certificate-read-fits f a.0.method c.1 d.0 d.1 file d.2;
        goal = head.goal;
      },
    )

-- what code gave, where it gave a report
pub result-fits : (bytes : List ℕ) (f : TextFile) (result : Result Report ReportFault) → ReadsReport bytes f result → ((r : Report) → report_read bytes f ≡ Ok r → HasFit f r) → IfOk result (HasFit f)
result-fits bytes f (Ok r) reads fits = fits r reads
result-fits bytes f (Err e) reads fits = tt
