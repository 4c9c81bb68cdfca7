-- What is written of a report that fits its file is read as that report.
use Rattle.std.proofs.Common.{◌≡◌, ℕ, ◌+◌, ◌^◌, ◌<◌, ◌≤◌, true, false, List, [], ◌∷◌, ◌++◌, length, map, get_or, Option, Some, None, Ok, nat_eq, refl, sym, ap, ◌∙◌, subst, arith, append_assoc, Result}
use Rattle.std.specs.List.{list_all, All, AllZip, flat_map, count_by}
use Rattle.std.specs.Prelude.{codes, IfSome, IsTrue, is_some, ◌⊎◌}
use Rattle.std.proofs.Common.{inl, inr}
use Rattle.std.specs.Fmt.{decimal}
use Rattle.std.proofs.lemmas.List.{append-nil, length-map}
use Rattle.std.proofs.lemmas.List.Elements.{All-head, All-tail, All-cons}
use Rattle.std.proofs.lemmas.List.Folds.{list_all-append}
use Rattle.std.proofs.lemmas.Bool.{and_parts, eq-eqb, false≢true}
use Rattle.dcop_base.specs.Table.{product, AreWithin}
use Rattle.dcop_base.specs.Whole.{IsProblem}
use Rattle.cost_table.proofs.RunLaws.{product-some}
use Rattle.cost_table.proofs.ProblemCutLaws.{length-ones_at}
use Rattle.protocol_steps.proofs.ValueLaws.{length-choices}
use Rattle.problem_text.specs.declared.file.Goal.{Goal}
use Rattle.problem_text.specs.declared.file.Goal.TheVariants.{Min, Max}
use Rattle.problem_text.specs.Name.{is_name}
use Rattle.problem_text.specs.File.{TextFile, IsFile, AreLabels}
use Rattle.problem_text.specs.Canonical.{line, goal_lines}
use Rattle.problem_text.proofs.RoundTripLaws.{is_word, is_line, plain_worded, plain-lines-of-words}
use Rattle.problem_text.proofs.DecimalLaws.{decimal-word}
use Rattle.problem_text.proofs.TableTextLaws.{name-at}
use Rattle.problem_text.proofs.CanonicalLaws.{name-word, scope-words, cells-words}
use Rattle.run_log.specs.declared.log.LogEvent.{LogEvent}
use Rattle.run_log.specs.LogText.{event_words, FitsEvent}
use Rattle.run_log.proofs.EventLineLaws.{event_again, events_plain}
use Rattle.certificate_text.specs.declared.certificate.Certificate.{Certificate}
use Rattle.certificate_text.specs.declared.certificate.Certificate.TheVariants.{Tables, Log, Cut as Turns}
use Rattle.certificate_text.specs.declared.certificate.Turn.{Turn}
use Rattle.certificate_text.specs.declared.certificate.Util.{Util}
use Rattle.certificate_text.specs.declared.report.Ending.{Ending}
use Rattle.certificate_text.specs.declared.report.Ending.TheVariants.{Solved, Spent}
use Rattle.certificate_text.specs.declared.report.Method.{Method}
use Rattle.certificate_text.specs.declared.report.Method.TheVariants.{Plain, Dpop, Adopt, Cut}
use Rattle.certificate_text.specs.declared.report.Report.{Report}
use Rattle.certificate_text.specs.CertificateText.{parent_word, util_words, cut_words, turn_words, turn_lines, certificate_lines}
use Rattle.certificate_text.specs.ReportText.{ending_word, method_word, head_lines, bound_lines, value_words, value_lines, report_lines, report_text}
use Rattle.report_reader.specs.UtilLine.{lacks_util}
use Rattle.report_reader.specs.ReportLines.{Fault, Left, one_line}
use Rattle.report_reader.specs.ReportReading.{head_read, bounds_read, values_read, tables_read, events_read, certificate_read, lines_read, report_read}
use Rattle.report_reader.specs.declared.turns.CutSizes.{CutSizes}
use Rattle.report_reader.specs.TurnReading.{cut_sizes, cut_read}
use Rattle.report_reader.specs.declared.certificate_line.Form.TheVariants as forms
use Rattle.report_reader.specs.CertificateLine.{certificate_line}
use Rattle.certificate_text.specs.Fits.{Fits, FitsUtil, FitsTables, FitsCut, FitsCertificate}
use Rattle.report_reader.proofs.LineAgainLaws.{status-again, method-again, number-again, value-again, util-again, fresh-before, turn-again, cut-again}
use Rattle.report_reader.proofs.TurnFitsLaws.{AreNumbered}
use Rattle.report_reader.proofs.TurnAgainLaws.{choices-numbered, whole-tables, turns-again, tables-in-turn}

-- the lines with these words, the first of which has this number
abbrev left_of : ℕ → ℕ → List (List (List ℕ)) → Left
left_of over number wss = record { lines = plain_worded number wss; over = over }

-- lines with these words are read as this, whatever stands behind them
abbrev Tells : {A : Type 0} → (Left → Result (A × Left) Fault) → List (List (List ℕ)) → A → Type 0
Tells read wss x = (over number : ℕ) (later : List (List (List ℕ))) → (next : ℕ) × (read (left_of over number (wss ++ later)) ≡ Ok (x, left_of over next later))

-- the lines above the cost
abbrev top_lines : Ending → Method → Goal → ℕ → ℕ → List (List (List ℕ))
top_lines status method goal error deliveries =
    ((codes "status" ∷ ending_word status ∷ []) ∷ (codes "method" ∷ method_word method ∷ []) ∷ goal_lines goal)
    ++ ((codes "error" ∷ decimal error ∷ []) ∷ (codes "deliveries" ∷ decimal deliveries ∷ []) ∷ [])

head-again : (status : Ending) (method : Method) (goal : Goal) (error deliveries : ℕ) → error ≤ 4611686018427387904 → deliveries ≤ 4611686018427387904
    → Tells (head_read goal) (top_lines status method goal error deliveries) (record { status = status; method = method; goal = goal; error = error; deliveries = deliveries })
head-again status method Min error deliveries e d = λ over number later.
    (number + 1 + 1 + 1 + 1, rw (status-again status, method-again method, number-again (codes "error") error e, number-again (codes "deliveries") deliveries d) refl)
head-again status method Max error deliveries e d = λ over number later.
    (number + 1 + 1 + 1 + 1 + 1, rw (status-again status, method-again method, number-again (codes "error") error e, number-again (codes "deliveries") deliveries d) refl)

-- the lines of the cost and the bounds
abbrev cost_lines : ℕ → ℕ → ℕ → List (List (List ℕ))
cost_lines cost lower upper = (codes "cost" ∷ decimal cost ∷ []) ∷ (codes "lower" ∷ decimal lower ∷ []) ∷ (codes "upper" ∷ decimal upper ∷ []) ∷ []

bounds-again : (cost lower upper : ℕ) → cost ≤ 4611686018427387904 → lower ≤ 4611686018427387904 → upper ≤ 4611686018427387904
    → Tells bounds_read (cost_lines cost lower upper) (record { cost = cost; lower = lower; upper = upper })
bounds-again cost lower upper c l u = λ over number later.
    (number + 1 + 1 + 1, rw (number-again (codes "cost") cost c, number-again (codes "lower") lower l, number-again (codes "upper") upper u) refl)

-- the values, each of its variable
values-again : (names : List (List ℕ)) (labels : List (List (List ℕ))) (sizes values : List ℕ) → length names ≡ length sizes → AllZip AreLabels sizes labels → AllZip (λ v s. v < s) values sizes → All (λ s. s ≤ 1024) sizes
    → Tells (values_read names labels sizes) (value_lines names labels values) values
values-again [] [] [] [] many fit below small = λ over number later. (number, refl)
values-again [] [] [] (v ∷ vs) many fit below small = absurd below
values-again [] labels (s ∷ ss) values many fit below small = absurd (omega (arith, many))
values-again (n ∷ ns) labels [] values many fit below small = absurd (omega (arith, many))
values-again [] (l ∷ ls) [] values many fit below small = absurd fit
values-again (n ∷ ns) [] (s ∷ ss) values many fit below small = absurd fit
values-again (n ∷ ns) (l ∷ ls) (s ∷ ss) [] many fit below small = absurd below
values-again (n ∷ ns) (l ∷ ls) (s ∷ ss) (v ∷ vs) many fit below small = λ over number later.
    let again = value-again n l s v fit.0 below.0 (All-head (λ s. s ≤ 1024) s ss small) in
    let rest = values-again ns ls ss vs (omega (arith, many)) fit.1 below.1 (All-tail (λ s. s ≤ 1024) s ss small) over (number + 1) later in
    (rest.0, rw (again, rest.1) refl)

-- the tables, behind others, where each variable has one of all, and the line `end`
utils-again : (f : TextFile) (done utils : List Util) (over number : ℕ) → IsFile f → All (FitsUtil f.problem.sizes) utils → ((var : ℕ) → var < length f.problem.sizes → count_by (λ u. nat_eq u.var var) (done ++ utils) ≡ 1)
    → lacks_util (done ++ utils) (length f.names) ≡ false
    → tables_read f.names f.problem.sizes over done (plain_worded number (map (util_words f.names) utils ++ ((codes "end" ∷ []) ∷ []))) ≡ Ok (done ++ utils, record { lines = []; over = over })
utils-again f done [] over number file each one whole =
    let all : lacks_util done (length f.names) ≡ false = subst (λ (us : List Util). lacks_util us (length f.names) ≡ false) (append-nil done) whole in
    rw (append-nil done, all) refl
utils-again f done (u ∷ us) over number file each one whole =
    let fit = All-head (FitsUtil f.problem.sizes) u us each in
    let fresh = fresh-before u.var done u us (eq-eqb u.var u.var refl) (one u.var fit.named.own) in
    let again = util-again f.names f.problem.sizes done u file.distinct file.names file.named fit fresh in
    let same : (done ++ (u ∷ [])) ++ us ≡ done ++ (u ∷ us) = append_assoc done (u ∷ []) us in
    let later = λ (var : ℕ) (h : var < length f.problem.sizes). ap (λ (us : List Util). count_by (λ u. nat_eq u.var var) us) same ∙ one var h in
    let rest = utils-again f (done ++ (u ∷ [])) us over (number + 1) file (All-tail (FitsUtil f.problem.sizes) u us each) later (ap (λ (us : List Util). lacks_util us (length f.names)) same ∙ whole) in
    rw again (subst (λ (all : List Util). tables_read f.names f.problem.sizes over (done ++ (u ∷ [])) (plain_worded (number + 1) (map (util_words f.names) us ++ ((codes "end" ∷ []) ∷ []))) ≡ Ok (all, record { lines = []; over = over })) same rest)

-- the events, behind others, and the line `end`
events-again : (f : TextFile) (done log : List LogEvent) (over number : ℕ) → IsFile f → All (FitsEvent (length f.names)) log
    → events_read f.names over done (plain_worded number (map (event_words f.names) log ++ ((codes "end" ∷ []) ∷ []))) ≡ Ok (done ++ log, record { lines = []; over = over })
events-again f done [] over number file each = rw (append-nil done) refl
events-again f done (e ∷ es) over number file each =
    let again = event_again f.names e file.distinct (All-head (FitsEvent (length f.names)) e es each) in
    let rest = events-again f (done ++ (e ∷ [])) es over (number + 1) file (All-tail (FitsEvent (length f.names)) e es each) in
    rw again (subst (λ (all : List LogEvent). events_read f.names over (done ++ (e ∷ [])) (plain_worded (number + 1) (map (event_words f.names) es ++ ((codes "end" ∷ []) ∷ []))) ≡ Ok (all, record { lines = []; over = over })) (append_assoc done (e ∷ []) es) rest)

-- the lines of a certificate, and the line `end`, are read as the certificate
abbrev IsReadAgain : TextFile → Method → Certificate → Type 0
IsReadAgain f method certificate = (over number : ℕ)
    → certificate_read f method (left_of over number (certificate_lines f.names certificate ++ ((codes "end" ∷ []) ∷ []))) ≡ Ok (certificate, record { lines = []; over = over })

-- a certificate's first line, and its tables
tables-behind : (f : TextFile) (method : Method) (utils : List Util) (over number : ℕ) (later : List (List (List ℕ))) (left : Left) → method ≡ Dpop
    → tables_read f.names f.problem.sizes over [] (plain_worded (number + 1) later) ≡ Ok (utils, left)
    → certificate_read f method (left_of over number ((codes "certificate" ∷ codes "tables" ∷ []) ∷ later)) ≡ Ok (Tables utils, left)
tables-behind f method utils over number later left is tables =
    let first : one_line (certificate_line f.names method) (left_of over number ((codes "certificate" ∷ codes "tables" ∷ []) ∷ later)) ≡ Ok (forms.Tables, left_of over (number + 1) later) = rw is refl in
    rw (first, tables) refl

tables-again : (f : TextFile) (method : Method) (utils : List Util) → IsFile f → method ≡ Dpop → FitsTables f.problem.sizes utils → IsReadAgain f method (Tables utils)
tables-again f method utils file is fit over number =
    tables-behind f method utils over number (map (util_words f.names) utils ++ ((codes "end" ∷ []) ∷ [])) (record { lines = []; over = over }) is
    (utils-again f [] utils over (number + 1) file fit.each fit.one (whole-tables (length f.names) f.problem.sizes utils file.named fit))

-- a certificate's first line, and its events
events-behind : (f : TextFile) (method : Method) (log : List LogEvent) (over number : ℕ) (later : List (List (List ℕ))) (left : Left) → method ≡ Adopt
    → events_read f.names over [] (plain_worded (number + 1) later) ≡ Ok (log, left)
    → certificate_read f method (left_of over number ((codes "certificate" ∷ codes "log" ∷ []) ∷ later)) ≡ Ok (Log log, left)
events-behind f method log over number later left is events =
    let first : one_line (certificate_line f.names method) (left_of over number ((codes "certificate" ∷ codes "log" ∷ []) ∷ later)) ≡ Ok (forms.Log, left_of over (number + 1) later) = rw is refl in
    rw (first, events) refl

log-again : (f : TextFile) (method : Method) (log : List LogEvent) → IsFile f → method ≡ Adopt → All (FitsEvent (length f.names)) log → IsReadAgain f method (Log log)
log-again f method log file is fit over number =
    events-behind f method log over number (map (event_words f.names) log ++ ((codes "end" ∷ []) ∷ [])) (record { lines = []; over = over }) is
    (events-again f [] log over (number + 1) file fit)

-- the sizes of a problem are small
small-sizes : (f : TextFile) → IsProblem f.problem → All (λ s. s ≤ 1024) f.problem.sizes
small-sizes f p = λ (k d : ℕ) (h : k < length f.problem.sizes). let s = p.sizes k d h in let b : get_or f.problem.sizes k d ≤ 1024 = s.1 in b

some-sizes : (f : TextFile) → IsProblem f.problem → All (λ s. 1 ≤ s) f.problem.sizes
some-sizes f p = λ (k d : ℕ) (h : k < length f.problem.sizes). let s = p.sizes k d h in let b : 1 ≤ get_or f.problem.sizes k d = s.0 in b

-- a cut's first line, and its turns
cut-behind : (f : TextFile) (method : Method) (cut : List ℕ) (turns : List Turn) (over number : ℕ) (later : List (List (List ℕ))) (left : Left) → method ≡ Cut → certificate_line f.names Cut (cut_words f.names cut) ≡ Ok (forms.Cut cut)
    → cut_read f cut (left_of over (number + 1) later) ≡ Ok (turns, left)
    → certificate_read f method (left_of over number (cut_words f.names cut ∷ later)) ≡ Ok (Turns cut turns, left)
cut-behind f method cut turns over number later left is line read =
    let first : one_line (certificate_line f.names method) (left_of over number (cut_words f.names cut ∷ later)) ≡ Ok (forms.Cut cut, left_of over (number + 1) later) = rw (is, line) refl in
    rw (first, read) refl

-- sizes of cut variables
own-sizes : (P : ℕ → Type 0) (sizes cut : List ℕ) → All P sizes → All (λ v. v < length sizes) cut → All P (map (λ v. get_or sizes v 0) cut)
own-sizes P sizes [] all within = λ k d lt. absurd (omega (arith, lt))
own-sizes P sizes (v ∷ vs) all within =
    All-cons P (get_or sizes v 0) (map (λ v. get_or sizes v 0) vs) (all v 0 (All-head (λ v. v < length sizes) v vs within)) (own-sizes P sizes vs all (All-tail (λ v. v < length sizes) v vs within))

-- the turns of a cut, and the line `end`
cut-turns : (f : TextFile) (cut : List ℕ) (turns : List Turn) (over number : ℕ) → IsFile f → IsProblem f.problem → FitsCut f.problem.sizes cut turns
    → cut_read f cut (left_of over number (flat_map (turn_lines f.names) turns ++ ((codes "end" ∷ []) ∷ []))) ≡ Ok (turns, record { lines = []; over = over })
cut-turns f cut turns over number file p fit =
    let sizes : CutSizes = cut_sizes f.problem.sizes cut in
    let long : length (map (λ (t : Turn). t.values) turns) ≡ length turns = length-map turns (λ (t : Turn). t.values) in
    let count : length turns ≡ product sizes.own = sym long ∙ ap (λ (vs : List (List ℕ)). length vs) fit.values ∙ length-choices sizes.own in
    let small = own-sizes (λ s. s ≤ 1024) f.problem.sizes cut (small-sizes f p) fit.within in
    let some = product-some sizes.own (own-sizes (λ s. 1 ≤ s) f.problem.sizes cut (some-sizes f p) fit.within) in
    cases turns count some small fit
  where
    cases : (turns : List Turn) → length turns ≡ product (map (λ v. get_or f.problem.sizes v 0) cut) → 1 ≤ product (map (λ v. get_or f.problem.sizes v 0) cut) → All (λ s. s ≤ 1024) (map (λ v. get_or f.problem.sizes v 0) cut) → FitsCut f.problem.sizes cut turns
        → cut_read f cut (left_of over number (flat_map (turn_lines f.names) turns ++ ((codes "end" ∷ []) ∷ []))) ≡ Ok (turns, record { lines = []; over = over })
    cases [] count some small fit = absurd (omega (arith, count, some))
    cases (t ∷ ts) count some small fit =
        let sizes : CutSizes = cut_sizes f.problem.sizes cut in
        let end : List (List (List ℕ)) = (codes "end" ∷ []) ∷ [] in
        let behind = flat_map (turn_lines f.names) ts ++ end in
        let many : length f.names ≡ length sizes.slice = file.named ∙ sym (length-ones_at cut f.problem.sizes) in
        let numbered = choices-numbered sizes.own (t ∷ ts) fit.values count in
        let line = turn-again sizes.own 0 t.values numbered.0 small in
        let own = All-head (λ (t : Turn). FitsTables sizes.slice t.tables) t ts fit.tables in
        let rest = λ (m : ℕ). turns-again f sizes [] t ts over m file many small own (All-tail (λ (t : Turn). FitsTables sizes.slice t.tables) t ts fit.tables) numbered.1 (omega (arith, count)) fit.parents in
        let read : Result (List Turn × Left) Fault = Ok (t ∷ ts, record { lines = []; over = over }) in
        let tables = tables-in-turn f sizes [] t.values [] t.tables over (number + 1) behind read file many own.each own.one (λ k d lt j e h. absurd (omega (arith, h))) rest in
        let lines : flat_map (turn_lines f.names) (t ∷ ts) ++ end ≡ turn_words t.values ∷ (map (util_words f.names) t.tables ++ behind) =
        ap (λ (rows : List (List (List ℕ))). turn_words t.values ∷ rows) (append_assoc (map (util_words f.names) t.tables) (flat_map (turn_lines f.names) ts) end) in
        subst (λ (rows : List (List (List ℕ))). cut_read f cut (left_of over number rows) ≡ read) (sym lines) (rw line tables)

cut-read-again : (f : TextFile) (method : Method) (cut : List ℕ) (turns : List Turn) → IsFile f → IsProblem f.problem → method ≡ Cut → FitsCut f.problem.sizes cut turns → IsReadAgain f method (Turns cut turns)
cut-read-again f method cut turns file p is fit over number =
    let within : All (λ v. v < length f.names) cut = subst (λ (n : ℕ). All (λ v. v < n) cut) (sym file.named) fit.within in
    cut-behind f method cut turns over number (flat_map (turn_lines f.names) turns ++ ((codes "end" ∷ []) ∷ [])) (record { lines = []; over = over }) is
    (cut-again f.names cut file.distinct fit.distinct within) (cut-turns f cut turns over (number + 1) file p fit)

-- lines of plain words
status-plain : (status : Ending) → is_line (codes "status" ∷ ending_word status ∷ []) ≡ true
status-plain Solved = refl
status-plain Spent = refl

method-plain : (method : Method) → is_line (codes "method" ∷ method_word method ∷ []) ≡ true
method-plain Plain = refl
method-plain Dpop = refl
method-plain Adopt = refl
method-plain Cut = refl

goal-plain : (goal : Goal) → list_all is_line (goal_lines goal) ≡ true
goal-plain Min = refl
goal-plain Max = refl

capped-word : (n : ℕ) → n ≤ 4611686018427387904 → is_word (decimal n) ≡ true
capped-word n h = decimal-word n (omega (arith, h))

head-plain : (status : Ending) (method : Method) (goal : Goal) (error deliveries : ℕ) → error ≤ 4611686018427387904 → deliveries ≤ 4611686018427387904 → list_all is_line (top_lines status method goal error deliveries) ≡ true
head-plain status method goal error deliveries e d =
    rw (status-plain status, method-plain method, list_all-append is_line (goal_lines goal) ((codes "error" ∷ decimal error ∷ []) ∷ (codes "deliveries" ∷ decimal deliveries ∷ []) ∷ []), goal-plain goal, capped-word error e, capped-word deliveries d) refl

bounds-plain : (cost lower upper : ℕ) → cost ≤ 4611686018427387904 → lower ≤ 4611686018427387904 → upper ≤ 4611686018427387904 → list_all is_line (cost_lines cost lower upper) ≡ true
bounds-plain cost lower upper c l u = rw (capped-word cost c, capped-word lower l, capped-word upper u) refl

value-plain : (name : List ℕ) (labels : List (List ℕ)) (size value : ℕ) → is_name name ≡ true → AreLabels size labels → value < size → size ≤ 1024 → is_line (value_words name labels value) ≡ true
value-plain name [] size value named fit below small = rw (name-word name named, decimal-word value (omega (arith, below, small))) refl
value-plain name (l ∷ ls) size value named fit below small =
    rw (name-word name named, name-word (get_or (l ∷ ls) value []) (name-at (l ∷ ls) value fit.names (many fit.many))) refl
  where
    many : ((l ∷ ls) ≡ []) ⊎ (length (l ∷ ls) ≡ size) → value < length (l ∷ ls)
    many (inl e) = absurd (cc e)
    many (inr e) = omega (arith, e, below)

values-plain : (names : List (List ℕ)) (labels : List (List (List ℕ))) (sizes values : List ℕ) → list_all is_name names ≡ true → AllZip AreLabels sizes labels → AllZip (λ v s. v < s) values sizes → All (λ s. s ≤ 1024) sizes → list_all is_line (value_lines names labels values) ≡ true
values-plain [] labels sizes values named fit below small = refl
values-plain (n ∷ ns) [] sizes values named fit below small = refl
values-plain (n ∷ ns) (l ∷ ls) sizes [] named fit below small = refl
values-plain (n ∷ ns) (l ∷ ls) [] (v ∷ vs) named fit below small = absurd below
values-plain (n ∷ ns) (l ∷ ls) (s ∷ ss) (v ∷ vs) named fit below small =
    let parts = and_parts (is_name n) (list_all is_name ns) named in
    rw (value-plain n l s v parts.0 fit.0 below.0 (All-head (λ s. s ≤ 1024) s ss small), values-plain ns ls ss vs parts.1 fit.1 below.1 (All-tail (λ s. s ≤ 1024) s ss small)) refl

parent-plain : (names : List (List ℕ)) (parent : Option ℕ) → list_all is_name names ≡ true → IfSome parent (λ p. p < length names) → is_word (parent_word names parent) ≡ true
parent-plain names None named within = refl
parent-plain names (Some p) named within = name-word (get_or names p []) (name-at names p named within)

util-plain : (names : List (List ℕ)) (sizes : List ℕ) (u : Util) → list_all is_name names ≡ true → length names ≡ length sizes → FitsUtil sizes u → is_line (util_words names u) ≡ true
util-plain names sizes u named many fit =
    let own : u.var < length names = subst (λ (n : ℕ). u.var < n) (sym many) fit.named.own in
    let parent : IfSome u.parent (λ p. p < length names) = subst (λ (n : ℕ). IfSome u.parent (λ p. p < n)) (sym many) fit.named.parent in
    let within : All (λ v. v < length names) u.scope = subst (λ (n : ℕ). All (λ v. v < n) u.scope) (sym many) fit.named.scope in
    let small = λ (k d : ℕ) (h : k < length u.cells). let c : get_or u.cells k d ≤ 4611686018427387904 = fit.cells k d h in let r : get_or u.cells k d < 2 ^ 64 = omega arith in r in
    rw (name-word (get_or names u.var []) (name-at names u.var named own), parent-plain names u.parent named parent, list_all-append is_word (map (λ v. get_or names v []) u.scope) (codes ":" ∷ map decimal u.cells), scope-words names u.scope named within, cells-words u.cells small) refl

utils-plain : (names : List (List ℕ)) (sizes : List ℕ) (utils : List Util) → list_all is_name names ≡ true → length names ≡ length sizes → All (FitsUtil sizes) utils → list_all is_line (map (util_words names) utils) ≡ true
utils-plain names sizes [] named many each = refl
utils-plain names sizes (u ∷ us) named many each =
    rw (util-plain names sizes u named many (All-head (FitsUtil sizes) u us each), utils-plain names sizes us named many (All-tail (FitsUtil sizes) u us each)) refl

-- the values of turns
told-plain : (sizes values : List ℕ) → AreWithin sizes values → All (λ s. s ≤ 1024) sizes → list_all is_word (map decimal values) ≡ true
told-plain [] [] within small = refl
told-plain [] (v ∷ vs) within small = absurd within
told-plain (s ∷ ss) [] within small = absurd within
told-plain (s ∷ ss) (v ∷ vs) within small =
    let most : s ≤ 1024 = All-head (λ s. s ≤ 1024) s ss small in
    let below : v < s = within.0 in
    rw (decimal-word v (omega (arith, below, most)), told-plain ss vs within.1 (All-tail (λ s. s ≤ 1024) s ss small)) refl

turns-plain : (names : List (List ℕ)) (own slice : List ℕ) (number : ℕ) (turns : List Turn) → list_all is_name names ≡ true → length names ≡ length slice → All (λ s. s ≤ 1024) own → AreNumbered own number turns → All (λ t. FitsTables slice t.tables) turns → list_all is_line (flat_map (turn_lines names) turns) ≡ true
turns-plain names own slice number [] named many small numbered each = refl
turns-plain names own slice number (t ∷ ts) named many small numbered each =
    let fit = All-head (λ (t : Turn). FitsTables slice t.tables) t ts each in
    rw (
      list_all-append is_line (map (util_words names) t.tables) (flat_map (turn_lines names) ts),
      told-plain own t.values numbered.0.within small,
      utils-plain names slice t.tables named many fit.each,
      turns-plain names own slice (number + 1) ts named many small numbered.1 (All-tail (λ (t : Turn). FitsTables slice t.tables) t ts each),
    ) refl

cut-plain : (f : TextFile) (cut : List ℕ) (turns : List Turn) → IsFile f → IsProblem f.problem → FitsCut f.problem.sizes cut turns → list_all is_line (certificate_lines f.names (Turns cut turns)) ≡ true
cut-plain f cut turns file p fit =
    let sizes : CutSizes = cut_sizes f.problem.sizes cut in
    let within : All (λ v. v < length f.names) cut = subst (λ (n : ℕ). All (λ v. v < n) cut) (sym file.named) fit.within in
    let many : length f.names ≡ length sizes.slice = file.named ∙ sym (length-ones_at cut f.problem.sizes) in
    let long : length (map (λ (t : Turn). t.values) turns) ≡ length turns = length-map turns (λ (t : Turn). t.values) in
    let count : length turns ≡ product sizes.own = sym long ∙ ap (λ (vs : List (List ℕ)). length vs) fit.values ∙ length-choices sizes.own in
    let small = own-sizes (λ s. s ≤ 1024) f.problem.sizes cut (small-sizes f p) fit.within in
    rw (scope-words f.names cut file.names within, turns-plain f.names sizes.own sizes.slice 0 turns file.names many small (choices-numbered sizes.own turns fit.values count) fit.tables) refl

-- a certificate that fits is one of plain words, and it is read again
record IsAgain (f : TextFile) (method : Method) (certificate : Certificate) : Type 0 where
  plain : list_all is_line (certificate_lines f.names certificate) ≡ true
  read : IsReadAgain f method certificate

certificate-again : (f : TextFile) (method : Method) (certificate : Certificate) → IsFile f → IsProblem f.problem → FitsCertificate f.problem.sizes method certificate → IsAgain f method certificate
certificate-again f method (Tables utils) file p fit = record {
  plain = utils-plain f.names f.problem.sizes utils file.names file.named fit.1.each;
  read = tables-again f method utils file fit.0 fit.1;
}
certificate-again f method (Log log) file p fit =
    let named : All (FitsEvent (length f.names)) log = subst (λ (n : ℕ). All (FitsEvent n) log) (sym file.named) fit.1 in
    record { plain = events_plain f.names log file.names named; read = log-again f method log file fit.0 named }
certificate-again f method (Turns cut turns) file p fit =
    record { plain = cut-plain f cut turns file p fit.1; read = cut-read-again f method cut turns file p fit.0 fit.1 }

-- the lines of a report with this certificate, one part behind the other
abbrev lines_with : Report → TextFile → Certificate → List (List (List ℕ))
lines_with r f certificate =
    head_lines r ++ (bound_lines r ++ (value_lines f.names f.labels r.values ++ (certificate_lines f.names certificate ++ ((codes "end" ∷ []) ∷ []))))

lines-with : (r : Report) (f : TextFile) (certificate : Certificate) → r.certificate ≡ Some certificate → report_lines r f ≡ lines_with r f certificate
lines-with r f certificate is =
    let head = head_lines r in
    let bounds = bound_lines r in
    let values = value_lines f.names f.labels r.values in
    let evidence = certificate_lines f.names certificate in
    let end : List (List (List ℕ)) = (codes "end" ∷ []) ∷ [] in
    let same : report_lines r f ≡ (((head ++ bounds) ++ values) ++ evidence) ++ end = rw is refl in
    same ∙ append_assoc ((head ++ bounds) ++ values) evidence end ∙ append_assoc (head ++ bounds) values (evidence ++ end) ∙ append_assoc head bounds (values ++ (evidence ++ end))

lines-again : (r : Report) (f : TextFile) (certificate : Certificate) (over : ℕ) → IsFile f → IsProblem f.problem → Fits r f → r.certificate ≡ Some certificate → IsReadAgain f r.method certificate
    → lines_read f (left_of over 1 (lines_with r f certificate)) ≡ Ok r
lines-again r f certificate over file p fits is again =
    let rows = certificate_lines f.names certificate ++ ((codes "end" ∷ []) ∷ []) in
    let lines = value_lines f.names f.labels r.values ++ rows in
    let head = head-again r.status r.method r.goal r.error r.deliveries fits.error fits.deliveries over 1 (bound_lines r ++ lines) in
    let bounds = bounds-again r.cost r.lower r.upper fits.cost fits.lower fits.upper over head.0 lines in
    let values = values-again f.names f.labels f.problem.sizes r.values file.named file.labels fits.values (small-sizes f p) over bounds.0 rows in
    rw (← fits.goal, head.1, bounds.1, values.1, again over values.0, ← is) refl

plain-report : (r : Report) (f : TextFile) (certificate : Certificate) → IsFile f → IsProblem f.problem → Fits r f → list_all is_line (certificate_lines f.names certificate) ≡ true → list_all is_line (lines_with r f certificate) ≡ true
plain-report r f certificate file p fits plain =
    let end : List (List (List ℕ)) = (codes "end" ∷ []) ∷ [] in
    let values = value_lines f.names f.labels r.values in
    let rows = certificate_lines f.names certificate in
    rw (
      list_all-append is_line (head_lines r) (bound_lines r ++ (values ++ (rows ++ end))),
      list_all-append is_line (bound_lines r) (values ++ (rows ++ end)),
      list_all-append is_line values (rows ++ end),
      list_all-append is_line rows end,
      head-plain r.status r.method r.goal r.error r.deliveries fits.error fits.deliveries,
      bounds-plain r.cost r.lower r.upper fits.cost fits.lower fits.upper,
      values-plain f.names f.labels f.problem.sizes r.values file.names file.labels fits.values (small-sizes f p),
      plain,
    ) refl

-- a report with a certificate that fits
certified-again : (r : Report) (f : TextFile) (certificate : Certificate) → r.certificate ≡ Some certificate → IsAgain f r.method certificate → IsFile f → IsProblem f.problem → Fits r f → report_read (report_text r f) f ≡ Ok r
certified-again r f certificate is again file p fits =
    let wss = lines_with r f certificate in
    let text : report_text r f ≡ flat_map line wss = ap (λ (wss : List (List (List ℕ))). flat_map line wss) (lines-with r f certificate is) in
    let read : report_read (flat_map line wss) f ≡ Ok r = rw (plain-lines-of-words 1 wss (plain-report r f certificate file p fits again.plain)) (lines-again r f certificate _ file p fits is again.read) in
    ap (λ (bytes : List ℕ). report_read bytes f) text ∙ read

some-again : (r : Report) (f : TextFile) (certificate : Option Certificate) → r.certificate ≡ certificate → IsTrue (is_some certificate) → IfSome certificate (FitsCertificate f.problem.sizes r.method) → IsFile f → IsProblem f.problem → Fits r f → report_read (report_text r f) f ≡ Ok r
some-again r f None e some fit file p fits = absurd (false≢true some)
some-again r f (Some certificate) e some fit file p fits = certified-again r f certificate e (certificate-again f r.method certificate file p fit) file p fits

-- what is written of a report that has a certificate and fits its file is read as that report
pub report-again : (r : Report) (f : TextFile) → IsFile f → IsProblem f.problem → IsTrue (is_some r.certificate) → Fits r f → report_read (report_text r f) f ≡ Ok r
report-again r f file p some fits = some-again r f r.certificate refl some fits.certificate file p fits
