-- The numbers of a report's lines: where a fault stands, and that nothing else depends on them.
use Rattle.std.proofs.Common.{◌≡◌, ℕ, suc, ◌+◌, ◌≤◌, Bool, true, false, cond, Result, Ok, Err, List, [], ◌∷◌, ◌++◌, length, nat_eq, refl, subst, arith}
use Rattle.std.specs.List.{filter}
use Rattle.std.specs.Prelude.{codes}
use Rattle.std.proofs.lemmas.List.Sums.{count_by-le-length}
use Rattle.problem_text.specs.File.{TextFile}
use Rattle.problem_text.specs.declared.file.Goal.{Goal}
use Rattle.problem_text.specs.declared.file.Goal.TheVariants.{Min, Max}
use Rattle.problem_text.specs.declared.fault.ReportKind.{ReportKind}
use Rattle.problem_text.specs.Lines.{has_some, onto_first, lines}
use Rattle.problem_text.specs.PlainLines.{Plain, plain_numbered}
use Rattle.run_log.specs.declared.log.LogEvent.{LogEvent}
use Rattle.run_log.specs.EventLine.{event_line}
use Rattle.certificate_text.specs.declared.certificate.Turn.{Turn}
use Rattle.certificate_text.specs.declared.certificate.Util.{Util}
use Rattle.report_reader.specs.declared.certificate_line.Form.{Form}
use Rattle.report_reader.specs.declared.certificate_line.Form.TheVariants as forms
use Rattle.certificate_text.specs.declared.report.Method.{Method}
use Rattle.certificate_text.specs.declared.report.Report.{Report}
use Rattle.report_reader.specs.declared.turns.CutSizes.{CutSizes}
use Rattle.report_reader.specs.Told.{is_alone, begins_with}
use Rattle.report_reader.specs.HeadLines.{status_line, method_line, max_line, number_line}
use Rattle.report_reader.specs.ValueLine.{value_line}
use Rattle.report_reader.specs.UtilLine.{util_line}
use Rattle.report_reader.specs.CertificateLine.{certificate_line}
use Rattle.report_reader.specs.TurnLine.{turn_line}
use Rattle.report_reader.specs.TurnReading.{table_in_turn, turn_behind, all_turns, turns_read, cut_sizes, cut_read}
use Rattle.report_reader.specs.ReportLines.{Fault, Left, whole, told_at, first_of, one_line, and_then}
use Rattle.report_reader.specs.ReportReading.{goal_read, head_read, bounds_read, values_read, ended, tables_read, events_read, evidence_read, certificate_read, nothing_behind, report_of, lines_read, report_read}

-- each line's number is at most this
abbrev AreUpTo : ℕ → List Plain → Type 0
AreUpTo top [] = Unit {0}
AreUpTo top (l ∷ ls) = (l.number ≤ top) × AreUpTo top ls

abbrev IsUpTo : ℕ → Left → Type 0
IsUpTo top left = (left.over ≤ top) × AreUpTo top left.lines

-- a fault stands at such a line, and such lines are left
abbrev Stays : {A : Type 0} → ℕ → Result (A × Left) Fault → Type 0
Stays top (Ok r) = IsUpTo top r.1
Stays top (Err fault) = fault.line ≤ top

abbrev Ends : {A : Type 0} → ℕ → Result A Fault → Type 0
Ends top (Ok x) = Unit {0}
Ends top (Err fault) = fault.line ≤ top

and-stays : {A B : Type 0} (top : ℕ) (read : Result (A × Left) Fault) (next : A → Left → Result (B × Left) Fault) → Stays top read → ((x : A) (left : Left) → IsUpTo top left → Stays top (next x left)) → Stays top (and_then read next)
and-stays top (Ok r) next h later = later r.0 r.1 h
and-stays top (Err fault) next h later = h

and-ends : {A B : Type 0} (top : ℕ) (read : Result (A × Left) Fault) (next : A → Left → Result B Fault) → Stays top read → ((x : A) (left : Left) → IsUpTo top left → Ends top (next x left)) → Ends top (and_then read next)
and-ends top (Ok r) next h later = later r.0 r.1 h
and-ends top (Err fault) next h later = h

told-stays : {A : Type 0} (top number : ℕ) (t : Result A ReportKind) (left : Left) → number ≤ top → IsUpTo top left → Stays top (told_at number t left)
told-stays top number (Ok x) left h up = up
told-stays top number (Err kind) left h up = h

first-stays : {A : Type 0} (top over : ℕ) (form : List (List ℕ) → Result A ReportKind) (ls : List Plain) → over ≤ top → AreUpTo top ls → Stays top (first_of form over ls)
first-stays top over form [] h up = h
first-stays top over form (l ∷ ls) h up = told-stays top l.number (form l.words) (record { lines = ls; over = over }) up.0 (h, up.1)

line-stays : {A : Type 0} (top : ℕ) (form : List (List ℕ) → Result A ReportKind) (left : Left) → IsUpTo top left → Stays top (one_line form left)
line-stays top form left up = first-stays top left.over form left.lines up.0 up.1

goal-stays : (top : ℕ) (goal : Goal) (left : Left) → IsUpTo top left → Stays top (goal_read goal left)
goal-stays top Min left up = up
goal-stays top Max left up = line-stays top max_line left up

head-stays : (top : ℕ) (goal : Goal) (left : Left) → IsUpTo top left → Stays top (head_read goal left)
head-stays top goal left up =
    and-stays top (one_line status_line left) _ (line-stays top status_line left up) (λ status left up.
    and-stays top (one_line method_line left) _ (line-stays top method_line left up) (λ method left up.
    and-stays top (goal_read goal left) _ (goal-stays top goal left up) (λ goal left up.
    and-stays top (one_line (number_line (codes "error")) left) _ (line-stays top (number_line (codes "error")) left up) (λ error left up.
    and-stays top (one_line (number_line (codes "deliveries")) left) _ (line-stays top (number_line (codes "deliveries")) left up) (λ deliveries left up. up)))))

bounds-stay : (top : ℕ) (left : Left) → IsUpTo top left → Stays top (bounds_read left)
bounds-stay top left up =
    and-stays top (one_line (number_line (codes "cost")) left) _ (line-stays top (number_line (codes "cost")) left up) (λ cost left up.
    and-stays top (one_line (number_line (codes "lower")) left) _ (line-stays top (number_line (codes "lower")) left up) (λ lower left up.
    and-stays top (one_line (number_line (codes "upper")) left) _ (line-stays top (number_line (codes "upper")) left up) (λ upper left up. up)))

values-stay : (top : ℕ) (names : List (List ℕ)) (labels : List (List (List ℕ))) (sizes : List ℕ) (left : Left) → IsUpTo top left → Stays top (values_read names labels sizes left)
values-stay top [] labels sizes left up = up
values-stay top (n ∷ ns) [] sizes left up = up
values-stay top (n ∷ ns) (l ∷ ls) [] left up = up
values-stay top (n ∷ ns) (l ∷ ls) (s ∷ ss) left up =
    and-stays top (one_line (value_line n l s) left) _ (line-stays top (value_line n l s) left up) (λ value left up.
    and-stays top (values_read ns ls ss left) _ (values-stay top ns ls ss left up) (λ values left up. up))

cond-stays : {A : Type 0} (top : ℕ) (t : Bool) (end rest : Result (A × Left) Fault) → Stays top end → Stays top rest → Stays top (cond t end rest)
cond-stays top true end rest h later = h
cond-stays top false end rest h later = later

tables-stay : (top : ℕ) (names : List (List ℕ)) (sizes : List ℕ) (over : ℕ) (utils : List Util) (ls : List Plain) → over ≤ top → AreUpTo top ls → Stays top (tables_read names sizes over utils ls)
tables-stay top names sizes over utils [] h up = h
tables-stay top names sizes over utils (l ∷ ls) h up =
    let left : Left = record { lines = ls; over = over } in
    cond-stays top (is_alone (codes "end") l.words) (told_at l.number (ended names utils) left) _
    (told-stays top l.number (ended names utils) left up.0 (h, up.1))
    (and-stays top (told_at l.number (util_line names sizes utils l.words) left) _ (told-stays top l.number (util_line names sizes utils l.words) left up.0 (h, up.1)) (λ util later more. tables-stay top names sizes over (utils ++ (util ∷ [])) ls h up.1))

events-stay : (top : ℕ) (names : List (List ℕ)) (over : ℕ) (log : List LogEvent) (ls : List Plain) → over ≤ top → AreUpTo top ls → Stays top (events_read names over log ls)
events-stay top names over log [] h up = h
events-stay top names over log (l ∷ ls) h up =
    let left : Left = record { lines = ls; over = over } in
    cond-stays top (is_alone (codes "end") l.words) (Ok (log, left)) _ (h, up.1)
    (and-stays top (told_at l.number (event_line names l.words) left) _ (told-stays top l.number (event_line names l.words) left up.0 (h, up.1)) (λ event later more. events-stay top names over (log ++ (event ∷ [])) ls h up.1))

turns-stay : (top : ℕ) (names : List (List ℕ)) (sizes : CutSizes) (over : ℕ) (turns : List Turn) (turn : Turn) (ls : List Plain) → over ≤ top → AreUpTo top ls → Stays top (turns_read names sizes over turns turn ls)
turns-stay top names sizes over turns turn [] h up = h
turns-stay top names sizes over turns turn (l ∷ ls) h up =
    let left : Left = record { lines = ls; over = over } in
    let end = all_turns names sizes turns turn in
    let values = turn_behind names sizes turns turn.tables l.words in
    let table = table_in_turn names sizes turns turn.tables l.words in
    cond-stays top (is_alone (codes "end") l.words) (told_at l.number end left) _ (told-stays top l.number end left up.0 (h, up.1))
    (cond-stays top (begins_with (codes "turn") l.words) (and_then (told_at l.number values left) _) _
    (and-stays top (told_at l.number values left) _ (told-stays top l.number values left up.0 (h, up.1)) (λ vs later more. turns-stay top names sizes over (turns ++ (turn ∷ [])) (record { values = vs; tables = [] }) ls h up.1))
    (and-stays top (told_at l.number table left) _ (told-stays top l.number table left up.0 (h, up.1)) (λ util later more. turns-stay top names sizes over turns (record { values = turn.values; tables = turn.tables ++ (util ∷ []) }) ls h up.1)))

cut-stays : (top : ℕ) (f : TextFile) (cut : List ℕ) (left : Left) → IsUpTo top left → Stays top (cut_read f cut left)
cut-stays top f cut left up =
    let sizes : CutSizes = cut_sizes f.problem.sizes cut in
    and-stays top (one_line (turn_line sizes.own 0) left) _ (line-stays top (turn_line sizes.own 0) left up) (λ values left up. turns-stay top f.names sizes left.over [] (record { values = values; tables = [] }) left.lines up.0 up.1)

evidence-stays : (top : ℕ) (f : TextFile) (form : Form) (left : Left) → IsUpTo top left → Stays top (evidence_read f form left)
evidence-stays top f forms.Tables left up =
    and-stays top (tables_read f.names f.problem.sizes left.over [] left.lines) _ (tables-stay top f.names f.problem.sizes left.over [] left.lines up.0 up.1) (λ utils left up. up)
evidence-stays top f forms.Log left up =
    and-stays top (events_read f.names left.over [] left.lines) _ (events-stay top f.names left.over [] left.lines up.0 up.1) (λ log left up. up)
evidence-stays top f (forms.Cut cut) left up =
    and-stays top (cut_read f cut left) _ (cut-stays top f cut left up) (λ turns left up. up)

certificate-stays : (top : ℕ) (f : TextFile) (method : Method) (left : Left) → IsUpTo top left → Stays top (certificate_read f method left)
certificate-stays top f method left up =
    and-stays top (one_line (certificate_line f.names method) left) _ (line-stays top (certificate_line f.names method) left up) (λ form left up. evidence-stays top f form left up)

nothing-ends : (top : ℕ) (report : Report) (ls : List Plain) → AreUpTo top ls → Ends top (nothing_behind report ls)
nothing-ends top report [] up = tt
nothing-ends top report (l ∷ ls) up = up.0

read-ends : (top : ℕ) (f : TextFile) (left : Left) → IsUpTo top left → Ends top (lines_read f left)
read-ends top f left up =
    and-ends top (head_read f.goal left) _ (head-stays top f.goal left up) (λ head left up.
    and-ends top (bounds_read left) _ (bounds-stay top left up) (λ bounds left up.
    and-ends top (values_read f.names f.labels f.problem.sizes left) _ (values-stay top f.names f.labels f.problem.sizes left up) (λ values left up.
    and-ends top (certificate_read f head.method left) _ (certificate-stays top f head.method left up) (λ certificate left up.
    nothing-ends top (report_of head bounds values certificate) left.lines up.1))))

keep-up : (t : Bool) (top : ℕ) (l : Plain) (ls : List Plain) → l.number ≤ top → AreUpTo top ls → AreUpTo top (cond t (l ∷ ls) ls)
keep-up true top l ls here h = (here, h)
keep-up false top l ls here h = h

filter-up : (top : ℕ) (ls : List Plain) → AreUpTo top ls → AreUpTo top (filter (λ l. has_some l.words) ls)
filter-up top [] h = tt
filter-up top (l ∷ ls) h = keep-up (has_some l.words) top l (filter (λ l. has_some l.words) ls) h.0 (filter-up top ls h.1)

numbered-up : (top number : ℕ) (ls : List (List ℕ)) → number + length ls ≤ top + 1 → AreUpTo top (plain_numbered number ls)
numbered-up top number [] h = tt
numbered-up top number (l ∷ ls) h = (omega (arith, h), numbered-up top (number + 1) ls (omega (arith, h)))

line-many : (t : Bool) (b n : ℕ) (ls : List (List ℕ)) → length ls ≤ n → length (cond t ((b ∷ []) ∷ ls) (onto_first b ls)) ≤ suc n
line-many true b n ls h = omega (arith, h)
line-many false b n [] h = omega arith
line-many false b n (l ∷ ls) h = omega (arith, h)

-- a text has no more lines than bytes
lines-many : (bytes : List ℕ) → length (lines bytes) ≤ length bytes
lines-many [] = omega arith
lines-many (b ∷ bs) = line-many (nat_eq b 10) b (length bs) (lines bs) (lines-many bs)

ends-inv : (top : ℕ) (read : Result Report Fault) (fault : Fault) → Ends top read → read ≡ Err fault → fault.line ≤ top
ends-inv top (Ok r) fault h e = absurd (cc e)
ends-inv top (Err x) fault h e = subst (λ (x : Fault). x.line ≤ top) (same x fault e) h
  where
    same : (x y : Fault) → ◌≡◌ {A = Result Report Fault} (Err x) (Err y) → x ≡ y
    same x y e = cc

-- the line of the first fault is at most one behind all bytes
pub fault-line : (bytes : List ℕ) (f : TextFile) (fault : Fault) → report_read bytes f ≡ Err fault → fault.line ≤ 1 + length bytes
fault-line bytes f fault e =
    let few = count_by-le-length (λ b. nat_eq b 10) bytes in
    let many = lines-many bytes in
    ends-inv (1 + length bytes) (report_read bytes f) fault
    (read-ends (1 + length bytes) f (whole bytes) (omega (arith, few), filter-up (1 + length bytes) (plain_numbered 1 (lines bytes)) (numbered-up (1 + length bytes) 1 (lines bytes) (omega (arith, many))))) e

-- lines with the same words, whatever their numbers
abbrev pub SameWords : List Plain → List Plain → Type 0
SameWords [] [] = Unit {0}
SameWords (x ∷ xs) (y ∷ ys) = (x.words ≡ y.words) × SameWords xs ys
SameWords [] (y ∷ ys) = ⊥
SameWords (x ∷ xs) [] = ⊥

-- the same is read, and lines with the same words are left, or both are refused
abbrev Alike : {A : Type 0} → Result (A × Left) Fault → Result (A × Left) Fault → Type 0
Alike (Ok r) (Ok s) = (r.0 ≡ s.0) × SameWords r.1.lines s.1.lines
Alike (Err a) (Err b) = Unit {0}
Alike (Ok r) (Err b) = ⊥
Alike (Err a) (Ok s) = ⊥

-- the same report is read, where one is
abbrev Agrees : {A : Type 0} → Result A Fault → Result A Fault → Type 0
Agrees {A} r s = (x : A) → r ≡ Ok x → s ≡ Ok x

and-alike : {A B : Type 0} (r s : Result (A × Left) Fault) (next later : A → Left → Result (B × Left) Fault) → Alike r s → ((x : A) (a b : Left) → SameWords a.lines b.lines → Alike (next x a) (later x b)) → Alike (and_then r next) (and_then s later)
and-alike {A} (Ok r) (Ok s) next later h on = subst (λ (x : A). Alike (next r.0 r.1) (later x s.1)) h.0 (on r.0 r.1 s.1 h.1)
and-alike (Err a) (Err b) next later h on = tt
and-alike (Ok r) (Err b) next later h on = absurd h
and-alike (Err a) (Ok s) next later h on = absurd h

and-agrees : {A B : Type 0} (r s : Result (A × Left) Fault) (next later : A → Left → Result B Fault) → Alike r s → ((x : A) (a b : Left) → SameWords a.lines b.lines → Agrees (next x a) (later x b)) → Agrees (and_then r next) (and_then s later)
and-agrees {A} (Ok r) (Ok s) next later h on = subst (λ (x : A). Agrees (next r.0 r.1) (later x s.1)) h.0 (on r.0 r.1 s.1 h.1)
and-agrees (Err a) (Err b) next later h on = λ x e. absurd (cc e)
and-agrees (Ok r) (Err b) next later h on = absurd h
and-agrees (Err a) (Ok s) next later h on = absurd h

told-alike : {A : Type 0} (n m : ℕ) (t : Result A ReportKind) (a b : Left) → SameWords a.lines b.lines → Alike (told_at n t a) (told_at m t b)
told-alike n m (Ok x) a b h = (refl, h)
told-alike n m (Err kind) a b h = tt

first-alike : {A : Type 0} (form : List (List ℕ) → Result A ReportKind) (o p : ℕ) (xs ys : List Plain) → SameWords xs ys → Alike (first_of form o xs) (first_of form p ys)
first-alike form o p [] [] h = tt
first-alike form o p [] (y ∷ ys) h = absurd h
first-alike form o p (x ∷ xs) [] h = absurd h
first-alike form o p (x ∷ xs) (y ∷ ys) h =
    rw h.0 (told-alike x.number y.number (form y.words) (record { lines = xs; over = o }) (record { lines = ys; over = p }) h.1)

line-alike : {A : Type 0} (form : List (List ℕ) → Result A ReportKind) (a b : Left) → SameWords a.lines b.lines → Alike (one_line form a) (one_line form b)
line-alike form a b h = first-alike form a.over b.over a.lines b.lines h

goal-alike : (goal : Goal) (a b : Left) → SameWords a.lines b.lines → Alike (goal_read goal a) (goal_read goal b)
goal-alike Min a b h = (refl, h)
goal-alike Max a b h = line-alike max_line a b h

head-alike : (goal : Goal) (a b : Left) → SameWords a.lines b.lines → Alike (head_read goal a) (head_read goal b)
head-alike goal a b h =
    and-alike (one_line status_line a) (one_line status_line b) _ _ (line-alike status_line a b h) (λ status a b h.
    and-alike (one_line method_line a) (one_line method_line b) _ _ (line-alike method_line a b h) (λ method a b h.
    and-alike (goal_read goal a) (goal_read goal b) _ _ (goal-alike goal a b h) (λ goal a b h.
    and-alike (one_line (number_line (codes "error")) a) (one_line (number_line (codes "error")) b) _ _ (line-alike (number_line (codes "error")) a b h) (λ error a b h.
    and-alike (one_line (number_line (codes "deliveries")) a) (one_line (number_line (codes "deliveries")) b) _ _ (line-alike (number_line (codes "deliveries")) a b h) (λ deliveries a b h. (refl, h))))))

bounds-alike : (a b : Left) → SameWords a.lines b.lines → Alike (bounds_read a) (bounds_read b)
bounds-alike a b h =
    and-alike (one_line (number_line (codes "cost")) a) (one_line (number_line (codes "cost")) b) _ _ (line-alike (number_line (codes "cost")) a b h) (λ cost a b h.
    and-alike (one_line (number_line (codes "lower")) a) (one_line (number_line (codes "lower")) b) _ _ (line-alike (number_line (codes "lower")) a b h) (λ lower a b h.
    and-alike (one_line (number_line (codes "upper")) a) (one_line (number_line (codes "upper")) b) _ _ (line-alike (number_line (codes "upper")) a b h) (λ upper a b h. (refl, h))))

values-alike : (names : List (List ℕ)) (labels : List (List (List ℕ))) (sizes : List ℕ) (a b : Left) → SameWords a.lines b.lines → Alike (values_read names labels sizes a) (values_read names labels sizes b)
values-alike [] labels sizes a b h = (refl, h)
values-alike (n ∷ ns) [] sizes a b h = (refl, h)
values-alike (n ∷ ns) (l ∷ ls) [] a b h = (refl, h)
values-alike (n ∷ ns) (l ∷ ls) (s ∷ ss) a b h =
    and-alike (one_line (value_line n l s) a) (one_line (value_line n l s) b) _ _ (line-alike (value_line n l s) a b h) (λ value a b h.
    and-alike (values_read ns ls ss a) (values_read ns ls ss b) _ _ (values-alike ns ls ss a b h) (λ values a b h. (refl, h)))

cond-alike : {A : Type 0} (t : Bool) (r s p q : Result (A × Left) Fault) → Alike r s → Alike p q → Alike (cond t r p) (cond t s q)
cond-alike true r s p q h later = h
cond-alike false r s p q h later = later

tables-alike : (names : List (List ℕ)) (sizes : List ℕ) (o p : ℕ) (utils : List Util) (xs ys : List Plain) → SameWords xs ys → Alike (tables_read names sizes o utils xs) (tables_read names sizes p utils ys)
tables-alike names sizes o p utils [] [] h = tt
tables-alike names sizes o p utils [] (y ∷ ys) h = absurd h
tables-alike names sizes o p utils (x ∷ xs) [] h = absurd h
tables-alike names sizes o p utils (x ∷ xs) (y ∷ ys) h =
    let a : Left = record { lines = xs; over = o } in
    let b : Left = record { lines = ys; over = p } in
    rw h.0 (cond-alike (is_alone (codes "end") y.words) (told_at x.number (ended names utils) a) (told_at y.number (ended names utils) b) _ _
    (told-alike x.number y.number (ended names utils) a b h.1)
    (and-alike (told_at x.number (util_line names sizes utils y.words) a) (told_at y.number (util_line names sizes utils y.words) b) _ _ (told-alike x.number y.number (util_line names sizes utils y.words) a b h.1) (λ util a b same. tables-alike names sizes o p (utils ++ (util ∷ [])) xs ys h.1)))

events-alike : (names : List (List ℕ)) (o p : ℕ) (log : List LogEvent) (xs ys : List Plain) → SameWords xs ys → Alike (events_read names o log xs) (events_read names p log ys)
events-alike names o p log [] [] h = tt
events-alike names o p log [] (y ∷ ys) h = absurd h
events-alike names o p log (x ∷ xs) [] h = absurd h
events-alike names o p log (x ∷ xs) (y ∷ ys) h =
    let a : Left = record { lines = xs; over = o } in
    let b : Left = record { lines = ys; over = p } in
    rw h.0 (cond-alike (is_alone (codes "end") y.words) (Ok (log, a)) (Ok (log, b)) _ _ (refl, h.1)
    (and-alike (told_at x.number (event_line names y.words) a) (told_at y.number (event_line names y.words) b) _ _ (told-alike x.number y.number (event_line names y.words) a b h.1) (λ event a b same. events-alike names o p (log ++ (event ∷ [])) xs ys h.1)))

turns-alike : (names : List (List ℕ)) (sizes : CutSizes) (o p : ℕ) (turns : List Turn) (turn : Turn) (xs ys : List Plain) → SameWords xs ys → Alike (turns_read names sizes o turns turn xs) (turns_read names sizes p turns turn ys)
turns-alike names sizes o p turns turn [] [] h = tt
turns-alike names sizes o p turns turn [] (y ∷ ys) h = absurd h
turns-alike names sizes o p turns turn (x ∷ xs) [] h = absurd h
turns-alike names sizes o p turns turn (x ∷ xs) (y ∷ ys) h =
    let a : Left = record { lines = xs; over = o } in
    let b : Left = record { lines = ys; over = p } in
    let end = all_turns names sizes turns turn in
    let values = turn_behind names sizes turns turn.tables y.words in
    let table = table_in_turn names sizes turns turn.tables y.words in
    rw h.0 (cond-alike (is_alone (codes "end") y.words) (told_at x.number end a) (told_at y.number end b) _ _ (told-alike x.number y.number end a b h.1)
    (cond-alike (begins_with (codes "turn") y.words) (and_then (told_at x.number values a) _) (and_then (told_at y.number values b) _) _ _
    (and-alike (told_at x.number values a) (told_at y.number values b) _ _ (told-alike x.number y.number values a b h.1) (λ vs a b same. turns-alike names sizes o p (turns ++ (turn ∷ [])) (record { values = vs; tables = [] }) xs ys h.1))
    (and-alike (told_at x.number table a) (told_at y.number table b) _ _ (told-alike x.number y.number table a b h.1) (λ util a b same. turns-alike names sizes o p turns (record { values = turn.values; tables = turn.tables ++ (util ∷ []) }) xs ys h.1))))

cut-alike : (f : TextFile) (cut : List ℕ) (a b : Left) → SameWords a.lines b.lines → Alike (cut_read f cut a) (cut_read f cut b)
cut-alike f cut a b h =
    let sizes : CutSizes = cut_sizes f.problem.sizes cut in
    and-alike (one_line (turn_line sizes.own 0) a) (one_line (turn_line sizes.own 0) b) _ _ (line-alike (turn_line sizes.own 0) a b h) (λ values a b h. turns-alike f.names sizes a.over b.over [] (record { values = values; tables = [] }) a.lines b.lines h)

evidence-alike : (f : TextFile) (form : Form) (a b : Left) → SameWords a.lines b.lines → Alike (evidence_read f form a) (evidence_read f form b)
evidence-alike f forms.Tables a b h =
    and-alike (tables_read f.names f.problem.sizes a.over [] a.lines) (tables_read f.names f.problem.sizes b.over [] b.lines) _ _ (tables-alike f.names f.problem.sizes a.over b.over [] a.lines b.lines h) (λ utils a b h. (refl, h))
evidence-alike f forms.Log a b h =
    and-alike (events_read f.names a.over [] a.lines) (events_read f.names b.over [] b.lines) _ _ (events-alike f.names a.over b.over [] a.lines b.lines h) (λ log a b h. (refl, h))
evidence-alike f (forms.Cut cut) a b h =
    and-alike (cut_read f cut a) (cut_read f cut b) _ _ (cut-alike f cut a b h) (λ turns a b h. (refl, h))

certificate-alike : (f : TextFile) (method : Method) (a b : Left) → SameWords a.lines b.lines → Alike (certificate_read f method a) (certificate_read f method b)
certificate-alike f method a b h =
    and-alike (one_line (certificate_line f.names method) a) (one_line (certificate_line f.names method) b) _ _ (line-alike (certificate_line f.names method) a b h) (λ form a b h. evidence-alike f form a b h)

nothing-agrees : (report : Report) (xs ys : List Plain) → SameWords xs ys → Agrees (nothing_behind report xs) (nothing_behind report ys)
nothing-agrees report [] [] h = λ r e. e
nothing-agrees report [] (y ∷ ys) h = absurd h
nothing-agrees report (x ∷ xs) [] h = absurd h
nothing-agrees report (x ∷ xs) (y ∷ ys) h = λ r e. absurd (cc e)

-- lines with the same words are read as the same report
pub read-same : (f : TextFile) (a b : Left) (r : Report) → SameWords a.lines b.lines → lines_read f a ≡ Ok r → lines_read f b ≡ Ok r
read-same f a b r h e = agrees r e
  where
    agrees : Agrees (lines_read f a) (lines_read f b)
    agrees =
        and-agrees (head_read f.goal a) (head_read f.goal b) _ _ (head-alike f.goal a b h) (λ head a b h.
        and-agrees (bounds_read a) (bounds_read b) _ _ (bounds-alike a b h) (λ bounds a b h.
        and-agrees (values_read f.names f.labels f.problem.sizes a) (values_read f.names f.labels f.problem.sizes b) _ _ (values-alike f.names f.labels f.problem.sizes a b h) (λ values a b h.
        and-agrees (certificate_read f head.method a) (certificate_read f head.method b) _ _ (certificate-alike f head.method a b h) (λ certificate a b h.
        nothing-agrees (report_of head bounds values certificate) a.lines b.lines h))))
