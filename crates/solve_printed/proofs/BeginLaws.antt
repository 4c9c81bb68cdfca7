-- A report that was read has a line that begins its certificate.
use Rattle.std.proofs.Common.{◌≡◌, ℕ, Bool, true, false, cond, List, [], ◌∷◌, Option, Some, Result, Ok, Err, IsTrue, is_some, refl, subst}
use Rattle.std.specs.Prelude.{codes}
use Rattle.std.specs.Str.{bytes_eq}
use Rattle.problem_text.specs.File.{TextFile}
use Rattle.problem_text.specs.declared.file.Goal.{Goal}
use Rattle.problem_text.specs.declared.file.Goal.TheVariants.{Min, Max}
use Rattle.problem_text.specs.declared.fault.ReportKind.{ReportKind}
use Rattle.problem_text.specs.declared.fault.ReportKind.TheVariants.{BadLine, NoCertificate}
use Rattle.problem_text.specs.PlainLines.{Plain}
use Rattle.report_reader.specs.declared.certificate_line.Form.{Form}
use Rattle.certificate_text.specs.declared.report.Method.{Method}
use Rattle.certificate_text.specs.declared.report.Report.{Report}
use Rattle.report_reader.specs.CertificateLine.{form_told, certificate_line}
use Rattle.report_reader.specs.HeadLines.{status_line, method_line, max_line, number_line}
use Rattle.report_reader.specs.ReportLines.{Fault, Left, whole, told_at, first_of, one_line, and_then}
use Rattle.report_reader.specs.ReportReading.{goal_read, head_read, bounds_read, values_read, evidence_read, certificate_read, lines_read}
use Rattle.report_reader.specs.Told.{is_alone, begins_with}
use Rattle.report_reader.specs.ValueLine.{value_line}
use Rattle.solve_printed.specs.CertificateLine.{certificate_word, first_certificate, CertificatesBegin}

-- one of these lines begins a certificate
abbrev IsThere : List Plain → Type 0
IsThere ls = IsTrue (is_some (first_certificate ls))

there-later : (t : Bool) (l : Plain) (later : Option Plain) → IsTrue (is_some later) → IsTrue (is_some (cond t (Some l) later))
there-later true l later there = refl
there-later false l later there = there

there-first : (t : Bool) (l : Plain) (later : Option Plain) → t ≡ true → IsTrue (is_some (cond t (Some l) later))
there-first true l later is = refl
there-first false l later is = cc

-- where a later line begins one, so does one of these
abbrev Keeps : {A : Type 0} → List Plain → Result (A × Left) Fault → Type 0
Keeps ls (Ok r) = IsThere r.1.lines → IsThere ls
Keeps ls (Err fault) = Unit {0}

-- one of these begins one
abbrev Shows : {A : Type 0} → List Plain → Result A Fault → Type 0
Shows ls (Ok x) = IsThere ls
Shows ls (Err fault) = Unit {0}

back-keeps : {A : Type 0} (ls mid : List Plain) (read : Result (A × Left) Fault) → (IsThere mid → IsThere ls) → Keeps mid read → Keeps ls read
back-keeps ls mid (Ok r) back keeps = λ there. back (keeps there)
back-keeps ls mid (Err fault) back keeps = tt

and-keeps : {A B : Type 0} (ls : List Plain) (read : Result (A × Left) Fault) (next : A → Left → Result (B × Left) Fault) → Keeps ls read → ((x : A) (left : Left) → Keeps left.lines (next x left)) → Keeps ls (and_then read next)
and-keeps ls (Ok r) next keeps later = back-keeps ls r.1.lines (next r.0 r.1) keeps (later r.0 r.1)
and-keeps ls (Err fault) next keeps later = tt

back-shows : {A : Type 0} (ls mid : List Plain) (read : Result A Fault) → (IsThere mid → IsThere ls) → Shows mid read → Shows ls read
back-shows ls mid (Ok x) back shows = back shows
back-shows ls mid (Err fault) back shows = tt

and-shows : {A B : Type 0} (ls : List Plain) (read : Result (A × Left) Fault) (next : A → Left → Result B Fault) → Keeps ls read → ((x : A) (left : Left) → Shows left.lines (next x left)) → Shows ls (and_then read next)
and-shows ls (Ok r) next keeps later = back-shows ls r.1.lines (next r.0 r.1) keeps (later r.0 r.1)
and-shows ls (Err fault) next keeps later = tt

there-shows : {A : Type 0} (ls : List Plain) (read : Result A Fault) → IsThere ls → Shows ls read
there-shows ls (Ok x) there = there
there-shows ls (Err fault) there = tt

shown-shows : {A B : Type 0} (ls : List Plain) (read : Result (A × Left) Fault) (next : A → Left → Result B Fault) → Shows ls read → Shows ls (and_then read next)
shown-shows ls (Ok r) next shows = there-shows ls (next r.0 r.1) shows
shown-shows ls (Err fault) next shows = tt

told-keeps : {A : Type 0} (l : Plain) (ls : List Plain) (over : ℕ) (told : Result A ReportKind) → Keeps (l ∷ ls) (told_at l.number told (record { lines = ls; over = over }))
told-keeps l ls over (Ok x) = λ there. there-later (begins_with certificate_word l.words) l (first_certificate ls) there
told-keeps l ls over (Err kind) = tt

first-keeps : {A : Type 0} (form : List (List ℕ) → Result A ReportKind) (over : ℕ) (ls : List Plain) → Keeps ls (first_of form over ls)
first-keeps form over [] = tt
first-keeps form over (l ∷ ls) = told-keeps l ls over (form l.words)

line-keeps : {A : Type 0} (form : List (List ℕ) → Result A ReportKind) (left : Left) → Keeps left.lines (one_line form left)
line-keeps form left = first-keeps form left.over left.lines

goal-keeps : (goal : Goal) (left : Left) → Keeps left.lines (goal_read goal left)
goal-keeps Min left = λ there. there
goal-keeps Max left = line-keeps max_line left

head-keeps : (goal : Goal) (left : Left) → Keeps left.lines (head_read goal left)
head-keeps goal left =
    and-keeps left.lines (one_line status_line left) _ (line-keeps status_line left) (λ status left.
    and-keeps left.lines (one_line method_line left) _ (line-keeps method_line left) (λ method left.
    and-keeps left.lines (goal_read goal left) _ (goal-keeps goal left) (λ goal left.
    and-keeps left.lines (one_line (number_line (codes "error")) left) _ (line-keeps (number_line (codes "error")) left) (λ error left.
    and-keeps left.lines (one_line (number_line (codes "deliveries")) left) _ (line-keeps (number_line (codes "deliveries")) left) (λ deliveries left. λ there. there)))))

bounds-keep : (left : Left) → Keeps left.lines (bounds_read left)
bounds-keep left =
    and-keeps left.lines (one_line (number_line (codes "cost")) left) _ (line-keeps (number_line (codes "cost")) left) (λ cost left.
    and-keeps left.lines (one_line (number_line (codes "lower")) left) _ (line-keeps (number_line (codes "lower")) left) (λ lower left.
    and-keeps left.lines (one_line (number_line (codes "upper")) left) _ (line-keeps (number_line (codes "upper")) left) (λ upper left. λ there. there)))

values-keep : (names : List (List ℕ)) (labels : List (List (List ℕ))) (sizes : List ℕ) (left : Left) → Keeps left.lines (values_read names labels sizes left)
values-keep [] labels sizes left = λ there. there
values-keep (n ∷ ns) [] sizes left = λ there. there
values-keep (n ∷ ns) (l ∷ ls) [] left = λ there. there
values-keep (n ∷ ns) (l ∷ ls) (s ∷ ss) left =
    and-keeps left.lines (one_line (value_line n l s) left) _ (line-keeps (value_line n l s) left) (λ value left.
    and-keeps left.lines (values_read ns ls ss left) _ (values-keep ns ls ss left) (λ values left. λ there. there))

-- the first line of a certificate begins with its word
word-told : (a b : Bool) (told : Result Form ReportKind) (form : Form) → cond a (Err NoCertificate) (cond b told (Err BadLine)) ≡ Ok form → b ≡ true
word-told true b told form is = cc
word-told false true told form is = refl
word-told false false told form is = cc

word-first : (names : List (List ℕ)) (method : Method) (words : List (List ℕ)) (form : Form) → certificate_line names method words ≡ Ok form → begins_with certificate_word words ≡ true
word-first names method [] form is = cc
word-first names method (first ∷ further) form is =
    word-told (is_alone (codes "end") (first ∷ further)) (bytes_eq first (codes "certificate")) (form_told names method further) form is

told-shows : (names : List (List ℕ)) (method : Method) (l : Plain) (ls : List Plain) (left : Left) (told : Result Form ReportKind) → certificate_line names method l.words ≡ told → Shows (l ∷ ls) (told_at l.number told left)
told-shows names method l ls left (Ok form) is = there-first (begins_with certificate_word l.words) l (first_certificate ls) (word-first names method l.words form is)
told-shows names method l ls left (Err kind) is = tt

first-shows : (names : List (List ℕ)) (method : Method) (over : ℕ) (ls : List Plain) → Shows ls (first_of (certificate_line names method) over ls)
first-shows names method over [] = tt
first-shows names method over (l ∷ ls) = told-shows names method l ls (record { lines = ls; over = over }) (certificate_line names method l.words) refl

certificate-shows : (f : TextFile) (method : Method) (left : Left) → Shows left.lines (certificate_read f method left)
certificate-shows f method left = shown-shows left.lines (one_line (certificate_line f.names method) left) (λ form left. evidence_read f form left) (first-shows f.names method left.over left.lines)

report-shows : (f : TextFile) (left : Left) → Shows left.lines (lines_read f left)
report-shows f left =
    and-shows left.lines (head_read f.goal left) _ (head-keeps f.goal left) (λ head left.
    and-shows left.lines (bounds_read left) _ (bounds-keep left) (λ bounds left.
    and-shows left.lines (values_read f.names f.labels f.problem.sizes left) _ (values-keep f.names f.labels f.problem.sizes left) (λ values left.
    shown-shows left.lines (certificate_read f head.method left) _ (certificate-shows f head.method left))))

pub certificates_begin : CertificatesBegin
certificates_begin f text report read = subst (λ (r : Result Report Fault). Shows (whole text).lines r) read (report-shows f (whole text))
