-- The values of a report, as they are read one after the other, and the fault of a cut.
use Rattle.std.proofs.Common.{◌≡◌, ℕ, ◌<◌, ◌+◌, List, [], ◌∷◌, ◌++◌, length, drop, get_or, Result, Ok, Err, refl, sym, ap, ◌∙◌, append_assoc, drop-cons, add-one}
use Rattle.problem_text.specs.declared.fault.ReportFault.{ReportFault}
use Rattle.problem_text.specs.declared.fault.ReportFault.TheVariants.{Bad, NoMemory}
use Rattle.problem_text.specs.File.{TextFile}
use Rattle.certificate_text.specs.declared.certificate.Certificate.TheVariants as certificates
use Rattle.certificate_text.specs.declared.certificate.Turn.{Turn}
use Rattle.report_reader.specs.declared.certificate_line.Form.{Form}
use Rattle.report_reader.specs.declared.certificate_line.Form.TheVariants as forms
use Rattle.certificate_text.specs.declared.report.Method.{Method}
use Rattle.report_reader.specs.CertificateLine.{certificate_line}
use Rattle.report_reader.specs.TurnReading.{cut_read}
use Rattle.report_reader.specs.ValueLine.{value_line}
use Rattle.report_reader.specs.ReportLines.{Fault, Left, one_line, and_then}
use Rattle.report_reader.specs.ReportReading.{values_read, evidence_read, certificate_read}
use Rattle.report_reader.specs.Steps.{IsFault}

-- values before those that are read
abbrev pub after : List ℕ → Result (List ℕ × Left) Fault → Result (List ℕ × Left) Fault
after values read = and_then read (λ more left. Ok (values ++ more, left))

after-push : (values : List ℕ) (value : ℕ) (read : Result (List ℕ × Left) Fault) → after values (and_then read (λ more left. Ok (value ∷ more, left))) ≡ after (values ++ (value ∷ [])) read
after-push values value (Ok r) = rw (append_assoc values (value ∷ []) r.0) refl
after-push values value (Err fault) = refl

-- the values from this place on
abbrev pub values_from : List (List ℕ) → List (List (List ℕ)) → List ℕ → ℕ → Left → Result (List ℕ × Left) Fault
values_from names labels sizes place left = values_read (drop place names) (drop place labels) (drop place sizes) left

values-here : (names : List (List ℕ)) (labels : List (List (List ℕ))) (sizes : List ℕ) (place : ℕ) (left : Left) → place < length names → place < length labels → place < length sizes
    → values_from names labels sizes place left
    ≡ and_then (one_line (value_line (get_or names place []) (get_or labels place []) (get_or sizes place 0)) left) (λ value left. and_then (values_from names labels sizes (place + 1) left) (λ values left. Ok (value ∷ values, left)))
values-here names labels sizes place left n l s =
    rw (add-one place, drop-cons names place [] n, drop-cons labels place [] l, drop-cons sizes place 0 s) refl

-- one value more
pub value-next : (names : List (List ℕ)) (labels : List (List (List ℕ))) (sizes values more : List ℕ) (place value : ℕ) (left new : Left) (all : Result (List ℕ × Left) Fault)
    → place < length names → place < length labels → place < length sizes
    → one_line (value_line (get_or names place []) (get_or labels place []) (get_or sizes place 0)) left ≡ Ok (value, new)
    → more ≡ values ++ (value ∷ [])
    → after values (values_from names labels sizes place left) ≡ all
    → after more (values_from names labels sizes (place + 1) new) ≡ all
value-next names labels sizes values more place value left new all n l s e pushed h =
    let rest = values_from names labels sizes (place + 1) new in
    let step : values_from names labels sizes place left ≡ and_then rest (λ more left. Ok (value ∷ more, left)) = values-here names labels sizes place left n l s ∙ rw e refl in
    ap (λ (vs : List ℕ). after vs rest) pushed ∙ sym (after-push values value rest) ∙ ap (λ (t : Result (List ℕ × Left) Fault). after values t) (sym step) ∙ h

-- a value's fault
pub value-fault : (names : List (List ℕ)) (labels : List (List (List ℕ))) (sizes values : List ℕ) (place : ℕ) (left : Left) (fault : ReportFault) (all : Result (List ℕ × Left) Fault)
    → place < length names → place < length labels → place < length sizes
    → IsFault (one_line (value_line (get_or names place []) (get_or labels place []) (get_or sizes place 0)) left) fault
    → after values (values_from names labels sizes place left) ≡ all → IsFault all fault
value-fault names labels sizes values place left NoMemory all n l s e h = tt
value-fault names labels sizes values place left (Bad line kind) all n l s e h = sym h ∙ rw (values-here names labels sizes place left n l s, e) refl

-- the fault of a cut, behind its first line
pub cut-fault : (f : TextFile) (method : Method) (left next : Left) (form : Form) (cut given : List ℕ) (fault : ReportFault) → one_line (certificate_line f.names method) left ≡ Ok (form, next) → form ≡ forms.Cut cut
    → given ≡ cut → IsFault (cut_read f given next) fault → IsFault (certificate_read f method left) fault
cut-fault f method left next form cut given NoMemory read is same h = tt
cut-fault f method left next form cut given (Bad line kind) read is same h =
    let begun : certificate_read f method left ≡ evidence_read f (forms.Cut cut) next =
    ap (λ (r : Result (Form × Left) Fault). and_then r (λ form left. evidence_read f form left)) (read ∙ ap (λ (x : Form). Ok (x, next)) is) in
    begun
    ∙ ap (λ (r : Result (List Turn × Left) Fault). and_then r (λ turns left. Ok (certificates.Cut cut turns, left))) (ap (λ (vs : List ℕ). cut_read f vs next) (sym same) ∙ h)
