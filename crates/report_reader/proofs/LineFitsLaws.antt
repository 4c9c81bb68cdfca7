-- What holds of what the lines of a report tell.
use Rattle.std.proofs.Common.{◌≡◌, ℕ, ◌<◌, ◌≤◌, Bool, true, false, not, cond, List, [], ◌∷◌, length, map, get_or, Option, Some, None, Ok, Err, Result, position, nat_eq, nat_lt, ◌||◌, refl, ap, ◌∙◌, subst, arith, inl, inr}
use Rattle.std.specs.List.{list_any, All, before_first, after_first}
use Rattle.std.specs.Prelude.{codes, IfSome, ◌⊎◌}
use Rattle.std.specs.Option.{option_map}
use Rattle.std.specs.Str.{bytes_eq}
use Rattle.std.proofs.lemmas.List.Elements.{All-cons}
use Rattle.std.proofs.lemmas.List.Quantifiers.{position-Some}
use Rattle.std.proofs.lemmas.Bool.{or_parts, ltb-true, eqb-true}
use Rattle.dcop_base.specs.Table.{product, has_repeat}
use Rattle.dcop_base.specs.NumberWord.{number_of}
use Rattle.problem_text.specs.declared.fault.ReportKind.{ReportKind}
use Rattle.problem_text.specs.declared.fault.ReportKind.TheVariants.{BadLine, BadNumber, UnknownName, CellCount, NoCertificate, BadValue}
use Rattle.problem_text.specs.File.{AreLabels}
use Rattle.problem_text.specs.Tables.{onto, named_by, is_colon}
use Rattle.problem_text.proofs.TableLineLaws.{some-same, named-within}
use Rattle.certificate_text.specs.declared.certificate.Util.{Util}
use Rattle.certificate_text.specs.declared.report.Method.{Method}
use Rattle.certificate_text.specs.declared.report.Method.TheVariants.{Plain as MethodPlain, Dpop, Adopt, Cut}
use Rattle.report_reader.specs.declared.certificate_line.Form.{Form}
use Rattle.report_reader.specs.declared.certificate_line.Form.TheVariants as forms
use Rattle.dcop_base.specs.Limits.{amount_limit}
use Rattle.run_log.specs.EventLine.{number_within}
use Rattle.run_log.proofs.EventFitsLaws.{within_limit}
use Rattle.report_reader.specs.Told.{or_fails, is_alone, amounts_of}
use Rattle.report_reader.specs.HeadLines.{number_told}
use Rattle.report_reader.specs.ValueLine.{value_below, value_told, value_line}
use Rattle.report_reader.specs.UtilLine.{has_util, is_again, and_known, known_among, parent_told, util_told, util_parts, util_line}
use Rattle.report_reader.specs.CertificateLine.{cut_told, form_with, cut_form, form_told, certificate_line}
use Rattle.certificate_text.specs.Fits.{FitsUtil}

pub ok-same : {A E : Type 0} (x y : A) → ◌≡◌ {A = Result A E} (Ok x) (Ok y) → x ≡ y
ok-same x y e = cc

pub or_fails-ok : {A : Type 0} (kind : ReportKind) (o : Option A) (x : A) → or_fails kind o ≡ Ok x → o ≡ Some x
or_fails-ok {A} kind (Some y) x e = ap (λ (y : A). Some y) (ok-same y x e)
or_fails-ok kind None x e = absurd (cc e)

-- a test that would refuse, and what is behind it
pub one-ok : {A : Type 0} (t : Bool) (kind : ReportKind) (r : Result A ReportKind) (x : A) → cond t (Err kind) r ≡ Ok x → (t ≡ false) × (r ≡ Ok x)
one-ok true kind r x e = absurd (cc e)
one-ok false kind r x e = (refl, e)

-- a test that has to pass, and what it lets through
pub other-ok : {A : Type 0} (t : Bool) (kind : ReportKind) (r : Result A ReportKind) (x : A) → cond t r (Err kind) ≡ Ok x → (t ≡ true) × (r ≡ Ok x)
other-ok true kind r x e = (refl, e)
other-ok false kind r x e = absurd (cc e)

pub told-cap : (o : Option (List ℕ)) (n : ℕ) → number_told o ≡ Ok n → n ≤ 4611686018427387904
told-cap None n e = absurd (cc e)
told-cap (Some w) n e = within_limit amount_limit n (number_of w) (or_fails-ok BadNumber (number_within amount_limit w) n e)

pub below-fits : (size : ℕ) (o : Option ℕ) (v : ℕ) → value_below size o ≡ Ok v → v < size
below-fits size None v e = absurd (cc e)
below-fits size (Some n) v e =
    let test = other-ok (nat_lt n size) BadValue (Ok n) v e in
    subst (λ (x : ℕ). x < size) (ok-same n v test.1) (ltb-true n size test.0)

value_told-fits : (labels : List (List ℕ)) (size : ℕ) (w : List ℕ) (v : ℕ) → AreLabels size labels → value_told labels size w ≡ Ok v → v < size
value_told-fits [] size w v fit e = below-fits size (number_within amount_limit w) v e
value_told-fits (l ∷ ls) size w v fit e =
    let found = position-Some (bytes_eq w) (l ∷ ls) v [] (or_fails-ok UnknownName (position (bytes_eq w) (l ∷ ls)) v e) in
    step fit.many found.0
  where
    step : ((l ∷ ls) ≡ []) ⊎ (length (l ∷ ls) ≡ size) → v < length (l ∷ ls) → v < size
    step (inl none) within = absurd (cc none)
    step (inr many) within = omega (arith, many, within)

-- a value that was read is below its variable's size
pub value-fits : (name : List ℕ) (labels : List (List ℕ)) (size : ℕ) (ws : List (List ℕ)) (v : ℕ) → AreLabels size labels → value_line name labels size ws ≡ Ok v → v < size
value-fits name labels size [] v fit e = absurd (cc e)
value-fits name labels size (a ∷ []) v fit e = absurd (cc e)
value-fits name labels size (a ∷ b ∷ []) v fit e = absurd (cc e)
value-fits name labels size (a ∷ b ∷ w ∷ x ∷ xs) v fit e = absurd (cc e)
value-fits name labels size (a ∷ b ∷ w ∷ []) v fit e =
    let first = one-ok (not (bytes_eq a (codes "value"))) BadLine (cond (not (bytes_eq b name)) (Err UnknownName) (value_told labels size w)) v e in
    let second = one-ok (not (bytes_eq b name)) UnknownName (value_told labels size w) v first.1 in
    value_told-fits labels size w v fit second.1

known-step : (o : Option ℕ) (r : Option (List ℕ)) (known scope : List ℕ) → onto o r ≡ Some scope → ((xs : List ℕ) → r ≡ Some xs → known ≡ xs) → and_known o known ≡ scope
known-step (Some x) (Some xs) known scope e ih = ap (λ (ys : List ℕ). x ∷ ys) (ih xs refl) ∙ some-same (x ∷ xs) scope e
known-step (Some x) None known scope e ih = absurd (cc e)
known-step None (Some xs) known scope e ih = absurd (cc e)
known-step None None known scope e ih = absurd (cc e)

known-named : (names ws : List (List ℕ)) (scope : List ℕ) → named_by names ws ≡ Some scope → known_among names ws ≡ scope
known-named names [] scope e = some-same [] scope e
known-named names (w ∷ ws) scope e = known-step (position (bytes_eq w) names) (named_by names ws) (known_among names ws) scope e (λ xs is. known-named names ws xs is)

-- a cut's variables are different ones, each with its name among these
abbrev pub AreNamedOnce : List (List ℕ) → List ℕ → Type 0
AreNamedOnce names cut = (has_repeat cut ≡ false) × All (λ v. v < length names) cut

cut_told-fits : (names ws : List (List ℕ)) (cut : List ℕ) → cut_told names ws ≡ Ok cut → AreNamedOnce names cut
cut_told-fits names ws cut e =
    let first = one-ok (has_repeat (known_among names ws)) BadLine (or_fails UnknownName (named_by names ws)) cut e in
    let named = or_fails-ok UnknownName (named_by names ws) cut first.1 in
    (rw (known-named names ws cut named) at first.0, named-within names ws cut named)

-- what holds of a form that fits the method
abbrev pub FitsForm : List (List ℕ) → Method → Form → Type 0
FitsForm names method forms.Tables = method ≡ Dpop
FitsForm names method forms.Log = method ≡ Adopt
FitsForm names method (forms.Cut cut) = (method ≡ Cut) × AreNamedOnce names cut

form_with-fits : (names : List (List ℕ)) (r : Result (List ℕ) ReportKind) (form : Form) → ((cut : List ℕ) → r ≡ Ok cut → AreNamedOnce names cut) → form_with r ≡ Ok form → FitsForm names Cut form
form_with-fits names (Ok cut) form h e = subst (FitsForm names Cut) (ok-same (forms.Cut cut) form e) (refl, h cut refl)
form_with-fits names (Err kind) form h e = absurd (cc e)

cut_form-fits : (names ws : List (List ℕ)) (form : Form) → cut_form names ws ≡ Ok form → FitsForm names Cut form
cut_form-fits names [] form e = absurd (cc e)
cut_form-fits names (w ∷ ws) form e =
    let read = other-ok (bytes_eq w (codes "cut")) BadLine (form_with (cut_told names ws)) form e in
    form_with-fits names (cut_told names ws) form (λ cut is. cut_told-fits names ws cut is) read.1

form_told-fits : (names : List (List ℕ)) (method : Method) (ws : List (List ℕ)) (form : Form) → form_told names method ws ≡ Ok form → FitsForm names method form
form_told-fits names MethodPlain ws form e = absurd (cc e)
form_told-fits names Dpop ws form e =
    let read = other-ok (is_alone (codes "tables") ws) BadLine (Ok forms.Tables) form e in
    subst (FitsForm names Dpop) (ok-same forms.Tables form read.1) refl
form_told-fits names Adopt ws form e =
    let read = other-ok (is_alone (codes "log") ws) BadLine (Ok forms.Log) form e in
    subst (FitsForm names Adopt) (ok-same forms.Log form read.1) refl
form_told-fits names Cut ws form e = cut_form-fits names ws form e

-- a certificate's first line fits the method
pub certificate-fits : (names : List (List ℕ)) (method : Method) (ws : List (List ℕ)) (form : Form) → certificate_line names method ws ≡ Ok form → FitsForm names method form
certificate-fits names method [] form e = absurd (cc e)
certificate-fits names method (w ∷ ws) form e =
    let first = one-ok (is_alone (codes "end") (w ∷ ws)) NoCertificate (cond (bytes_eq w (codes "certificate")) (form_told names method ws) (Err BadLine)) form e in
    let second = other-ok (bytes_eq w (codes "certificate")) BadLine (form_told names method ws) form first.1 in
    form_told-fits names method ws form second.1

amounts-step : (o : Option ℕ) (r : Option (List ℕ)) (ns : List ℕ) → onto o r ≡ Some ns → ((x : ℕ) → o ≡ Some x → x ≤ 4611686018427387904) → ((xs : List ℕ) → r ≡ Some xs → All (λ n. n ≤ 4611686018427387904) xs) → All (λ n. n ≤ 4611686018427387904) ns
amounts-step (Some x) (Some xs) ns e a b = subst (λ (ys : List ℕ). All (λ n. n ≤ 4611686018427387904) ys) (some-same (x ∷ xs) ns e) (All-cons (λ n. n ≤ 4611686018427387904) x xs (a x refl) (b xs refl))
amounts-step (Some x) None ns e a b = absurd (cc e)
amounts-step None (Some xs) ns e a b = absurd (cc e)
amounts-step None None ns e a b = absurd (cc e)

amounts-cap : (ws : List (List ℕ)) (ns : List ℕ) → amounts_of ws ≡ Some ns → All (λ n. n ≤ 4611686018427387904) ns
amounts-cap [] ns e = subst (λ (ys : List ℕ). All (λ n. n ≤ 4611686018427387904) ys) (some-same [] ns e) (λ k d h. absurd (omega arith))
amounts-cap (w ∷ ws) ns e = amounts-step (number_within amount_limit w) (amounts_of ws) ns e (λ x is. within_limit amount_limit x (number_of w) is) (λ xs is. amounts-cap ws xs is)

parent-step : (t : Bool) (o : Option ℕ) (parent : Option ℕ) (n : ℕ) → cond t (Some None) (option_map Some o) ≡ Some parent → ((x : ℕ) → o ≡ Some x → x < n) → IfSome parent (λ p. p < n)
parent-step true o parent n e h = subst (λ (q : Option ℕ). IfSome q (λ p. p < n)) (some-same None parent e) tt
parent-step false (Some x) parent n e h = subst (λ (q : Option ℕ). IfSome q (λ p. p < n)) (some-same (Some x) parent e) (h x refl)
parent-step false None parent n e h = absurd (cc e)

-- what a table's parts say of it
util_told-fits : (names : List (List ℕ)) (sizes : List ℕ) (done : List Util) (name word : List ℕ) (scoped celled : List (List ℕ)) (u : Util) → length names ≡ length sizes → is_again done (position (bytes_eq name) names) ≡ false → has_repeat (known_among names scoped) ≡ false
    → (var : Option ℕ) (parent : Option (Option ℕ)) (scope cells : Option (List ℕ)) → position (bytes_eq name) names ≡ var → parent_told names word ≡ parent → named_by names scoped ≡ scope → amounts_of celled ≡ cells → util_told sizes var parent scope cells ≡ Ok u → FitsUtil sizes u × (has_util done u.var ≡ false)
util_told-fits names sizes done name word scoped celled u many again apart None parent scope cells a b c d e = absurd (cc e)
util_told-fits names sizes done name word scoped celled u many again apart (Some var) None scope cells a b c d e = absurd (cc e)
util_told-fits names sizes done name word scoped celled u many again apart (Some var) (Some parent) None cells a b c d e = absurd (cc e)
util_told-fits names sizes done name word scoped celled u many again apart (Some var) (Some parent) (Some scope) None a b c d e = absurd (cc e)
util_told-fits names sizes done name word scoped celled u many again apart (Some var) (Some parent) (Some scope) (Some cells) a b c d e =
    let made : Util = record { var = var; parent = parent; scope = scope; cells = cells } in
    let test = other-ok (nat_eq (length cells) (product (map (λ v. get_or sizes v 0) scope))) CellCount (Ok made) u e in
    let own : var < length names = (position-Some (bytes_eq name) names var [] a).0 in
    let given : IfSome parent (λ p. p < length names) = parent-step (bytes_eq word (codes "-")) (position (bytes_eq word) names) parent (length names) b (λ x is. (position-Some (bytes_eq word) names x [] is).0) in
    let within : All (λ v. v < length names) scope = named-within names scoped scope c in
    let fits : FitsUtil sizes made = record {
      named = record {
        own = subst (λ (n : ℕ). var < n) many own;
        parent = subst (λ (n : ℕ). IfSome parent (λ p. p < n)) many given;
        scope = subst (λ (n : ℕ). All (λ v. v < n) scope) many within;
      };
      distinct = rw (known-named names scoped scope c) at apart;
      many = eqb-true _ _ test.0;
      cells = amounts-cap celled cells d;
    } in
    let fresh : has_util done var ≡ false = rw a at again in
    subst (λ (u : Util). FitsUtil sizes u × (has_util done u.var ≡ false)) (ok-same made u test.1) (fits, fresh)

-- a table that was read fits the sizes, and its variable had none before
pub util-fits : (names : List (List ℕ)) (sizes : List ℕ) (done : List Util) (ws : List (List ℕ)) (u : Util) → length names ≡ length sizes → util_line names sizes done ws ≡ Ok u → FitsUtil sizes u × (has_util done u.var ≡ false)
util-fits names sizes done [] u many e = absurd (cc e)
util-fits names sizes done (a ∷ []) u many e = absurd (cc e)
util-fits names sizes done (a ∷ b ∷ []) u many e = absurd (cc e)
util-fits names sizes done (a ∷ b ∷ c ∷ []) u many e = absurd (cc e)
util-fits names sizes done (first ∷ name ∷ parent ∷ colon ∷ further) u many e =
    let scoped = before_first is_colon further in
    let celled = after_first is_colon further in
    let form = one-ok (not (bytes_eq first (codes "util")) || (not (is_colon colon) || not (list_any is_colon further))) BadLine (util_parts names sizes done name parent scoped celled) u e in
    let twice = one-ok (is_again done (position (bytes_eq name) names) || has_repeat (known_among names scoped)) BadLine (util_told sizes (position (bytes_eq name) names) (parent_told names parent) (named_by names scoped) (amounts_of celled)) u form.1 in
    let none = or_parts (is_again done (position (bytes_eq name) names)) (has_repeat (known_among names scoped)) twice.0 in
    util_told-fits names sizes done name parent scoped celled u many none.0 none.1 (position (bytes_eq name) names) (parent_told names parent) (named_by names scoped) (amounts_of celled) refl refl refl refl twice.1
