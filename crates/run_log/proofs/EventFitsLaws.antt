-- What holds of an event that a line tells.
use Rattle.std.proofs.Common.{◌≡◌, ℕ, ◌<◌, ◌≤◌, Bool, true, false, not, cond, List, [], ◌∷◌, length, Option, Some, None, Result, Ok, Err, position, nat_lt, ◌||◌, refl, subst, arith}
use Rattle.std.specs.List.{All}
use Rattle.std.specs.Prelude.{codes}
use Rattle.std.specs.Str.{bytes_eq}
use Rattle.std.proofs.lemmas.List.Elements.{All-cons}
use Rattle.std.proofs.lemmas.List.Quantifiers.{position-Some}
use Rattle.std.proofs.lemmas.Bool.{ltb-false}
use Rattle.dcop_base.specs.Limits.{amount_limit}
use Rattle.dcop_base.specs.NumberWord.{number_of}
use Rattle.protocol_steps.specs.declared.event.Take.{Take}
use Rattle.problem_text.specs.declared.fault.ReportKind.{ReportKind}
use Rattle.problem_text.specs.declared.fault.ReportKind.TheVariants.{BadLine}
use Rattle.run_log.specs.declared.log.LogEvent.{LogEvent}
use Rattle.run_log.specs.EventLine.{take_limit, capped_at, number_within, are_pairs, take_told, take_before, takes_told, event_told, event_parts, event_line}
use Rattle.run_log.specs.LogText.{FitsEvent}

ok_same : {A : Type 0} (x y : A) → ◌≡◌ {A = Result A ReportKind} (Ok x) (Ok y) → x ≡ y
ok_same x y e = cc

some_same : (x y : ℕ) → ◌≡◌ {A = Option ℕ} (Some x) (Some y) → x ≡ y
some_same x y e = cc

-- a number that is read is within its limit
pub within_limit : (most n : ℕ) (o : Option ℕ) → capped_at most o ≡ Some n → n ≤ most
within_limit most n None e = absurd (cc e)
within_limit most n (Some m) e = step (nat_lt most m) refl e
  where
    step : (t : Bool) → nat_lt most m ≡ t → cond t None (Some m) ≡ Some n → n ≤ most
    step true is e = absurd (cc e)
    step false is e = subst (λ (x : ℕ). x ≤ most) (some_same m n e) (ltb-false most m is)

-- takes whose senders are among so many, with counts that can be read
abbrev FitTakes : ℕ → List Take → Type 0
FitTakes n ts = All (λ t. t.from < n) ts × All (λ t. t.count ≤ take_limit) ts

take_fits : (n : ℕ) (from count : Option ℕ) (t : Take) → take_told from count ≡ Ok t → ((i : ℕ) → from ≡ Some i → i < n) → ((k : ℕ) → count ≡ Some k → k ≤ take_limit) → (t.from < n) × (t.count ≤ take_limit)
take_fits n None count t e named few = absurd (cc e)
take_fits n (Some i) None t e named few = absurd (cc e)
take_fits n (Some i) (Some k) t e named few =
    let made : Take = record { from = i; count = k } in
    subst (λ (t : Take). (t.from < n) × (t.count ≤ take_limit)) (ok_same made t e) (named i refl, few k refl)

before_fits : (n : ℕ) (one : Result Take ReportKind) (more : Result (List Take) ReportKind) (ts : List Take) → take_before one more ≡ Ok ts
    → ((t : Take) → one ≡ Ok t → (t.from < n) × (t.count ≤ take_limit)) → ((us : List Take) → more ≡ Ok us → FitTakes n us) → FitTakes n ts
before_fits n (Err kind) more ts e one_fits more_fit = absurd (cc e)
before_fits n (Ok t) (Err kind) ts e one_fits more_fit = absurd (cc e)
before_fits n (Ok t) (Ok us) ts e one_fits more_fit =
    let one = one_fits t refl in
    let more = more_fit us refl in
    subst (FitTakes n) (ok_same (t ∷ us) ts e) (All-cons (λ u. u.from < n) t us one.0 more.0, All-cons (λ u. u.count ≤ take_limit) t us one.1 more.1)

takes_fit : (names ws : List (List ℕ)) (ts : List Take) → takes_told names ws ≡ Ok ts → FitTakes (length names) ts
takes_fit names [] ts e = subst (FitTakes (length names)) (ok_same [] ts e) (λ k d h. absurd (omega (arith, h)), λ k d h. absurd (omega (arith, h)))
takes_fit names (sender ∷ []) ts e = absurd (cc e)
takes_fit names (sender ∷ count ∷ later) ts e =
    before_fits (length names) (take_told (position (bytes_eq sender) names) (number_within take_limit count)) (takes_told names later) ts e
    (λ t is. take_fits (length names) (position (bytes_eq sender) names) (number_within take_limit count) t is (λ i at. (position-Some (bytes_eq sender) names i [] at).0) (λ k at. within_limit take_limit k (number_of count) at))
    (λ us is. takes_fit names later us is)

told_fits : (n : ℕ) (agent stamp : Option ℕ) (takes : Result (List Take) ReportKind) (e : LogEvent) → event_told agent stamp takes ≡ Ok e
    → ((i : ℕ) → agent ≡ Some i → i < n) → ((k : ℕ) → stamp ≡ Some k → k ≤ amount_limit) → ((ts : List Take) → takes ≡ Ok ts → FitTakes n ts) → FitsEvent n e
told_fits n None stamp takes e is named small fit = absurd (cc is)
told_fits n (Some i) None takes e is named small fit = absurd (cc is)
told_fits n (Some i) (Some k) (Err kind) e is named small fit = absurd (cc is)
told_fits n (Some i) (Some k) (Ok ts) e is named small fit =
    let made : LogEvent = record { agent = i; stamp = k; takes = ts } in
    let takes = fit ts refl in
    subst (FitsEvent n) (ok_same made e is) (record { named = record { agent = named i refl; senders = takes.0 }; stamp = small k refl; counts = takes.1 })

-- a test that would refuse, and what is behind it
passed : {A : Type 0} (t : Bool) (kind : ReportKind) (r : Result A ReportKind) (x : A) → cond t (Err kind) r ≡ Ok x → r ≡ Ok x
passed true kind r x e = absurd (cc e)
passed false kind r x e = e

-- an event that was read is one of so many agents, with numbers that can be read
pub event_fits : (names ws : List (List ℕ)) (e : LogEvent) → event_line names ws ≡ Ok e → FitsEvent (length names) e
event_fits names [] e is = absurd (cc is)
event_fits names (a ∷ []) e is = absurd (cc is)
event_fits names (a ∷ b ∷ []) e is = absurd (cc is)
event_fits names (first ∷ agent ∷ stamp ∷ pairs) e is =
    let parts = passed (not (bytes_eq first (codes "event")) || not (are_pairs pairs)) BadLine (event_parts names agent stamp pairs) e is in
    told_fits (length names) (position (bytes_eq agent) names) (number_within amount_limit stamp) (takes_told names pairs) e parts
    (λ i at. (position-Some (bytes_eq agent) names i [] at).0) (λ k at. within_limit amount_limit k (number_of stamp) at) (λ ts at. takes_fit names pairs ts at)
