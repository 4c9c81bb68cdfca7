-- The line of a turn, word by word.
use Rattle.std.proofs.Common.{◌≡◌, ℕ, ◌+◌, ◌*◌, ◌<◌, ◌≤◌, min, suc, List, [], ◌∷◌, ◌++◌, length, drop, get_or, Result, Ok, Err, nat_eq, refl, sym, ap, ◌∙◌, append_assoc, drop-cons, add-one, arith}
use Rattle.std.proofs.lemmas.List.{append-nil, drop_all}
use Rattle.std.proofs.lemmas.Bool.Decides.{nat_tests}
use Rattle.std.proofs.Math.Nat.{mul_assoc}
use Rattle.dcop_base.specs.Table.{product, cell_place}
use Rattle.dcop_base.proofs.TableLaws.{capped}
use Rattle.problem_text.specs.declared.fault.ReportKind.{ReportKind}
use Rattle.problem_text.specs.declared.line_end.LineEnd.{LineEnd}
use Rattle.problem_text.specs.declared.line_end.LineEnd.TheVariants as ends
use Rattle.dcop_base.specs.Limits.{amount_limit}
use Rattle.run_log.specs.LogReading.{Reads}
use Rattle.run_log.specs.EventLine.{number_within}
use Rattle.report_reader.specs.ValueLine.{value_below}
use Rattle.report_reader.specs.TurnLine.{value_before, values_told}

-- values before those that are told
abbrev pub values_after : List ℕ → Result (List ℕ) ReportKind → Result (List ℕ) ReportKind
values_after values (Ok later) = Ok (values ++ later)
values_after values (Err kind) = Err kind

after-push : (values : List ℕ) (value : ℕ) (told : Result (List ℕ) ReportKind) → values_after values (value_before (Ok value) told) ≡ values_after (values ++ (value ∷ [])) told
after-push values value (Ok later) = ap (λ (vs : List ℕ). Ok vs) (sym (append_assoc values (value ∷ []) later))
after-push values value (Err kind) = refl

-- the values from this place on
told-here : (sizes : List ℕ) (k size : ℕ) (rest words : List (List ℕ)) (word : List ℕ) → k < length sizes → size ≡ get_or sizes k 0 → rest ≡ word ∷ words
    → values_told (drop k sizes) rest ≡ value_before (value_below size (number_within amount_limit word)) (values_told (drop (k + 1) sizes) words)
told-here sizes k size rest words word in_sizes is next =
    rw (next, add-one k, drop-cons sizes k 0 in_sizes, ← is) refl

-- one value more
pub told-more : (sizes values new : List ℕ) (k size value : ℕ) (rest words : List (List ℕ)) (word : List ℕ) (all : Result (List ℕ) ReportKind) → k < length sizes → size ≡ get_or sizes k 0 → rest ≡ word ∷ words
    → value_below size (number_within amount_limit word) ≡ Ok value → new ≡ values ++ (value ∷ [])
    → values_after values (values_told (drop k sizes) rest) ≡ all → values_after new (values_told (drop (k + 1) sizes) words) ≡ all
told-more sizes values new k size value rest words word all in_sizes is next told pushed h =
    let later = values_told (drop (k + 1) sizes) words in
    ap (λ (vs : List ℕ). values_after vs later) pushed
    ∙ sym (after-push values value later)
    ∙ ap (λ (r : Result ℕ ReportKind). values_after values (value_before r later)) (sym told)
    ∙ ap (values_after values) (sym (told-here sizes k size rest words word in_sizes is next)) ∙ h

-- a value's fault
pub told-fault : (sizes values : List ℕ) (k size : ℕ) (kind : ReportKind) (rest words : List (List ℕ)) (word : List ℕ) (all : Result (List ℕ) ReportKind) → k < length sizes → size ≡ get_or sizes k 0 → rest ≡ word ∷ words
    → value_below size (number_within amount_limit word) ≡ Err kind
    → values_after values (values_told (drop k sizes) rest) ≡ all → all ≡ Err kind
told-fault sizes values k size kind rest words word all in_sizes is next told h =
    let later = values_told (drop (k + 1) sizes) words in
    sym h ∙ ap (values_after values) (told-here sizes k size rest words word in_sizes is next)
    ∙ ap (λ (r : Result ℕ ReportKind). values_after values (value_before r later)) told

pub told-refused : (sizes values : List ℕ) (k size : ℕ) (end : LineEnd ReportKind) (rest words : List (List ℕ)) (word : List ℕ) (all : Result (List ℕ) ReportKind) → k < length sizes → size ≡ get_or sizes k 0 → rest ≡ word ∷ words
    → Reads {A = ℕ} (Err end) (value_below size (number_within amount_limit word))
    → values_after values (values_told (drop k sizes) rest) ≡ all → Reads {A = List ℕ} (Err end) all
told-refused sizes values k size ends.NoMemory rest words word all in_sizes is next told h = tt
told-refused sizes values k size (ends.Fault kind) rest words word all in_sizes is next told h = told-fault sizes values k size kind rest words word all in_sizes is next told h

-- no word is left, or no size
told-none : (sizes : List ℕ) → values_told sizes [] ≡ Ok []
told-none [] = refl
told-none (size ∷ sizes) = refl

pub told-over : (sizes values : List ℕ) (rest : List (List ℕ)) (all : Result (List ℕ) ReportKind) → rest ≡ [] → values_after values (values_told sizes rest) ≡ all → all ≡ Ok values
told-over sizes values rest all none h =
    sym h ∙ ap (λ (ws : List (List ℕ)). values_after values (values_told sizes ws)) none ∙ ap (values_after values) (told-none sizes) ∙ ap (λ (vs : List ℕ). Ok vs) (append-nil values)

pub told-full : (sizes values : List ℕ) (k : ℕ) (rest : List (List ℕ)) (all : Result (List ℕ) ReportKind) → length sizes ≤ k → values_after values (values_told (drop k sizes) rest) ≡ all → all ≡ Ok values
told-full sizes values k rest all over h =
    sym h ∙ ap (λ (ss : List ℕ). values_after values (values_told ss rest)) (drop_all k sizes over) ∙ ap (λ (vs : List ℕ). Ok vs) (append-nil values)

-- as many values as sizes are told
before-many : (r : Result ℕ ReportKind) (told : Result (List ℕ) ReportKind) (n : ℕ) (values : List ℕ) → ((later : List ℕ) → told ≡ Ok later → length later ≡ n) → value_before r told ≡ Ok values → length values ≡ suc n
before-many (Err kind) told n values h e = absurd (cc e)
before-many (Ok v) (Err kind) n values h e = absurd (cc e)
before-many (Ok v) (Ok vs) n values h e =
    let many : length vs ≡ n = h vs refl in
    let same : v ∷ vs ≡ values = cc e in
    ap (λ (xs : List ℕ). length xs) (sym same) ∙ ap suc many

pub told-many : (sizes : List ℕ) (words : List (List ℕ)) (values : List ℕ) → length words ≡ length sizes → values_told sizes words ≡ Ok values → length values ≡ length sizes
told-many [] [] values many e = let same : [] ≡ values = cc e in ap (λ (xs : List ℕ). length xs) (sym same)
told-many [] (w ∷ ws) values many e = absurd (omega (arith, many))
told-many (s ∷ ss) [] values many e = absurd (omega (arith, many))
told-many (s ∷ ss) (w ∷ ws) values many e =
    before-many (value_below s (number_within amount_limit w)) (values_told ss ws) (length ss) values (λ later is. told-many ss ws later (omega (arith, many)) is) e

-- a number to which a further one is added, capped
capped-sum : (a b c m : ℕ) → min a m ≡ min b m → min (a + c) m ≡ min (b + c) m
capped-sum a b c m h = omega (arith, h)

-- the number of a turn so far, with the value at the next place
pub number-next : (sizes values : List ℕ) (k number new size value most all : ℕ) → k < length sizes → k < length values → size ≡ get_or sizes k 0 → value ≡ get_or values k value
    → new ≡ min (min (number * size) most + value) most
    → min (number * product (drop k sizes) + cell_place (drop k sizes) (drop k values)) most ≡ all
    → min (new * product (drop (k + 1) sizes) + cell_place (drop (k + 1) sizes) (drop (k + 1) values)) most ≡ all
number-next sizes values k number new size value most all in_sizes in_values is_size is_value is h =
    let p = product (drop (k + 1) sizes) in
    let r = cell_place (drop (k + 1) sizes) (drop (k + 1) values) in
    let here : number * product (drop k sizes) + cell_place (drop k sizes) (drop k values) ≡ number * (size * p) + (value * p + r) =
    rw (add-one k, drop-cons sizes k 0 in_sizes, drop-cons values k value in_values, ← is_size, ← is_value) refl in
    let sum : new ≡ min (number * size + value) most = omega (arith, is) in
    let grouped = mul_assoc number size p in
    let spread : (number * size + value) * p + r ≡ number * (size * p) + (value * p + r) = omega (arith, grouped) in
    ap (λ (n : ℕ). min (n * p + r) most) sum
    ∙ capped-sum (min (number * size + value) most * p) ((number * size + value) * p) r most (capped (number * size + value) p most)
    ∙ ap (λ (n : ℕ). min n most) (spread ∙ sym here) ∙ h

-- the number of a turn that is compared with a lower one
pub capped-eq : (place number most : ℕ) → number < most → nat_eq (min place most) number ≡ nat_eq place number
capped-eq place number most lt = grind (arith, nat_tests)
