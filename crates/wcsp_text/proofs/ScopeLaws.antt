-- Scopes, functions and sizes as they are read.
use Rattle.std.proofs.Common.{◌≡◌, ℕ, suc, ◌+◌, ◌<◌, true, false, List, [], ◌∷◌, ◌++◌, length, get_or, None, Result, Ok, Err, nat_eq, nat_le, nat_lt, position, refl, sym, ap, ◌∙◌, arith, append_assoc}
use Rattle.std.specs.List.{list_any, All}
use Rattle.std.proofs.lemmas.List.{length-map}
use Rattle.std.proofs.lemmas.List.Folds.{list_any-append}
use Rattle.std.proofs.lemmas.List.Sums.{sum_by_push}
use Rattle.std.proofs.lemmas.List.Elements.{All-head, All-tail, All-push}
use Rattle.std.proofs.lemmas.Bool.Decides.{nat_tests}
use Rattle.std.proofs.lemmas.Bool.{or_parts}
use Rattle.dcop_base.specs.Table.{product, has, has_repeat}
use Rattle.dcop_base.specs.Faults.{is_bad_size}
use Rattle.dcop_base.proofs.FaultLaws.{position-none, position-all}
use Rattle.wcsp_text.specs.declared.fault.Fault.{Fault}
use Rattle.wcsp_text.specs.declared.fault.WcspKind.TheVariants.{Index, Problem}
use Rattle.wcsp_text.specs.Words.{words}
use Rattle.wcsp_text.specs.Numbers.{Place, place, number, onto}
use Rattle.wcsp_text.specs.Functions.{Function, IsWritten, own_sizes, scope_read, function_read, functions_read, cells_of}
use Rattle.wcsp_text.specs.Networks.{sizes_read}

-- a further variable
pub scope-more : (variables var n m : ℕ) (vars text : List ℕ) (q : Place) → m ≡ suc n → number (words text) ≡ Ok (var, q) → nat_le variables var ≡ false → has vars var ≡ false → scope_read variables vars m (place text) ≡ scope_read variables (vars ++ (var ∷ [])) n q
scope-more variables var n m vars text q e is below new = rw (e, is, below, new) refl

-- no number where a variable should be
pub scope-err : (variables n m : ℕ) (vars text : List ℕ) (f : Fault) → m ≡ suc n → number (words text) ≡ Err f → scope_read variables vars m (place text) ≡ Err f
scope-err variables n m vars text f e is = rw (e, is) refl

-- a variable that is none
pub scope-above : (variables var n m : ℕ) (vars text : List ℕ) (q : Place) → m ≡ suc n → number (words text) ≡ Ok (var, q) → nat_le variables var ≡ true → scope_read variables vars m (place text) ≡ Err (record { after = q.after; kind = Index })
scope-above variables var n m vars text q e is above = rw (e, is, above) refl

-- a variable that stands twice
pub scope-twice : (variables var n m : ℕ) (vars text : List ℕ) (q : Place) → m ≡ suc n → number (words text) ≡ Ok (var, q) → nat_le variables var ≡ false → has vars var ≡ true → scope_read variables vars m (place text) ≡ Err (record { after = q.after; kind = Index })
scope-twice variables var n m vars text q e is below twice = rw (e, is, below, twice) refl

flip-ne : (x v : ℕ) → nat_eq x v ≡ false → nat_eq v x ≡ false
flip-ne x v h = grind (arith, nat_tests)

has-push : (xs : List ℕ) (v x : ℕ) → has xs x ≡ false → nat_eq v x ≡ false → has (xs ++ (v ∷ [])) x ≡ false
has-push xs v x none ne = list_any-append (λ y. nat_eq y x) xs (v ∷ []) ∙ rw (none, ne) refl

-- distinct variables and a new one
pub apart-push : (xs : List ℕ) (v : ℕ) → has_repeat xs ≡ false → has xs v ≡ false → has_repeat (xs ++ (v ∷ [])) ≡ false
apart-push [] v apart new = refl
apart-push (x ∷ xs) v apart new =
    let one = or_parts (has xs x) (has_repeat xs) apart in
    let two = or_parts (nat_eq x v) (has xs v) new in
    rw (has-push xs v x one.0 (flip-ne x v two.0), apart-push xs v one.1 two.1) refl

-- a size is not 0
pub size-some : (s : ℕ) → is_bad_size s ≡ false → nat_eq s 0 ≡ false
size-some s h = (or_parts (nat_eq s 0) (nat_lt 1024 s) h).0

-- no own size of a scope is 0
pub own-positive : (sizes scope : List ℕ) → position is_bad_size sizes ≡ None → All (λ v. v < length sizes) scope → list_any (λ s. nat_eq s 0) (own_sizes sizes scope) ≡ false
own-positive sizes [] good within = refl
own-positive sizes (v ∷ vs) good within =
    let here = size-some (get_or sizes v 0) (position-none is_bad_size sizes good v 0 (All-head (λ v. v < length sizes) v vs within)) in
    rw (here, own-positive sizes vs good (All-tail (λ v. v < length sizes) v vs within)) refl

-- a further function
pub functions-more : (sizes : List ℕ) (fs : List Function) (f : Function) (n m : ℕ) (p q : Place) → m ≡ suc n → function_read sizes (cells_of fs) p ≡ Ok (f, q) → functions_read sizes fs m p ≡ functions_read sizes (fs ++ (f ∷ [])) n q
functions-more sizes fs f n m p q e is = rw (e, is) refl

pub functions-err : (sizes : List ℕ) (fs : List Function) (n m : ℕ) (p : Place) (g : Fault) → m ≡ suc n → function_read sizes (cells_of fs) p ≡ Err g → functions_read sizes fs m p ≡ Err g
functions-err sizes fs n m p g e is = rw (e, is) refl

pub cells-push : (fs : List Function) (f : Function) → cells_of (fs ++ (f ∷ [])) ≡ cells_of fs + length f.table.cells
cells-push fs f = sum_by_push (λ (f : Function). length f.table.cells) fs f

-- sizes behind those that were read
abbrev pub behind : List ℕ → Result (List ℕ × Place) Fault → Result (List ℕ × Place) Fault
behind xs (Ok r) = Ok (xs ++ r.0, r.1)
behind xs (Err f) = Err f

behind-onto : (xs : List ℕ) (s : ℕ) (o : Result (List ℕ × Place) Fault) → behind xs (onto s o) ≡ behind (xs ++ (s ∷ [])) o
behind-onto xs s (Err f) = refl
behind-onto xs s (Ok r) = ap (λ (ys : List ℕ). Ok (ys, r.1)) (sym (append_assoc xs (s ∷ []) r.0))

-- a further size
pub sizes-more : (xs text : List ℕ) (s n m : ℕ) (q : Place) → m ≡ suc n → number (words text) ≡ Ok (s, q) → is_bad_size s ≡ false → behind xs (sizes_read m (place text)) ≡ behind (xs ++ (s ∷ [])) (sizes_read n q)
sizes-more xs text s n m q e is good = rw (e, is, good) (behind-onto xs s (sizes_read n q))

pub sizes-err : (xs text : List ℕ) (n m : ℕ) (f : Fault) → m ≡ suc n → number (words text) ≡ Err f → behind xs (sizes_read m (place text)) ≡ Err f
sizes-err xs text n m f e is = rw (e, is) refl

pub sizes-bad : (xs text : List ℕ) (s n m : ℕ) (q : Place) → m ≡ suc n → number (words text) ≡ Ok (s, q) → is_bad_size s ≡ true → behind xs (sizes_read m (place text)) ≡ Err (record { after = q.after; kind = Problem 2 })
sizes-bad xs text s n m q e is bad = rw (e, is, bad) refl

-- a further size is a domain's
pub sizes-push : (xs : List ℕ) (s : ℕ) → position is_bad_size xs ≡ None → is_bad_size s ≡ false → position is_bad_size (xs ++ (s ∷ [])) ≡ None
sizes-push xs s good here = position-all is_bad_size (xs ++ (s ∷ [])) (All-push (λ s. is_bad_size s ≡ false) xs s (position-none is_bad_size xs good) here)

-- a function's scope, sizes and cells as they are read
pub written-some : (sizes scope own cells : List ℕ) → position is_bad_size sizes ≡ None → All (λ v. v < length sizes) scope → has_repeat scope ≡ false → own ≡ own_sizes sizes scope → length cells ≡ product own → IsWritten (record { scope = scope; sizes = own; cells = cells })
written-some sizes scope own cells good within apart is many = record {
  apart = apart;
  sized = ap length is ∙ length-map scope (λ v. get_or sizes v 0);
  positive = rw is (own-positive sizes scope good within);
  full = many;
}
