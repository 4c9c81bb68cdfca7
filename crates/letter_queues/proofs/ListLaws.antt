-- Lists and results.
use Rattle.std.proofs.Common.{◌≡◌, ℕ, List, ◌++◌, take, drop, length, Result, Ok, Err, sym, ap, ◌∙◌, arith}
use Rattle.std.proofs.Math.Seq.{drop-length}
use Rattle.std.proofs.lemmas.List.{append-nil, take_all}
use Rattle.std.specs.Result.{OnOk}

pub on_ok : {T E : Type 0} (r : Result T E) {A B : Type 0} → OnOk r A → (A → B) → OnOk r B
on_ok (Ok x) h f = f h
on_ok (Err e) h f = h

-- a list that is written back over one of the same length
pub written_back : {A : Type 0} (n : ℕ) (new old : List A) → length new ≡ n → length old ≡ n → take n (new ++ drop (length new) old) ≡ new
written_back n new old p q =
    let e : length new ≡ length old = p ∙ sym q in
    ap (λ m. take n (new ++ drop m old)) e ∙ ap (λ zs. take n (new ++ zs)) (drop-length old) ∙ ap (λ zs. take n zs) (append-nil new) ∙ take_all n new (omega (arith, p))
