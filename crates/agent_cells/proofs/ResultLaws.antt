-- What holds if a call succeeded.
use Rattle.std.proofs.Common.{◌≡◌, sym, ap, ◌∙◌, subst, true, false, Result, Ok, Err, Option, Some, None}
use Rattle.std.specs.Prelude.{OnOk, IsErrAnd, MatchOption, is_ok, is_err}

pub on_ok3 : {T E : Type 0} (r : Result T E) {A B C D : Type 0} → OnOk r A → OnOk r B → OnOk r C → (A → B → C → D) → OnOk r D
on_ok3 (Ok x) a b c f = f a b c
on_ok3 (Err e) a b c f = a

pub on_ok : {T E : Type 0} (r : Result T E) {A B : Type 0} → OnOk r A → (A → B) → OnOk r B
on_ok (Ok x) a f = f a
on_ok (Err e) a f = a

-- a result that succeeded exactly if another one did
pub on_ok_as : {T U E F : Type 0} (q : Result U F) (r : Result T E) {A B : Type 0} → is_ok q ≡ is_ok r → OnOk r A → (A → B) → OnOk q B
on_ok_as (Err f) r e a g = tt
on_ok_as (Ok y) (Ok x) e a g = g a
on_ok_as (Ok y) (Err x) e a g = let no : true ≡ false = e in absurd (cc)

-- an error that is passed on as it is
pub passed_on : {T U E : Type 0} (r : Result T E) (e f : E) → IsErrAnd r (λ x. x ≡ e) → r ≡ Err f → (let q : Result U E = Err e in q) ≡ Err f
passed_on (Ok x) e f h is = absurd h
passed_on {T} {U} {E} (Err x) e f h is = let same : x ≡ f = cc in ap (λ (y : E). let q : Result U E = Err y in q) (sym h ∙ same)

-- a result that is no error
pub ok_of : {T E : Type 0} (r : Result T E) {A : Type 0} → OnOk r A → false ≡ is_err r → A
ok_of (Ok x) a e = a
ok_of (Err x) a e = let no : false ≡ true = e in absurd (cc)

-- what holds of an option that is known
pub at_some : {X : Type 0} (A : Type 0) (B : X → Type 0) (o : Option X) (x : X) → MatchOption o A B → o ≡ Some x → B x
at_some {X} A B o x h e = let there : MatchOption (Some x) A B = subst (λ (p : Option X). MatchOption p A B) e h in there

pub at_none : {X : Type 0} (A : Type 0) (B : X → Type 0) (o : Option X) → MatchOption o A B → o ≡ None → A
at_none {X} A B o h e = let there : MatchOption (let none : Option X = None in none) A B = subst (λ (p : Option X). MatchOption p A B) e h in there
