-- How the end of a part is the end of the whole.
use Rattle.std.proofs.Common.{◌≡◌, Result, Ok, Err, sym, subst}
use Rattle.std.specs.Result.{IsErrAnd}
use Rattle.problem_text.specs.declared.line_end.LineEnd.{LineEnd}
use Rattle.problem_text.specs.declared.line_end.LineEnd.TheVariants as ends
use Rattle.wcsp_text.specs.declared.fault.Fault.{Fault}
use Rattle.wcsp_text.specs.Gives.{Ends, Gives}

-- a part's fault is the whole's; running out of memory says nothing
pub ends-up : {A B : Type 0} (part : Result A Fault) (whole : Result B Fault) (end : LineEnd Fault) → Ends end part → ((fault : Fault) → part ≡ Err fault → whole ≡ Err fault) → Ends end whole
ends-up part whole (ends.Fault fault) h up = up fault h
ends-up part whole ends.NoMemory h up = h

-- a part's end that is handed on
pub gives-up : {A B C : Type 0} (view : B → C) (part : Result A Fault) (whole : Result C Fault) (end : LineEnd Fault) (result : Result B (LineEnd Fault)) → IsErrAnd result (λ e. e ≡ end) → Ends end part → ((fault : Fault) → part ≡ Err fault → whole ≡ Err fault) → Gives view result whole
gives-up view part whole end (Ok x) same h up = absurd same
gives-up {A} {B} {C} view part whole end (Err e) same h up = ends-up part whole e (subst (λ (e : LineEnd Fault). Ends e part) (sym same) h) up
